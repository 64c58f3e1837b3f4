use mathlib.Core.Path.{sym, ◌∙◌}
use Rattle.taskfile.specs.Answer.{fits_in}
use Rattle.taskfile.proofs.Verdicts.{fine_counts}
use Rattle.taskfile.proofs.Judging.{goes_within}
use Rattle.taskfile.proofs.judge.judge_next.Goals as goal

pub go_on-requires : goal.go_on-requires
go_on-requires c = record {
  inside = goes_within (fits_in c.args.room) _ c.args.cursor c.if-cursor-file.false c.record_at.ensures c.in_ok-item.was;
  counted = fine_counts _ c.args.cursor _ (sym c.judge.ensures ∙ c.in_ok-judge.was);
}
