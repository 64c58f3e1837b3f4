use mathlib.Core.Path.{ap, ◌∙◌}
use borrow.Author.Rules.{rules}
use Rattle.std.proofs.Common.{Ok}
use Rattle.std.proofs.lemmas.Result.{err_from_is_err_and}
use Rattle.taskfile.proofs.Judging.{going_start, going_on, going_less, going_over, going_end}
use Rattle.taskfile.proofs.judge.judge_records.Goals as goal

pub loop-next-init : goal.loop-next-init
loop-next-init c = search (rules, going_start)

pub returns-in_err-next : goal.returns-in_err-next
returns-in_err-next c =
    let p = err_from_is_err_and c.from_residual.result c.from_residual.ensures.1 in
    rw (p.1, p.2) (going_over _ _ c.loop-next.cursor c.loop-next.invariant c.judge_next.ensures c.in_err-next.was)

pub loop-next-smaller : goal.loop-next-smaller
loop-next-smaller c = going_less _ _ c.loop-next.cursor c.loop-next.invariant c.judge_next.ensures (c.in_ok-next.was ∙ ap Ok c.in-Some.is)

pub loop-next-preserved : goal.loop-next-preserved
loop-next-preserved c = going_on _ _ c.loop-next.cursor c.loop-next.invariant c.judge_next.ensures (c.in_ok-next.was ∙ ap Ok c.in-Some.is)

pub returns : goal.returns
returns c = going_end _ _ c.loop-next.cursor c.loop-next.invariant c.judge_next.ensures (c.in_ok-next.was ∙ ap Ok c.in_default.is)
