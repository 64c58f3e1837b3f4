use mathlib.Core.Path.{sym, ◌∙◌}
use borrow.Author.Rules.{rules}
use Rattle.report.proofs.Writing.{writes_refused}
use Rattle.report.proofs.TaskLines.{reach_refused, pass_refused, take_refused, take_fine, task_written}
use Rattle.report.proofs.analysis.task_report.Goals as goal

pub returns-in_err-reached : goal.returns-in_err-reached
returns-in_err-reached c = writes_refused _ _ _ _ _ (search rules) (reach_refused _ _ (sym c.reach.ensures ∙ c.in_err-reached.was))

pub returns-in_err-passed : goal.returns-in_err-passed
returns-in_err-passed c = writes_refused _ _ _ _ _ (search rules) (pass_refused _ _ (sym c.must_pass.ensures ∙ c.in_err-passed.was))

pub returns-in_err-taken : goal.returns-in_err-taken
returns-in_err-taken c = writes_refused _ _ _ _ _ (search rules) (take_refused _ _ (sym c.must_take.ensures ∙ c.in_err-taken.was))

pub rounds_report-requires : goal.rounds_report-requires
rounds_report-requires c = record { steps = c.requires; fine = take_fine _ _ (sym c.must_take.ensures ∙ c.in_ok-taken.was) }

pub returns : goal.returns
returns c = record {
  verdict = sym (take_fine _ _ (sym c.must_take.ensures ∙ c.in_ok-taken.was));
  written =
      task_written _ _ _ _ _ _ _ (sym c.reach.ensures ∙ c.in_ok-reached.was) (sym c.must_pass.ensures ∙ c.in_ok-passed.was)
      (sym c.must_take.ensures ∙ c.in_ok-taken.was) c.task_lines.ensures c.rounds_report.ensures;
}
