use Prim.Native.Nat.{◌≤◌}
use mathlib.Core.Path.{sym, ap, ◌∙◌}
use native.Mathlib.Omega.{arith}
use borrow.Author.Rules.{rules}
use Rattle.task.specs.Tables.{Tables}
use Rattle.report.specs.Report.{steps_room}
use Rattle.report.proofs.Writing.{writes_refused}
use Rattle.report.proofs.FileLines.{file_refused, read_few, file_reported}
use Rattle.report.proofs.analysis.file_report.Goals as goal

pub returns-in_err-sizes : goal.returns-in_err-sizes
returns-in_err-sizes c = writes_refused _ _ _ _ _ (search rules) (file_refused _ _ (sym c.read_task.ensures.answer ∙ c.in_err-sizes.was))

pub first_steps-requires : goal.first_steps-requires
first_steps-requires c =
    let bytes = c.type_inv.file in
    let few : c.in_ok-sizes.sizes.steps ≤ steps_room = read_few _ _ (sym c.read_task.ensures.answer ∙ c.in_ok-sizes.was) (λ i. omega (arith, bytes i)) in
    record {
      needs = omega arith;
      sets = omega arith;
      clears = omega arith;
      costs = omega arith;
    }

pub task_report-requires : goal.task_report-requires
task_report-requires c =
    let bytes = c.type_inv.file in
    omega (
      arith,
      read_few _ _ (sym c.read_task.ensures.answer ∙ c.in_ok-sizes.was) (λ i. omega (arith, bytes i)),
      ap (λ (t : Tables). t.steps) c.first_steps.ensures,
    )

pub returns : goal.returns
returns c =
    let bytes = c.type_inv.file in
    let read = c.read_task.ensures in
    file_reported _ _ (sym read.answer ∙ c.in_ok-sizes.was) (λ i. omega (arith, bytes i)) _ _ _ _ _ _ _ _ _ _ _ _ read.needs read.sets read.clears
    read.costs read.start read.goal (search rules) (search rules) _ _ _ _ c.first_steps.ensures c.task_report.ensures.verdict c.task_report.ensures.written
