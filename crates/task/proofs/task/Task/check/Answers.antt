use mathlib.Core.Path.{sym, ◌∙◌}
use Rattle.task.proofs.Checking.{checked}
use Rattle.task.proofs.task.Task.check.Goals as goal

pub invariant_of-result : goal.invariant_of-result
invariant_of-result c =
    let fine = sym c.check.ensures ∙ c.in_ok-check.was in record { valid = checked _ fine; fine = fine }
