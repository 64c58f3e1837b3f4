-- The least so far is the least among the steps before the present one.
use mathlib.Core.Path.{◌≡◌}
use Rattle.sets.specs.Words.{has}
use Rattle.task.specs.Limits.{limits}
use Rattle.distance.specs.Distance.{least, entry}
use Rattle.cuts.proofs.costs.cheapest.Given as goal

abbrev pub invariant-loop-step : goal.invariant-loop-step
invariant-loop-step l = l.least ≡ least limits.mark l.step (has l.cut.words) (entry l.costs)
