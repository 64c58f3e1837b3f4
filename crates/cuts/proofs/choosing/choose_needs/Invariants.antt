-- The choices of the steps before the present one are written.
use Prim.Native.Nat.{ℕ, ◌<◌}
use mathlib.Core.Path.{◌≡◌}
use Rattle.task.specs.Lent.{lent}
use Rattle.task.specs.Tables.{view}
use Rattle.distance.specs.Distance.{entry}
use Rattle.cuts.proofs.FarthestFound.{choice_of}
use Rattle.cuts.proofs.choosing.choose_needs.Given as goal

abbrev pub invariant-loop-step : goal.invariant-loop-step
invariant-loop-step l = (s : ℕ) → s < l.step → entry l.chosen s ≡ choice_of (view (lent l.task.tables)) l.table s
