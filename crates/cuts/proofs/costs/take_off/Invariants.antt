-- The costs before the step have had the cost taken off, and the others are as they were.
use Prim.Native.Nat.{ℕ, ◌-◌, ◌≤◌, ◌<◌}
use mathlib.Core.Path.{◌≡◌}
use Rattle.sets.specs.Tests.{pick}
use Rattle.sets.specs.Words.{has}
use Rattle.distance.specs.Distance.{entry}
use Rattle.cuts.proofs.costs.take_off.Given as goal

abbrev pub invariant-loop-step : goal.invariant-loop-step
invariant-loop-step l = record {
  done : (s : ℕ) → s < l.step → entry l.costs s ≡ entry l.initial.costs s - pick (has l.cut.words s) l.cost 0;
  rest : (s : ℕ) → l.step ≤ s → entry l.costs s ≡ entry l.initial.costs s;
}
