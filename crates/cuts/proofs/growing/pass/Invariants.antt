-- Before each step, the set has grown by the steps before it.
use Prim.Native.Nat.{ℕ, ◌<◌}
use Rattle.sets.specs.Tests.{Is}
use Rattle.sets.specs.Sets.{Set}
use Rattle.sets.specs.Words.{has}
use Rattle.cuts.specs.Workers.{RuledBy, Passed}
use Rattle.cuts.proofs.growing.pass.Given as goal

abbrev pub invariant-loop-step : goal.invariant-loop-step
invariant-loop-step g l =
    (n : ℕ) (by : Set → ℕ → Set) → RuledBy n l.m by (goal.F-post g l.grown) → ((f : ℕ) → Is (has l.fn.set.words f) → f < n)
    → Passed n l.step by (has l.fn.set.words) l.next.words
