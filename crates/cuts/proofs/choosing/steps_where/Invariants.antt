-- The steps before the present one that pass have been put in.
use Prim.Native.Nat.{ℕ, ◌<◌}
use mathlib.Core.Path.{◌≡◌}
use mathlib.Core.Bool.{Bool}
use Rattle.sets.specs.Sets.{Set, up_to, met}
use Rattle.sets.specs.Words.{words_of}
use Rattle.cuts.proofs.choosing.steps_where.Given as goal

abbrev pub invariant-loop-step : goal.invariant-loop-step
invariant-loop-step g l =
    (P : Set) → ((step : ℕ) (told : Bool) → step < l.m → goal.F-post g l.test step told → told ≡ P step) → l.passed.words ≡ words_of 16 (met (up_to l.step) P)
