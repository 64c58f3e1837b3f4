-- The first i words have no member.
use Prim.Native.Nat.{ℕ, ◌*◌, ◌<◌}
use mathlib.Core.Path.{◌≡◌}
use mathlib.Core.Bool.{false}
use Rattle.sets.specs.Words.{has}
use Rattle.sets.proofs.slices.lowest_member.Given as goal

abbrev pub invariant-loop-i : goal.invariant-loop-i
invariant-loop-i l = (f : ℕ) → f < l.i * 64 → has l.words f ≡ false
