-- Whether every member of the first i words is one of the others.
use Prim.Native.Nat.{◌*◌}
use mathlib.Core.Path.{◌≡◌}
use Rattle.sets.specs.Sets.{within}
use Rattle.sets.specs.Words.{has}
use Rattle.sets.proofs.slices.all_within.Given as goal

abbrev pub invariant-loop-i : goal.invariant-loop-i
invariant-loop-i l = l.within ≡ within (l.i * 64) (has l.words) (has l.others)
