-- Word by word the words become those of the numbers below n, of which `left` are from this word on.
use Prim.Native.Nat.{◌-◌, ◌*◌}
use mathlib.Core.Path.{◌≡◌}
use Rattle.sets.specs.Sets.{up_to}
use Rattle.sets.proofs.Loops.{Written}
use Rattle.sets.proofs.slices.fill_up_to.Given as goal

abbrev pub invariant-loop-word : goal.invariant-loop-word
invariant-loop-word l = record {
  filled : Written (up_to l.n) l.initial.words l.words l.word-index;
  below : l.left ≡ l.n - l.word-index * 64;
}
