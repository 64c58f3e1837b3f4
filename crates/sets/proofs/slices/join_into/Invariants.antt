-- Word by word the words become those of the joined sets: an or of two words has the bits of either.
use Rattle.sets.specs.Sets.{joined}
use Rattle.sets.specs.Words.{has}
use Rattle.sets.proofs.Loops.{Written}
use Rattle.sets.proofs.slices.join_into.Given as goal

abbrev pub invariant-loop-i : goal.invariant-loop-i
invariant-loop-i l = Written (joined (has l.initial.words) (has l.others)) l.initial.words l.words l.i
