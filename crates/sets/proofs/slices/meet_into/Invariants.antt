-- Word by word the words become those of the met sets: an and of two words has the bits of both.
use Rattle.sets.specs.Sets.{met}
use Rattle.sets.specs.Words.{has}
use Rattle.sets.proofs.Loops.{Written}
use Rattle.sets.proofs.slices.meet_into.Given as goal

abbrev pub invariant-loop-i : goal.invariant-loop-i
invariant-loop-i l = Written (met (has l.initial.words) (has l.others)) l.initial.words l.words l.i
