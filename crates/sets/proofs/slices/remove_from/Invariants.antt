-- Word by word the words become those of what is removed from: an and with what the other word has not keeps the rest.
use Rattle.sets.specs.Sets.{removed}
use Rattle.sets.specs.Words.{has}
use Rattle.sets.proofs.Loops.{Written}
use Rattle.sets.proofs.slices.remove_from.Given as goal

abbrev pub invariant-loop-i : goal.invariant-loop-i
invariant-loop-i l = Written (removed (has l.initial.words) (has l.others)) l.initial.words l.words l.i
