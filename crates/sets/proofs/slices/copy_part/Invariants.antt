-- Word by word the words become the row's, which starts where `row_start` says; past the table's end both are 0.
use lib.ListN.{length}
use Rattle.sets.specs.Words.{has, row}
use Rattle.sets.proofs.Loops.{Written}
use Rattle.sets.proofs.slices.copy_part.Given as goal

abbrev pub invariant-loop-i : goal.invariant-loop-i
invariant-loop-i l = Written (has (row (length l.initial.words) l.number l.table)) l.initial.words l.words l.i
