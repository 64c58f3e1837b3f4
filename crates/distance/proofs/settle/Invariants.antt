-- Each pass that changes the table lowers its sum and nothing below a table that no step relaxes; one that changes nothing leaves a table that no step relaxes.
use lib.ListN.{length}
use Rattle.sets.specs.Sets.{none}
use Rattle.sets.specs.Words.{has}
use Rattle.distance.specs.Distance.{entry}
use Rattle.task.specs.Rows.{rows_task}
use Rattle.distance.specs.Relaxing.{sum, Reduced}
use Rattle.distance.proofs.settle.Given as goal

abbrev pub invariant-loop-off : goal.invariant-loop-off
invariant-loop-off l = Reduced (rows_task (length l.initial.table) (length l.costs) l.tables.needs.now l.tables.sets.now (has l.off.words) none) (entry l.costs) l.initial.table l.table

abbrev pub decreases-loop-off : goal.decreases-loop-off
decreases-loop-off l = sum (length l.initial.table) (entry l.table)
