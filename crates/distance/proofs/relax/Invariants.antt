-- The table has been relaxed by the steps before the present one.
use lib.ListN.{length}
use Rattle.sets.specs.Sets.{none}
use Rattle.sets.specs.Words.{has}
use Rattle.distance.specs.Distance.{entry}
use Rattle.task.specs.Rows.{rows_task}
use Rattle.distance.specs.Relaxing.{Relaxed}
use Rattle.distance.proofs.relax.Given as goal

abbrev pub invariant-loop-step : goal.invariant-loop-step
invariant-loop-step l =
    Relaxed (rows_task (length l.initial.table) (length l.costs) l.tables.needs.now l.tables.sets.now (has l.off.words) none) (entry l.costs) 0 l.step l.initial.table l.table l.again
