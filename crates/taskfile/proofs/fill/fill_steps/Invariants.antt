-- Before each record, the steps passed are written and the others come from there on; and each turn leaves one record less.
use lib.ListN.{length}
use Rattle.taskfile.specs.Workers.{records_left, SameTables}
use Rattle.taskfile.proofs.Filling.{Filling}
use Rattle.taskfile.proofs.fill.fill_steps.Given as goal

abbrev pub invariant-loop-record : goal.invariant-loop-record
invariant-loop-record l = record {
  same : SameTables l.initial.tables l.tables;
  filling : Filling (records_left l.initial.records) l.initial.tables.needs.now l.initial.tables.sets.now l.initial.tables.clears.now l.initial.tables.costs.now
      l.tables.needs.now l.tables.sets.now l.tables.clears.now l.tables.costs.now l.step (records_left l.records);
}

abbrev pub decreases-loop-record : goal.decreases-loop-record
decreases-loop-record l = length (records_left l.records)
