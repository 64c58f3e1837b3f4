-- Before each record, the facts found and those named from there on are those asked for.
use Rattle.taskfile.specs.Workers.{records_left}
use Rattle.taskfile.proofs.Filling.{Gathered}
use Rattle.taskfile.proofs.fill.facts_named.Given as goal

abbrev pub invariant-loop-record : goal.invariant-loop-record
invariant-loop-record l = record {
  can : (goal.iterator-loop-record).can_next l.record-iterator;
  ends : (goal.iterator-loop-record).is_finite l.record-iterator;
  gathered : Gathered l.part (records_left l.records) l.facts.words (records_left l.record-iterator);
}
