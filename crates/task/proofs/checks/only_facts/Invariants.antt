-- All rows before the one looked at hold only facts below n.
use Rattle.sets.specs.Tests.{Is}
use Rattle.sets.specs.Sets.{all}
use Rattle.task.proofs.Checking.{row_fits}
use Rattle.task.proofs.checks.only_facts.Given as goal

abbrev pub invariant-loop-number : goal.invariant-loop-number
invariant-loop-number l = Is (all l.number (row_fits l.n l.table))
