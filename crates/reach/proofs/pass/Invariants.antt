-- Before each step, what the steps before it make of the facts that held when the pass began has been added.
use mathlib.Core.Path.{◌≡◌}
use Rattle.sets.specs.Sets.{joined}
use Rattle.sets.specs.Words.{has, words_of}
use Rattle.reach.specs.Reach.{made}
use Rattle.task.specs.Lent.{lent}
use Rattle.task.specs.Rows.{rows_task}
use Rattle.reach.proofs.pass.Given as goal

abbrev pub invariant-loop-step : goal.invariant-loop-step
invariant-loop-step l =
    let t = lent l.task.tables in
    l.next.words ≡ words_of 4 (joined (has l.holding.words) (made (rows_task t.facts l.step t.needs t.sets (has l.off.words) (has t.start)) (has l.holding.words)))
