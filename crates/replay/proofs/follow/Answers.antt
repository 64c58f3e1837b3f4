use native.Mathlib.Omega.{arith}
use borrow.Author.Rules.{rules}
use Rattle.replay.proofs.Judging.{judged}
use Rattle.replay.proofs.Following.{follow_first, follow_cost, follow_stuck, follow_next, follow_done, follow_short}
use Rattle.replay.proofs.follow.Goals as goal

pub loop-entry-init : goal.loop-entry-init
loop-entry-init c = search (rules, follow_first)

pub returns-then-not-can_take : goal.returns-then-not-can_take
returns-then-not-can_take c = search (rules, follow_stuck)

pub overflow_add-cost : goal.overflow_add-cost
overflow_add-cost c =
    let known = judged _ _ c.requires in
    omega (arith, follow_cost _ known.task _ _ _ _ _ c.loop-entry.invariant.followed c.loop-entry-test.true c.from-step.ensures known.short c.from-cost.ensures)

pub loop-entry-preserved : goal.loop-entry-preserved
loop-entry-preserved c = search (rules, follow_next)

pub returns-then-within : goal.returns-then-within
returns-then-within c = search (rules, follow_done)

pub returns : goal.returns
returns c = search (rules, follow_short)

pub bounds-tables-step : goal.bounds-tables-step
bounds-tables-step c =
    let known = judged _ _ c.requires in
    omega (arith, known.numbered _ c.loop-entry-test.true, known.task.costs_length, c.from-step.ensures)
