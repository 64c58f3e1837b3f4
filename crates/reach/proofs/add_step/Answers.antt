use borrow.Author.Rules.{rules}
use Rattle.reach.proofs.Passes.{step_off, step_idle, step_adds}
use Rattle.reach.proofs.add_step.Goals as goal

pub returns-then-has : goal.returns-then-has
returns-then-has c = search (rules, step_off)

pub returns-then-not-needs_hold : goal.returns-then-not-needs_hold
returns-then-not-needs_hold c = search (rules, step_idle)

pub returns : goal.returns
returns c = search (rules, step_adds)
