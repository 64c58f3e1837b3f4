use borrow.Author.Rules.{rules}
use Rattle.reach.proofs.Passes.{pass_start, pass_next}
use Rattle.reach.proofs.pass.Goals as goal

pub loop-step-init : goal.loop-step-init
loop-step-init c = search (rules, pass_start)

pub loop-step-preserved : goal.loop-step-preserved
loop-step-preserved c = pass_next _ _ _ _ _ _ _ c.args.task.valid.needs_facts c.loop-step.invariant c.add_step-next.ensures
