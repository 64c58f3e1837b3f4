use mathlib.Core.Path.{refl}
use borrow.Author.Rules.{rules}
use Rattle.sets.specs.Sets.{all}
use Rattle.task.proofs.Checking.{facts_stop, facts_next}
use Rattle.task.specs.Check.{only_facts}
use Rattle.task.proofs.checks.only_facts.Goals as goal

pub loop-number-init : goal.loop-number-init
unfolding all
loop-number-init c = refl

pub returns-then-not-within : goal.returns-then-not-within
returns-then-not-within c = search (rules, facts_stop)

pub loop-number-preserved : goal.loop-number-preserved
loop-number-preserved c = search (rules, facts_next)

pub returns : goal.returns
unfolding only_facts
returns c = search rules
