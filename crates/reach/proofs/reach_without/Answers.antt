use borrow.Author.Rules.{rules}
use Rattle.reach.proofs.Answers.{found}
use Rattle.reach.proofs.reach_without.Goals as goal

pub returns : goal.returns
returns c = found _ c.args.task.valid _ _ c.start_facts.ensures _ (λ X Y given. search rules) c.close.ensures
