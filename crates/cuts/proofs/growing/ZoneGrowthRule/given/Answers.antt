use borrow.Author.Rules.{rules}
use Rattle.cuts.proofs.GrownSets.{zone_ruled}
use Rattle.cuts.proofs.growing.ZoneGrowthRule.given.Goals as goal

pub returns : goal.returns
returns c = λ below_n.
    let graph = c.args.self.now.graph.now in
    c.pass.ensures.by_rule _ _ (zone_ruled _ graph.task.valid _ _ graph.choice_each graph.costs.now _ (λ s X Y l e. search rules)) below_n
