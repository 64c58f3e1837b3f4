use borrow.Author.Rules.{rules}
use Rattle.cuts.proofs.GrownSets.{region_ruled}
use Rattle.cuts.proofs.growing.RegionGrowthRule.given.Goals as goal

pub returns : goal.returns
returns c = λ below_n.
    let graph = c.args.self.now.graph.now in
    c.pass.ensures.by_rule _ _ (region_ruled _ graph.task.valid _ _ graph.choice_each _ _ (λ s X Y l e. search rules)) below_n
