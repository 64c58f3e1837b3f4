use borrow.Author.Rules.{rules}
use Rattle.cuts.proofs.GrownSets.{heads_none, heads_some}
use Rattle.cuts.proofs.growing.Graph.with_heads.Goals as goal

pub returns-then-leads_from : goal.returns-then-leads_from
returns-then-leads_from c =
    heads_some _ _ _ _ _ _ c.leads_from.ensures (c.args.self.now.task.valid.sets_facts _) c.if-leads_from.true c.sets_of.ensures c.removing.ensures c.joining.ensures

pub returns-else-leads_from : goal.returns-else-leads_from
returns-else-leads_from c = heads_none _ _ _ _ _ _ c.leads_from.ensures (search rules) (search rules) c.if-leads_from.false
