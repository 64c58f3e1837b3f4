use borrow.Author.Rules.{rules}
use Rattle.task.proofs.RowsRead.{start_read}
use Rattle.cuts.proofs.GrownSets.{region_rising, grown_set, region_grown}
use Rattle.cuts.proofs.growing.Graph.region.Goals as goal

pub returns : goal.returns
returns c =
    let valid = c.args.self.now.task.valid in
    region_grown _ valid _ _ c.args.self.now.choice_each _ _ (start_read _ valid c.start_facts-start.ensures)
    (grown_set _ _ _ valid.few_facts (region_rising _ _ _ _) _ (λ X Y given. given) _ (search rules) (search rules) c.close.ensures)
