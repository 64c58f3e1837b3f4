use native.Mathlib.Omega.{arith}
use borrow.Author.Rules.{rules}
use Rattle.cuts.proofs.GrownSets.{zone_rising, grown_set, zone_grown}
use Rattle.cuts.proofs.growing.Graph.zone.Goals as goal

pub returns : goal.returns
returns c =
    let valid = c.args.self.now.task.valid in
    zone_grown _ valid _ _ c.args.self.now.choice_each _ c.args.choice (omega arith) c.empty.ensures c.with-last.ensures
    (grown_set _ _ _ valid.few_facts (zone_rising _ valid.sets_facts _ _ _) _ (λ X Y given. given) _ (search rules) (search rules) c.close.ensures)
