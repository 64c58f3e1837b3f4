use mathlib.Core.Path.{ap, ◌∙◌}
use borrow.Author.Rules.{rules}
use Rattle.sets.specs.Tests.{both}
use Rattle.sets.specs.Words.{has, words_of}
use Rattle.task.specs.Lent.{lent}
use Rattle.task.specs.Tables.{view}
use Rattle.cuts.specs.Workers.{sets_into, leads_from}
use Rattle.cuts.proofs.GrownSets.{cut_is}
use Rattle.cuts.proofs.growing.Graph.cut.Goals as goal

pub returns : goal.returns
unfolding both
returns c =
    let graph = c.args.self.now in
    let t = view (lent graph.task.tables) in
    c.steps_where.ensures
    (λ s. both (leads_from t (has graph.counted.words) graph.chosen.now (has c.args.region.words) s) (sets_into t (has c.args.zone.words) s))
    (λ s told l e. search rules)
    ∙ ap (words_of 16) (cut_is _ graph.task.valid (has graph.counted.words) graph.chosen.now graph.choice_each (has c.args.zone.words) (has c.args.region.words))
