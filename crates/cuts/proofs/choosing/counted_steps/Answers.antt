use borrow.Author.Rules.{rules}
use Rattle.sets.specs.Tests.{both}
use Rattle.sets.specs.Sets.{up_to, met, within}
use Rattle.sets.specs.Words.{has, row}
use Rattle.cuts.specs.Workers.{counted_from}
use Rattle.cuts.proofs.choosing.counted_steps.Goals as goal

pub returns : goal.returns
unfolding counted_from met up_to both
returns c =
    c.steps_where.ensures (λ s. within 256 (has (row 4 s c.args.task.tables.needs.now)) (has c.args.reached.words)) (λ s told l e. search rules)
