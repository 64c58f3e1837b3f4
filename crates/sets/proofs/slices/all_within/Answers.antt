use borrow.Author.Rules.{rules}
use Rattle.sets.specs.Sets.{all, within}
use Rattle.sets.proofs.Loops.{within_word}
use Rattle.sets.proofs.slices.all_within.Goals as goal

pub loop-i-init : goal.loop-i-init
unfolding within all
loop-i-init c = search rules

pub loop-i-preserved : goal.loop-i-preserved
loop-i-preserved c = within_word _ _ _ _ c.word.ensures (c.type_inv.words _) (search rules) c.loop-i.invariant
