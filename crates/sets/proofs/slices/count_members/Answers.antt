use Rattle.std.proofs.Common.{◌∙◌, rules}
use Rattle.sets.proofs.Words.{count_ones}
use Rattle.sets.proofs.slices.count_members.Goals as goal

pub returns : goal.returns
returns c = search rules ∙ count_ones c.args.words.now c.type_inv.words
