use Prim.Native.Nat.{max}
use mathlib.Core.Path.{◌∙◌}
use borrow.Author.Rules.{rules}
use Rattle.std.proofs.lemmas.Iterator.Consumers.{YieldsList-from_first, fold_from_yields_List}
use Rattle.sets.specs.Sets.{members}
use Rattle.sets.specs.Words.{has}
use Rattle.distance.specs.Distance.{entry}
use Rattle.distance.proofs.Extremes.{largest_members}
use Rattle.distance.proofs.set_distance.Goals as goal

pub returns : goal.returns
returns c =
    fold_from_yields_List _ (λ most f. max most (entry c.args.table.now f)) 0 _ c.fold.ensures.ran
    (YieldsList-from_first (λ f. f) (λ s. members 256 (has s.left.words)) (members 256 (has c.args.set.words)) (rw c.members.ensures))
    (λ most f r q k. search rules)
    ∙ largest_members 256 (has c.args.set.words) (entry c.args.table.now)
