use borrow.Author.Rules.{rules}
use Rattle.sets.proofs.Loops.{lowest_next, lowest_found, lowest_missing}
use Rattle.sets.proofs.slices.lowest_member.Goals as goal

pub returns-then-word-ne0 : goal.returns-then-word-ne0
returns-then-word-ne0 c = search (rules, lowest_found)

pub loop-i-preserved : goal.loop-i-preserved
loop-i-preserved c = search (rules, lowest_next)

pub returns : goal.returns
returns c = search (rules, lowest_missing)
