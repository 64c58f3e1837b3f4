use borrow.Author.Rules.{rules}
use Rattle.distance.proofs.Relaxing.{settle_next, settle_end}
use Rattle.distance.proofs.settle.Goals as goal

pub loop-off-preserved : goal.loop-off-preserved
loop-off-preserved c = search (rules, settle_next)

pub returns : goal.returns
returns c = search (rules, settle_end)
