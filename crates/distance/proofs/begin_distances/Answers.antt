use borrow.Author.Rules.{rules}
use Rattle.distance.proofs.Lists.{list_only}
use Rattle.distance.proofs.Members.{begin_member, begin_other}
use Rattle.distance.proofs.begin_distances.Goals as goal
use Rattle.distance.proofs.begin_distances.Goals.{then-has, else-has}

pub loop-f-preserved : goal.loop-f-preserved
loop-f-preserved c = elim c.if-has.branch [ then-has w ↦ search (rules, begin_member) | else-has w ↦ search (rules, begin_other) ]

pub returns : goal.returns
returns c = search (rules, list_only)
