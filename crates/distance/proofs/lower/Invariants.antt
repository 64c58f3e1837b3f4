-- The members that are still to come have not been looked at yet.
use Rattle.sets.specs.Sets.{members}
use Rattle.sets.specs.Words.{has}
use Rattle.distance.proofs.Members.{Lowering}
use Rattle.distance.proofs.lower.Given as goal

abbrev pub invariant-loop-f : goal.invariant-loop-f
invariant-loop-f l = Lowering (has l.fn.set.words) (members 256 (has l.f-iterator.left.words)) l.x l.initial.table l.table l.changed
