-- The numbers before f are 0 for what holds at first and the mark for the rest.
use Rattle.sets.specs.Words.{has}
use Rattle.task.specs.Limits.{limits}
use Rattle.distance.proofs.Members.{Begun}
use Rattle.distance.proofs.begin_distances.Given as goal

abbrev pub invariant-loop-f : goal.invariant-loop-f
invariant-loop-f l = Begun (has l.start.words) limits.mark l.table l.f
