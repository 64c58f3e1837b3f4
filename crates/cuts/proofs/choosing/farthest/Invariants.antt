-- What was found is the lowest of the farthest among the members visited so far.
use Rattle.sets.specs.Words.{has}
use Rattle.distance.specs.Distance.{entry}
use Rattle.cuts.proofs.FarthestFound.{Looked}
use Rattle.cuts.proofs.choosing.farthest.Given as goal

abbrev pub invariant-loop-f : goal.invariant-loop-f
invariant-loop-f l = Looked l.n (has l.fn.set.words) (has l.f-iterator.left.words) (entry l.table) l.found l.most
