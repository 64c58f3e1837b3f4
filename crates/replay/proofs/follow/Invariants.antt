-- After so many entries the rest of the walk, from the set that holds there, makes up the rest of the answer.
use mathlib.Core.Path.{◌≡◌}
use lib.ListN.{length}
use Rattle.sets.specs.Words.{has}
use Rattle.task.specs.Lent.{lent}
use Rattle.replay.specs.Rows.{task_without}
use Rattle.replay.proofs.Following.{Followed}
use Rattle.replay.proofs.follow.Given as goal

abbrev pub invariant-loop-entry : goal.invariant-loop-entry
invariant-loop-entry l = record {
  four : length l.holding.words ≡ 4;
  followed : Followed (task_without (lent l.tables) (has l.off.words)) l.walk (has l.holding.words) l.cost l.entry;
}
