-- What `reach` answers: the set and the number of passes, or why the task is refused.
use Rattle.std.specs.Prelude.{Result}
use Rattle.sets.specs.Words.{words_of}
use Rattle.task.specs.Task.{Task}
use Rattle.task.specs.Tables.{Tables, view}
use Rattle.task.specs.Refusal.{Refusal, answered}
use Rattle.task.specs.Check.{verdict_of}
use Rattle.reach.specs.declared.Reached.{Reached}
use Rattle.reach.specs.Reach.{reach, passes}

unfoldable pub reached_by : Task → Reached
reached_by t = record { set = record { words = words_of 4 (reach t) }; passes = passes t }

unfoldable pub reached_of : Tables → Result Reached Refusal
reached_of t = answered (verdict_of t) (reached_by (view t))
