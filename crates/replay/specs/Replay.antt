-- Replaying a walk, in document 01's words: what it answers over a task free of tables, what it refuses, and the two together.
use Rattle.std.specs.Prelude.{ℕ, suc, List, [], ◌∷◌, length, get_or, Result, Ok, Err}
use Rattle.sets.specs.Tests.{no, below, pick}
use Rattle.sets.specs.Sets.{Set, lowest}
use Rattle.task.specs.declared.refusal.Fault.TheVariants.{WalkLength, StepNumber}
use Rattle.task.specs.Limits.{limits}
use Rattle.task.specs.Task.{Task}
use Rattle.task.specs.Walks.{possible, taking, after, goal_holds, walk_cost}
use Rattle.task.specs.Tables.{Tables, view}
use Rattle.task.specs.Refusal.{Refusal, Verdict, refusal, refused_if, first_refusal, answered}
use Rattle.task.specs.Check.{verdict_of}
use Rattle.replay.specs.declared.Replayed.{Replayed}
use Rattle.replay.specs.declared.Replayed.TheVariants.{Done, Stuck, Short}

module _ (t : Task) where
  -- how many entries, from the first on, can be taken in turn where X held at first
  unfoldable pub taken_before : Set → List ℕ → ℕ
  taken_before X [] = 0
  taken_before X (s ∷ w) = pick (possible t X s) (suc (taken_before (taking t X s) w)) 0

  -- stuck at the first entry that cannot be taken; if there is none, done with the cost or short of the goal
  unfoldable pub walked : List ℕ → Replayed
  walked w =
      pick (below (taken_before t.start w) (length w)) (Stuck (taken_before t.start w))
      (pick (goal_holds t (after t t.start w)) (Done (walk_cost t w)) Short)

-- the place of the first entry that is m or more; the walk's length where there is none
unfoldable pub first_past : ℕ → List ℕ → ℕ
first_past m w = lowest (length w) (λ i. no (below (get_or w i 0) m))

-- 9, with that place, where there is such an entry
unfoldable pub refused_past : ℕ → List ℕ → Verdict
refused_past m w = pick (below (first_past m w) (length w)) (Err (refusal StepNumber (first_past m w))) (Ok tt)

-- 1 to 5 of the task, 8 for a walk of too many entries, 9 for an entry that is no step's number
unfoldable pub walk_verdict : Tables → List ℕ → Verdict
walk_verdict t w =
    first_refusal (verdict_of t ∷ refused_if (below limits.walk (length w)) WalkLength ∷ refused_past t.steps w ∷ [])

-- what `replay` answers for the tables as they are lent: why it refuses, or the answer by the walk
unfoldable pub replayed_of : Tables → List ℕ → Result Replayed Refusal
replayed_of t w = answered (walk_verdict t w) (walked (view t) w)
