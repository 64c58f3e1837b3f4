-- What the reader answers, and what stands in the six lent tables after it.
use Rattle.std.specs.Prelude.{ℕ, ◌*◌, Bool, List, ◌++◌, length, drop, Result, Ok, Err}
use Rattle.sets.specs.Tests.{no, both, below}
use Rattle.task.specs.Tables.{Tables}
use Rattle.task.specs.Refusal.{Refusal, Verdict, answered}
use Rattle.task.specs.declared.tables.Sizes.{Sizes}
use Rattle.taskfile.specs.declared.cursor.Room.{Room}
use Rattle.taskfile.specs.Judging.{file_verdict}
use Rattle.taskfile.specs.Meaning.{file_tables}

abbrev pub room_of : ℕ → ℕ → ℕ → ℕ → ℕ → ℕ → Room
room_of needs sets clears costs start goal = record { needs = needs; sets = sets; clears = clears; costs = costs; start = start; goal = goal }

-- m steps fit: 4m words of needs, sets and clears, m costs, 4 words of start and goal
unfoldable pub fits_in : Room → ℕ → Bool
fits_in room m =
    both (no (below room.needs (4 * m)))
    (both (no (below room.sets (4 * m)))
    (both (no (below room.clears (4 * m))) (both (no (below room.costs m)) (both (no (below room.start 4)) (no (below room.goal 4))))))

-- the sizes of the task, or the refusal
unfoldable pub reading_by : Verdict → Tables → Result Sizes Refusal
reading_by v t = answered v (record { facts = t.facts; steps = t.steps })

unfoldable pub reading_of : Room → List ℕ → Result Sizes Refusal
reading_of room file = reading_by (file_verdict (fits_in room) file) (file_tables file)

-- a table after the call: the words of the task first, and beyond them what stood there; as it was where the file is refused
unfoldable pub read_into : Verdict → List ℕ → List ℕ → List ℕ
read_into (Ok done) words before = words ++ drop (length words) before
read_into (Err r) words before = before
