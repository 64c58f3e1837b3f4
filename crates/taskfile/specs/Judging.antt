-- How a file is judged: records in file order, the first fault wins, and within one record 11, 12, 13, 1, 2, 6, 5, 14, 15.
use Rattle.std.specs.Prelude.{ℕ, zero, suc, ◌+◌, Bool, true, false, List, [], ◌∷◌, length, Option, Some, None, Result, Ok, Err}
use Rattle.std.specs.Option.{is_some}
use Rattle.sets.specs.Tests.{no, both, below, same, pick}
use Rattle.task.specs.Limits.{limits}
use Rattle.task.specs.Check.{wrong_facts, wrong_steps}
use Rattle.task.specs.Refusal.{Refusal, Verdict, refusal, or_else, first_refusal, answered}
use Rattle.task.specs.declared.refusal.Fault.{Fault}
use Rattle.task.specs.declared.refusal.Fault.TheVariants.{FactCount, StepCount, StepCost, ShortResult, CutOff, Misplaced, RecordFact, StepRecords, FileLength}
use Rattle.task.specs.declared.tables.Sizes.{Sizes}
use Rattle.taskfile.specs.declared.format.Record.TheVariants.{End, Head, Step, Names}
use Rattle.taskfile.specs.declared.format.Part.{Part}
use Rattle.taskfile.specs.declared.cursor.Cursor.{Cursor}
use Rattle.taskfile.specs.Records.{Record, is_first, longest_file, found_at}

-- the refusal at that place, where it applies
unfoldable pub refused_at : ℕ → Bool → Fault → Verdict
refused_at place true fault = Err (refusal fault place)
refused_at place false fault = Ok tt

-- before the first record
abbrev pub begin : Cursor
begin = record { at = 0; head = None; begun = 0 }

-- after one more record
abbrev pub after : Cursor → Record → Cursor
after c (Head n m) = record { at = c.at + 5; head = Some (record { facts = n; steps = m }); begun = 0 }
after c (Step cost) = record { at = c.at + 5; head = c.head; begun = c.begun + 1 }
after c (Names part f) = record { at = c.at + 3; head = c.head; begun = c.begun }
after c End = record { at = c.at + 1; head = c.head; begun = c.begun }

-- what a head says
abbrev pub sizes_in : Option Sizes → Sizes
sizes_in (Some sizes) = sizes
sizes_in None = record { facts = 0; steps = 0 }

-- whether there is one
abbrev pub headed : Cursor → Bool
headed c = is_some c.head

abbrev pub facts_of : Cursor → ℕ
facts_of c = (sizes_in c.head).facts

abbrev pub steps_of : Cursor → ℕ
steps_of c = (sizes_in c.head).steps

-- start and goal stand before the first step; needs, sets and clears after one
unfoldable pub fact_in_place : Cursor → Part → Bool
fact_in_place c part = both (headed c) (pick (is_first part) (same c.begun 0) (below 0 c.begun))

-- 13 unless the head is first and only once, and each fact has its place
unfoldable pub in_place : Cursor → Record → Bool
in_place c (Head n m) = no (headed c)
in_place c (Names part f) = fact_in_place c part
in_place c (Step cost) = headed c
in_place c End = headed c

-- the numbers of a record in place: 1, 2 and 6 of a head, 5 and 15 of a step, 14 of a fact, 15 of an end; `room m` says that m steps fit the tables
unfoldable pub numbers_verdict : (ℕ → Bool) → Cursor → Record → Verdict
numbers_verdict room c (Head n m) =
    first_refusal
    (refused_at c.at (wrong_facts n) FactCount
    ∷ refused_at c.at (wrong_steps m) StepCount ∷ refused_at c.at (no (room m)) ShortResult ∷ [])
numbers_verdict room c (Step cost) =
    first_refusal
    (refused_at c.at (below limits.cost cost) StepCost ∷ refused_at c.at (no (below c.begun (steps_of c))) StepRecords ∷ [])
numbers_verdict room c (Names part f) = refused_at c.at (no (below f (facts_of c))) RecordFact
numbers_verdict room c End = refused_at c.at (no (same c.begun (steps_of c))) StepRecords

unfoldable pub record_verdict : (ℕ → Bool) → Cursor → Record → Verdict
record_verdict room c r = or_else (refused_at c.at (no (in_place c r)) Misplaced) (numbers_verdict room c r)

-- after a sound record one goes on; a sound end is the last, and a byte after it is 13 there
unfoldable pub went_on : ℕ → Cursor → Record → Result (Option Cursor) Refusal
went_on size c End = answered (refused_at (c.at + 1) (below (c.at + 1) size) Misplaced) None
went_on size c (Head n m) = Ok (Some (after c (Head n m)))
went_on size c (Step cost) = Ok (Some (after c (Step cost)))
went_on size c (Names part f) = Ok (Some (after c (Names part f)))

-- a refusal ends it
unfoldable pub if_fine : Verdict → Result (Option Cursor) Refusal → Result (Option Cursor) Refusal
if_fine (Ok done) next = next
if_fine (Err r) next = Err r

-- what stands at the cursor, in a file of that size
unfoldable pub found_judged : (ℕ → Bool) → ℕ → Cursor → Result Record Refusal → Result (Option Cursor) Refusal
found_judged room size c (Ok r) = if_fine (record_verdict room c r) (went_on size c r)
found_judged room size c (Err r) = Err r

-- one record; a file that stops between records is 12 at its length
unfoldable pub judged_at : (ℕ → Bool) → List ℕ → Cursor → Result (Option Cursor) Refusal
judged_at room file c =
    pick (below c.at (length file)) (found_judged room (length file) c (found_at file c.at)) (Err (refusal CutOff (length file)))

-- the verdict of those that follow, or that of the end
unfoldable pub onward : (Cursor → Verdict) → Result (Option Cursor) Refusal → Verdict
onward rest (Ok (Some c)) = rest c
onward rest (Ok None) = Ok tt
onward rest (Err r) = Err r

-- the records from the cursor on, at most k of them
unfoldable pub records_verdict : (ℕ → Bool) → List ℕ → ℕ → Cursor → Verdict
records_verdict room file zero c = Err (refusal CutOff (length file))
records_verdict room file (suc k) c = onward (λ next. records_verdict room file k next) (judged_at room file c)

-- the whole file: 16 before anything else
unfoldable pub file_verdict : (ℕ → Bool) → List ℕ → Verdict
file_verdict room file =
    or_else (refused_at longest_file (below longest_file (length file)) FileLength) (records_verdict room file (length file + 1) begin)
