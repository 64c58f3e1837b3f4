-- Document 01's table of refusals: the condition of each number in document 01's words, and which of them each operation can give, lowest first. The numbers
-- are those of the faults.
use Rattle.std.specs.Prelude.{ℕ, ◌*◌, ◌/◌, ◌≤◌, ◌<◌, ◌≡◌, List, [], ◌∷◌, ◌++◌, ◌⊎◌, ◌↔◌, length, get_or, Contains, Result, Ok, Err}
use Rattle.sets.specs.Tests.{Is}
use Rattle.sets.specs.Words.{has, row}
use Rattle.task.specs.declared.refusal.Fault.{Fault}
use Rattle.task.specs.declared.refusal.Fault.TheVariants as fault
use Rattle.task.specs.Refusal.{Refusal, Verdict, number_of, refusal}
use Rattle.task.specs.Tables.{Tables, view}
use Rattle.task.specs.Walks.{way_to_goal}
use Rattle.replay.specs.Replay.{first_past}

-- ---- what is said of an answer

-- a refusal that an operation can give, and when it applies
pub record Rule : Type 1 where
  pub refusal : Refusal
  pub when : Type 0

-- one at place 0
abbrev pub rule : Fault → Type 0 → Rule
rule fault when = record { refusal = refusal fault 0; when = when }

abbrev pub numbers_of : List Rule → List ℕ
numbers_of [] = []
numbers_of (q ∷ qs) = number_of q.refusal.fault ∷ numbers_of qs

-- none of them applies
abbrev pub NoneApplies : List Rule → Type 0
NoneApplies [] = Unit {0}
NoneApplies (q ∷ qs) = ¬ q.when × NoneApplies qs

-- the first of them that applies is this one
abbrev pub FirstThatApplies : Refusal → List Rule → Type 0
FirstThatApplies r [] = ⊥
FirstThatApplies r (q ∷ qs) = (q.when × (q.refusal ≡ r)) ⊎ (¬ q.when × FirstThatApplies r qs)

-- the verdict v of an operation that can give these refusals, listed by rising numbers
pub record Judged (numbers : List ℕ) (qs : List Rule) (v : Verdict) : Type 0 where
  -- it is an answer or a refusal of one of these numbers
  pub ends : (v ≡ Ok tt) ⊎ ((r : Refusal) × Contains numbers (number_of r.fault) × (v ≡ Err r))
  -- nothing is refused exactly if none of them applies
  pub answers : (v ≡ Ok tt) ↔ NoneApplies qs
  -- a refusal is given exactly if it applies and none of a lower number does
  pub refuses : (r : Refusal) → (v ≡ Err r) ↔ FirstThatApplies r qs

-- what an operation refuses; a value is an answer
abbrev pub refused_by : {A : Type 0} → Result A Refusal → Verdict
refused_by (Ok value) = Ok tt
refused_by (Err r) = Err r

-- a refusal is at place 0
abbrev pub AtZero : Verdict → Type 0
AtZero v = (r : Refusal) → v ≡ Err r → r.place ≡ 0

-- after a refusal a lent table is as it was before the call
abbrev pub Untouched : Verdict → List ℕ → List ℕ → Type 0
Untouched v before after = (r : Refusal) → v ≡ Err r → after ≡ before

-- ---- the conditions

-- 3: a task table has another length than stated
abbrev pub OtherLength : Tables → Type 0
OtherLength t =
    (¬ (length t.needs ≡ 4 * t.steps))
    ⊎ ((¬ (length t.sets ≡ 4 * t.steps))
    ⊎ ((¬ (length t.clears ≡ 4 * t.steps))
    ⊎ ((¬ (length t.costs ≡ t.steps)) ⊎ ((¬ (length t.start ≡ 4)) ⊎ (¬ (length t.goal ≡ 4))))))

-- 4: a set holds a fact numbered n or more
abbrev pub HoldsPast : ℕ → List ℕ → Type 0
HoldsPast n table = (i : ℕ) × (f : ℕ) × (i < length table / 4) × Is (has (row 4 i table) f) × (n ≤ f)

abbrev pub SetPast : Tables → Type 0
SetPast t =
    HoldsPast t.facts t.needs
    ⊎ (HoldsPast t.facts t.sets ⊎ (HoldsPast t.facts t.clears ⊎ (HoldsPast t.facts t.start ⊎ HoldsPast t.facts t.goal)))

-- 5: a cost is above 65,535
abbrev pub CostAbove : Tables → Type 0
CostAbove t = (s : ℕ) × (s < length t.costs) × (65535 < get_or t.costs s 0)

-- 7: no way to the goal exists
abbrev pub NoWay : Tables → Type 0
NoWay t = (w : List ℕ) → ¬ Is (way_to_goal (view t) w)

-- 9: a step number is m or more
abbrev pub EntryPast : ℕ → List ℕ → Type 0
EntryPast m w = (i : ℕ) × (i < length w) × (m ≤ get_or w i 0)

-- and the first such entry
abbrev pub FirstPast : ℕ → List ℕ → ℕ → Type 0
FirstPast m w i = (i < length w) × (m ≤ get_or w i 0) × ((j : ℕ) → j < i → get_or w j 0 < m)

-- ---- which operation can give which

-- 1 and 2
abbrev pub size_refusals : ℕ → ℕ → List Rule
size_refusals n m = rule fault.FactCount ((n ≡ 0) ⊎ (256 < n)) ∷ rule fault.StepCount (1024 < m) ∷ []

-- checking and reach: 1 to 5
abbrev pub task_refusals : Tables → List Rule
task_refusals t =
    size_refusals t.facts t.steps
    ++ rule fault.TableLength (OtherLength t) ∷ rule fault.FactNumber (SetPast t) ∷ rule fault.StepCost (CostAbove t) ∷ []

-- distances, must rows and just-before rows: 1 to 6, with a result table of `room` entries where `least` are asked for
abbrev pub table_refusals : Tables → ℕ → ℕ → List Rule
table_refusals t room least = task_refusals t ++ rule fault.ShortResult (room < least) ∷ []

-- must-pass facts and steps: 1 to 5 and 7
abbrev pub pass_refusals : Tables → List Rule
pass_refusals t = task_refusals t ++ rule fault.NoWay (NoWay t) ∷ []

-- cuts: 1 to 7, with 16m words, m costs and m left costs asked for
abbrev pub cut_refusals : Tables → ℕ → ℕ → ℕ → List Rule
cut_refusals t words prices left =
    task_refusals t
    ++ rule fault.ShortResult ((words < 16 * t.steps) ⊎ ((prices < t.steps) ⊎ (left < t.steps))) ∷ rule fault.NoWay (NoWay t) ∷ []

-- replaying a walk: 1 to 5, 8 and 9, which carries the first such entry
abbrev pub walk_refusals : Tables → List ℕ → List Rule
walk_refusals t w =
    task_refusals t
    ++ rule fault.WalkLength (65535 < length w)
    ∷ record { refusal = refusal fault.StepNumber (first_past t.steps w); when = EntryPast t.steps w } ∷ []

-- the row of a step: 1, 2, 3 of the two tables, 9 and 10
abbrev pub row_refusals : ℕ → ℕ → List ℕ → List ℕ → ℕ → ℕ → List Rule
row_refusals n m needs sets step which =
    size_refusals n m
    ++ rule fault.TableLength ((¬ (length needs ≡ 4 * m)) ⊎ (¬ (length sets ≡ 4 * m)))
    ∷ rule fault.StepNumber (m ≤ step) ∷ rule fault.RowKind ((¬ (which ≡ 0)) × (¬ (which ≡ 1))) ∷ []

-- the reader: what it can find wrong with a record, and 16 before any record is looked at
abbrev pub file_numbers : List ℕ
file_numbers = 1 ∷ 2 ∷ 5 ∷ 6 ∷ 11 ∷ 12 ∷ 13 ∷ 14 ∷ 15 ∷ 16 ∷ []

-- the verdict v on a file
pub record FileJudged (file : List ℕ) (v : Verdict) : Type 0 where
  -- it is an answer or a refusal of one of these numbers, at an offset of the file or at its length
  pub ends : (v ≡ Ok tt) ⊎ ((r : Refusal) × Contains file_numbers (number_of r.fault) × (r.place ≤ length file) × (v ≡ Err r))
  -- 16 is given exactly if the file is longer than 65,535 bytes
  pub long : (v ≡ Err (refusal fault.FileLength 65535)) ↔ (65535 < length file)
