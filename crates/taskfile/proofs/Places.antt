-- Every refusal of a file has one of the reader's numbers and a place within the file: record by record, as it is judged.
use Prim.Native.Nat.{ℕ, zero, suc, ◌+◌, ◌≤◌, ◌<◌}
use mathlib.Core.Path.{◌≡◌}
use mathlib.Core.Bool.{Bool, true, false}
use mathlib.Core.Logic.{inl, inr}
use mathlib.Core.List.{List}
use native.Mathlib.Omega.{arith}
use lib.ListN.{length, get_or}
use Rattle.sets.specs.Tests.{Is, below}
use Rattle.sets.proofs.Tests.{tell, below_at, below_not, pick_true, pick_false}
use Rattle.std.specs.Prelude.{Option, Some, None, Result, Ok, Err}
use Rattle.task.specs.declared.refusal.Fault.{Fault}
use Rattle.task.specs.declared.refusal.Fault.TheVariants.{FactCount, StepCount, StepCost, ShortResult, RecordKind, CutOff, Misplaced, RecordFact, StepRecords, FileLength}
use Rattle.task.specs.Refusal.{Refusal, Verdict, refusal, or_else, first_refusal, answered}
use Rattle.taskfile.specs.declared.format.Record.TheVariants.{End, Head, Step, Names}
use Rattle.taskfile.specs.declared.kind.Kind.{Kind}
use Rattle.taskfile.specs.declared.kind.UnknownKind.{UnknownKind}
use Rattle.taskfile.specs.declared.cursor.Cursor.{Cursor}
use Rattle.taskfile.specs.Records.{Record, longest_file, kind_of, body_length, found_as, found_at}
use Rattle.taskfile.specs.Judging.{refused_at, begin, numbers_verdict, record_verdict, went_on, if_fine, found_judged, judged_at, onward, records_verdict, file_verdict}

-- a refusal's fault has the property, and its place is at most this
abbrev pub Given : (Fault → Type 0) → ℕ → Verdict → Type 0
Given P most (Ok done) = Unit {0}
Given P most (Err r) = P r.fault × (r.place ≤ most)

-- the faults that a record can be refused for have the property
pub record OfRecords (P : Fault → Type 0) : Type 0 where
  pub p1 : P FactCount
  pub p2 : P StepCount
  pub p5 : P StepCost
  pub p6 : P ShortResult
  pub p11 : P RecordKind
  pub p12 : P CutOff
  pub p13 : P Misplaced
  pub p14 : P RecordFact
  pub p15 : P StepRecords

pub given_or : (P : Fault → Type 0) (most : ℕ) (v w : Verdict) → Given P most v → Given P most w → Given P most (or_else v w)
unfolding or_else
given_or P most (Ok done) w a b = b
given_or P most (Err r) w a b = a

module _ (P : Fault → Type 0) (of : OfRecords P) where
  module _ (size : ℕ) where
    given_at : (place : ℕ) (fault : Fault) (p : Bool) → P fault → place ≤ size → Given P size (refused_at place p fault)
    unfolding refused_at
    given_at place fault true h l = (h, l)
    given_at place fault false h l = tt

    -- what comes of a record: the refusal, where it is one
    abbrev Ended : Result (Option Cursor) Refusal → Type 0
    Ended (Ok on) = Unit {0}
    Ended (Err r) = Given P size (Err r)

    if_fine_lem : (v : Verdict) (j : Result (Option Cursor) Refusal) → Given P size v → Ended j → Ended (if_fine v j)
    unfolding if_fine
    if_fine_lem (Ok done) j a b = b
    if_fine_lem (Err r) j a b = a

    answered_lem : (v : Verdict) (on : Option Cursor) → Given P size v → Ended (answered v on)
    unfolding answered
    answered_lem (Ok done) on a = tt
    answered_lem (Err r) on a = a

    module _ (room : ℕ → Bool) (c : Cursor) (inside : c.at < size) where
      here : (fault : Fault) (p : Bool) → P fault → Given P size (refused_at c.at p fault)
      here fault p h = given_at c.at fault p h (omega arith)

      numbers_given : (r : Record) → Given P size (numbers_verdict room c r)
      unfolding numbers_verdict first_refusal
      numbers_given (Head n m) =
          given_or P size _ _ (here FactCount _ of.p1) (given_or P size _ _ (here StepCount _ of.p2) (given_or P size _ _ (here ShortResult _ of.p6) tt))
      numbers_given (Step cost) = given_or P size _ _ (here StepCost _ of.p5) (given_or P size _ _ (here StepRecords _ of.p15) tt)
      numbers_given (Names part f) = here RecordFact _ of.p14
      numbers_given End = here StepRecords _ of.p15

      record_given : (r : Record) → Given P size (record_verdict room c r)
      unfolding record_verdict
      record_given r = given_or P size _ _ (here Misplaced _ of.p13) (numbers_given r)

      went_given : (r : Record) → Ended (went_on size c r)
      unfolding went_on
      went_given End = answered_lem _ None (given_at (c.at + 1) Misplaced _ of.p13 (omega arith))
      went_given (Head n m) = tt
      went_given (Step cost) = tt
      went_given (Names part f) = tt

      -- what is found there: a record, or a refusal
      abbrev Found : Result Record Refusal → Type 0
      Found (Ok r) = Unit {0}
      Found (Err r) = Given P size (Err r)

      found_given : (x : Result Record Refusal) → Found x → Ended (found_judged room size c x)
      unfolding found_judged
      found_given (Ok r) h = if_fine_lem _ _ (record_given r) (went_given r)
      found_given (Err r) h = h

      kind_given : (file : List ℕ) (k : Result Kind UnknownKind) → Found (found_as file c.at k)
      unfolding found_as
      kind_given file (Ok kind) = elim (tell (below (length file) (suc c.at + body_length kind))) [
        | inl h ↦ rw (pick_true _ _ h) (of.p12, omega arith)
        | inr h ↦ rw (pick_false _ _ h) tt
      ]
      kind_given file (Err unknown) = (of.p11, omega arith)

  module _ (room : ℕ → Bool) (file : List ℕ) where
    judged_given : (c : Cursor) → Ended (length file) (judged_at room file c)
    unfolding judged_at found_at
    judged_given c =
        elim (tell (below c.at (length file))) [
          | inl h ↦ rw (pick_true _ _ h)
              (found_given (length file) room c (below_at _ _ h) _ (kind_given (length file) room c (below_at _ _ h) file (kind_of (get_or file c.at 0))))
          | inr h ↦ rw (pick_false _ _ h) (of.p12, omega arith)
        ]

    onward_given : (rest : Cursor → Verdict) → ((c : Cursor) → Given P (length file) (rest c)) → (j : Result (Option Cursor) Refusal) → Ended (length file) j
        → Given P (length file) (onward rest j)
    unfolding onward
    onward_given rest each (Ok (Some c)) h = each c
    onward_given rest each (Ok None) h = tt
    onward_given rest each (Err r) h = h

    pub records_given : (k : ℕ) (c : Cursor) → Given P (length file) (records_verdict room file k c)
    unfolding records_verdict
    records_given zero c = (of.p12, omega arith)
    records_given (suc k) c = onward_given _ (records_given k) (judged_at room file c) (judged_given c)

-- ---- the whole file

module _ (room : ℕ → Bool) (file : List ℕ) where
  -- 16 where it is too long, and else what its records say
  pub file_too_long : Is (below longest_file (length file)) → file_verdict room file ≡ Err (refusal FileLength longest_file)
  unfolding file_verdict refused_at or_else
  file_too_long h = rw h

  pub file_by_records : below longest_file (length file) ≡ false → file_verdict room file ≡ records_verdict room file (length file + 1) begin
  unfolding file_verdict refused_at or_else
  file_by_records h = rw h

pub given_most : (P : Fault → Type 0) (a b : ℕ) (v : Verdict) → a ≤ b → Given P a v → Given P b v
given_most P a b (Ok done) l h = tt
given_most P a b (Err r) l h = (h.0, omega (arith, h.1))

-- a place within the file, and within the longest
module _ (P : Fault → Type 0) (of : OfRecords P) (p16 : P FileLength) (room : ℕ → Bool) (file : List ℕ) where
  pub file_given : Given P (length file) (file_verdict room file)
  file_given =
      elim (tell (below longest_file (length file))) [
        | inl h ↦ rw (file_too_long room file h) (p16, omega (arith, below_at longest_file (length file) h))
        | inr h ↦ rw (file_by_records room file h) (records_given P of room file _ begin)
      ]

  pub file_given_most : Given P longest_file (file_verdict room file)
  file_given_most =
      elim (tell (below longest_file (length file))) [
        | inl h ↦ rw (file_too_long room file h) (p16, omega arith)
        | inr h ↦ given_most P (length file) longest_file (file_verdict room file) (below_not longest_file (length file) h) file_given
      ]
