-- Document 01's refusals: the number of each fault, what is printed of one, and which refusal is given where several apply.
use Rattle.std.specs.Prelude.{ℕ, Bool, true, false, List, [], ◌∷◌, ◌++◌, codes, Result, Ok, Err}
use Rattle.std.specs.Fmt.{decimal}
use Rattle.task.specs.declared.refusal.Fault.{Fault}
use Rattle.task.specs.declared.refusal.Fault.TheVariants.{FactCount, StepCount, TableLength, FactNumber, StepCost, ShortResult, NoWay, WalkLength, StepNumber, RowKind, RecordKind, CutOff, Misplaced, RecordFact, StepRecords, FileLength}
use Rattle.task.specs.declared.refusal.Refusal as declared

-- a refusal that an operation gives: a fault and its place
abbrev pub Refusal : Type 0
Refusal = declared.Refusal Fault

-- the number of a fault
abbrev pub number_of : Fault → ℕ
number_of FactCount = 1
number_of StepCount = 2
number_of TableLength = 3
number_of FactNumber = 4
number_of StepCost = 5
number_of ShortResult = 6
number_of NoWay = 7
number_of WalkLength = 8
number_of StepNumber = 9
number_of RowKind = 10
number_of RecordKind = 11
number_of CutOff = 12
number_of Misplaced = 13
number_of RecordFact = 14
number_of StepRecords = 15
number_of FileLength = 16

-- a fault at a place, and the words "refused", number, place
abbrev pub refusal : Fault → ℕ → Refusal
refusal fault place = record { fault = fault; place = place }

abbrev pub refusal_text : Refusal → List ℕ
refusal_text r = codes "refused " ++ decimal (number_of r.fault) ++ codes " " ++ decimal r.place

-- what checking answers: nothing is wrong, or the refusal
abbrev pub Verdict : Type 0
Verdict = Result Unit Refusal

-- the refusal for that fault, at place 0, where it applies
unfoldable pub refused_if : Bool → Fault → Verdict
refused_if true fault = Err (refusal fault 0)
refused_if false fault = Ok tt

-- the first answer that is a refusal
unfoldable pub or_else : Verdict → Verdict → Verdict
or_else (Ok done) next = next
or_else (Err r) next = Err r

unfoldable pub first_refusal : List Verdict → Verdict
first_refusal [] = Ok tt
first_refusal (v ∷ vs) = or_else v (first_refusal vs)

-- the answer of an operation: its value where nothing is refused
unfoldable pub answered : {A : Type 0} → Verdict → A → Result A Refusal
answered (Ok done) value = Ok value
answered (Err r) value = Err r
