-- The records of a task file and their bytes, as document 01's table has them.
use Rattle.std.specs.Prelude.{ℕ, zero, suc, ◌+◌, ◌*◌, ◌/◌, ◌%◌, ◌==◌, if◌then◌else◌, Bool, true, false, List, [], ◌∷◌, ◌++◌, length, get_or, Result, Ok, Err}
use Rattle.sets.specs.Tests.{below, pick}
use Rattle.task.specs.Refusal.{Refusal, refusal}
use Rattle.task.specs.declared.refusal.Fault.TheVariants.{RecordKind, CutOff}
use Rattle.taskfile.specs.declared.format.Part.{Part}
use Rattle.taskfile.specs.declared.format.Part.TheVariants.{Start, Goal, Needs, Sets, Clears}
use Rattle.taskfile.specs.declared.format.Record as declared
use Rattle.taskfile.specs.declared.format.Record.TheVariants.{End, Head, Step, Names}
use Rattle.taskfile.specs.declared.kind.Kind.{Kind}
use Rattle.taskfile.specs.declared.kind.Kind.TheVariants as kinds
use Rattle.taskfile.specs.declared.kind.UnknownKind.{UnknownKind}

-- a record as it stands in a file, where a fact is named for a part
abbrev pub Record : Type 0
Record = declared.Record Part

-- the most bytes that a file has; `Record::FILE`
abbrev pub longest_file : ℕ
longest_file = 65535

-- start and goal are named before the first step, needs, sets and clears after one
abbrev pub is_first : Part → Bool
is_first Start = true
is_first Goal = true
is_first Needs = false
is_first Sets = false
is_first Clears = false

-- the kind byte of a record that names a fact for that part
abbrev pub part_byte : Part → ℕ
part_byte Start = 2
part_byte Goal = 3
part_byte Needs = 5
part_byte Sets = 6
part_byte Clears = 7

-- a number as so many bytes, the lowest first
unfoldable pub little_endian : ℕ → ℕ → List ℕ
little_endian zero x = []
little_endian (suc k) x = x % 256 ∷ little_endian k (x / 256)

-- the bytes of a record, where `kind` gives the byte of what a fact is named for
unfoldable pub bytes_by : {P : Type 0} → (P → ℕ) → declared.Record P → List ℕ
bytes_by kind End = 0 ∷ []
bytes_by kind (Head n m) = 1 ∷ little_endian 2 n ++ little_endian 2 m
bytes_by kind (Step cost) = 4 ∷ little_endian 4 cost
bytes_by kind (Names what f) = kind what ∷ little_endian 2 f

-- those of a record as it stands in a file, and of a list of records
abbrev pub record_bytes : Record → List ℕ
record_bytes r = bytes_by part_byte r

-- how many there are, whatever a fact is named for: `size_is` in proofs/Records.antt
abbrev pub size_of : {P : Type 0} → declared.Record P → ℕ
size_of End = 1
size_of (Head n m) = 5
size_of (Step cost) = 5
size_of (Names what f) = 3

unfoldable pub file_bytes : List Record → List ℕ
file_bytes [] = []
file_bytes (r ∷ rs) = record_bytes r ++ file_bytes rs

-- the number in k bytes from an offset on
unfoldable pub number_at : ℕ → List ℕ → ℕ → ℕ
number_at zero file at = 0
number_at (suc k) file at = get_or file at 0 + 256 * number_at k file (suc at)

-- the kind of a first byte; none from 8 on
abbrev pub kind_of : ℕ → Result Kind UnknownKind
kind_of byte =
    if byte == 0 then Ok kinds.End
    else (if byte == 1 then Ok kinds.Head
    else (if byte == 2 then Ok (kinds.Names Start)
    else (if byte == 3 then Ok (kinds.Names Goal)
    else (if byte == 4 then Ok kinds.Step
    else (if byte == 5 then Ok (kinds.Names Needs)
    else (if byte == 6 then Ok (kinds.Names Sets)
    else (if byte == 7 then Ok (kinds.Names Clears)
    else Err (record { 0 = byte }))))))))

-- how many bytes follow a kind
unfoldable pub body_length : Kind → ℕ
body_length kinds.End = 0
body_length kinds.Head = 4
body_length kinds.Step = 4
body_length (kinds.Names part) = 2

-- the record of a kind whose body stands from an offset on
unfoldable pub record_of : Kind → List ℕ → ℕ → Record
record_of kinds.End file at = End
record_of kinds.Head file at = Head (number_at 2 file at) (number_at 2 file (at + 2))
record_of kinds.Step file at = Step (number_at 4 file at)
record_of (kinds.Names part) file at = Names part (number_at 2 file at)

-- what stands at an offset below the file's length: a record; 11 for a kind that there is not; 12 for a record that the file ends inside of
unfoldable pub found_as : List ℕ → ℕ → Result Kind UnknownKind → Result Record Refusal
found_as file at (Ok kind) =
    pick (below (length file) (suc at + body_length kind)) (Err (refusal CutOff at)) (Ok (record_of kind file (suc at)))
found_as file at (Err unknown) = Err (refusal RecordKind at)

unfoldable pub found_at : List ℕ → ℕ → Result Record Refusal
found_at file at = found_as file at (kind_of (get_or file at 0))

-- nothing follows an end
unfoldable pub after_record : List Record → Record → List Record
after_record rest End = []
after_record rest (Head n m) = rest
after_record rest (Step cost) = rest
after_record rest (Names part f) = rest

-- the records from an offset on, at most k of them: up to an end, or up to what is no whole record
unfoldable pub records_on : (ℕ → List Record) → ℕ → Result Record Refusal → List Record
records_on rest at (Ok r) = r ∷ after_record (rest (at + size_of r)) r
records_on rest at (Err r) = []

unfoldable pub records_in : ℕ → List ℕ → ℕ → List Record
records_in zero file at = []
records_in (suc k) file at = records_on (λ next. records_in k file next) at (found_at file at)

-- all records of a file
unfoldable pub file_records : List ℕ → List Record
file_records file = records_in (length file) file 0
