-- What the workers of the reader find: the records of a file from an offset on, and room for the steps among them.
use Rattle.std.specs.Prelude.{◌≡◌, ℕ, ◌*◌, ◌≤◌, ◌<◌, List, length, Option, Some, None, Result, Ok, Err}
use Rattle.sets.specs.Tests.{below, pick}
use Rattle.task.specs.Refusal.{Refusal}
use Rattle.task.specs.declared.tables.Sizes.{Sizes}
use Rattle.taskfile.specs.declared.format.Record.TheVariants.{End, Head, Step, Names}
use Rattle.taskfile.specs.declared.kind.Kind.{Kind}
use Rattle.taskfile.specs.declared.cursor.Cursor.{Cursor}
use Rattle.taskfile.specs.declared.fill.StepTables.{StepTables}
use Rattle.taskfile.specs.declared.iter.Records.{Records}
use Rattle.taskfile.specs.Records.{Record, body_length, record_of, records_in}
use Rattle.taskfile.specs.Sound.{Naming, Block}
use Rattle.taskfile.specs.Meaning.{first_namings, blocks_in}
use Rattle.taskfile.specs.Judging.{steps_of}

-- the record of a kind whose body some bytes begin with, where they are enough
unfoldable pub body_at : Kind → List ℕ → Option Record
body_at kind bytes = pick (below (length bytes) (body_length kind)) None (Some (record_of kind bytes 0))

-- all of them: a record has a byte at least
unfoldable pub records_from : List ℕ → ℕ → List Record
records_from file at = records_in (length file) file at

-- the facts named up to the next record of another kind, and the steps
unfoldable pub namings_from : List ℕ → ℕ → List Naming
namings_from file at = first_namings (records_from file at)

unfoldable pub blocks_from : List ℕ → ℕ → List Block
blocks_from file at = blocks_in (records_from file at)

-- the numbers of a head; 0 where something else stands
unfoldable pub sizes_of : Result Record Refusal → Sizes
sizes_of (Ok (Head n m)) = record { facts = n; steps = m }
sizes_of (Ok End) = record { facts = 0; steps = 0 }
sizes_of (Ok (Step cost)) = record { facts = 0; steps = 0 }
sizes_of (Ok (Names part f)) = record { facts = 0; steps = 0 }
sizes_of (Err r) = record { facts = 0; steps = 0 }

-- those that an iterator has left
abbrev pub records_left : Records → List Record
records_left records = records_from records.file.now records.at

-- there is room for the steps: four words each of needs, sets and clears, and a cost
pub record RoomFor (blocks : List Block) (needs sets clears costs : List ℕ) : Type 0 where
  pub need_rows : length blocks * 4 ≤ length needs
  pub set_rows : length blocks * 4 ≤ length sets
  pub clear_rows : length blocks * 4 ≤ length clears
  pub cost_list : length blocks ≤ length costs

-- the same four tables, whatever stands in them
pub record SameTables (old new : StepTables) : Type 0 where
  pub needs : new.needs.ghost_name ≡ old.needs.ghost_name
  pub sets : new.sets.ghost_name ≡ old.sets.ghost_name
  pub clears : new.clears.ghost_name ≡ old.clears.ghost_name
  pub costs : new.costs.ghost_name ≡ old.costs.ghost_name

-- one more step can be counted, where the record begins one
abbrev pub CanCount : Cursor → Record → Type 0
CanCount c (Step cost) = c.begun < steps_of c
CanCount c (Head n m) = Unit {0}
CanCount c (Names part f) = Unit {0}
CanCount c End = Unit {0}
