-- The task that a file's records stand for: its sizes, and tables in which each set holds the facts named for it and no others.
use Rattle.std.specs.Prelude.{ℕ, zero, suc, Bool, false, List, [], ◌∷◌, length}
use Rattle.sets.specs.Tests.{both, either, same}
use Rattle.sets.specs.Sets.{Set}
use Rattle.sets.specs.Words.{words_of, table_of}
use Rattle.task.specs.Tables.{Tables, tables}
use Rattle.taskfile.specs.declared.format.Part.{Part}
use Rattle.taskfile.specs.declared.format.Part.TheVariants.{Start, Goal, Needs, Sets, Clears}
use Rattle.taskfile.specs.declared.format.Record.TheVariants.{End, Head, Step, Names}
use Rattle.taskfile.specs.Records.{Record, part_byte, file_records}
use Rattle.taskfile.specs.Sound.{Naming, Block, Contents}

-- ---- what stands between head and end

-- the facts named up to the next record of another kind
unfoldable pub first_namings : List Record → List Naming
first_namings [] = []
first_namings (Names part f ∷ rs) = record { part = part; fact = f } ∷ first_namings rs
first_namings (End ∷ rs) = []
first_namings (Head n m ∷ rs) = []
first_namings (Step cost ∷ rs) = []

-- each step with the facts named after it
unfoldable pub blocks_in : List Record → List Block
blocks_in [] = []
blocks_in (Step cost ∷ rs) = record { cost = cost; parts = first_namings rs } ∷ blocks_in rs
blocks_in (Names part f ∷ rs) = blocks_in rs
blocks_in (End ∷ rs) = blocks_in rs
blocks_in (Head n m ∷ rs) = blocks_in rs

unfoldable pub contents_of : List Record → Contents
contents_of [] = record { facts = 0; firsts = []; blocks = [] }
contents_of (Head n m ∷ rs) = record { facts = n; firsts = first_namings rs; blocks = blocks_in rs }
contents_of (End ∷ rs) = record { facts = 0; firsts = []; blocks = [] }
contents_of (Step cost ∷ rs) = record { facts = 0; firsts = []; blocks = [] }
contents_of (Names part f ∷ rs) = record { facts = 0; firsts = []; blocks = [] }

unfoldable pub contents_in : List ℕ → Contents
contents_in file = contents_of (file_records file)

-- ---- the tables

-- some of the list passes
unfoldable pub some_of : {A : Type 0} → (A → Bool) → List A → Bool
some_of p [] = false
some_of p (a ∷ rest) = either (p a) (some_of p rest)

-- the facts named for that part
unfoldable pub named_for : Part → List Naming → Set
named_for part namings f = some_of (λ g. both (same (part_byte g.part) (part_byte part)) (same g.fact f)) namings

-- what stands after the step of that number
unfoldable pub parts_of : List Block → ℕ → List Naming
parts_of [] s = []
parts_of (b ∷ bs) zero = b.parts
parts_of (b ∷ bs) (suc s) = parts_of bs s

unfoldable pub costs_of : List Block → List ℕ
costs_of [] = []
costs_of (b ∷ bs) = b.cost ∷ costs_of bs

-- four words a step: the facts that are named for that part of it
unfoldable pub step_table : Part → List Block → List ℕ
step_table part blocks = table_of 4 (length blocks) (λ s. named_for part (parts_of blocks s))

unfoldable pub contents_tables : Contents → Tables
contents_tables c =
    tables
    c.facts
    (length c.blocks)
    (step_table Needs c.blocks)
    (step_table Sets c.blocks)
    (step_table Clears c.blocks)
    (costs_of c.blocks)
    (words_of 4 (named_for Start c.firsts))
    (words_of 4 (named_for Goal c.firsts))

-- the task that a sound file stands for
unfoldable pub file_tables : List ℕ → Tables
file_tables file = contents_tables (contents_in file)
