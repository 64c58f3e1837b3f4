-- A sound file, said without a judge: the bytes of a head, start and goal facts, as many steps as the head says, each with its cost
-- and its facts, and an end, whose numbers fit.
use Rattle.std.specs.Prelude.{ℕ, ◌≤◌, ◌≡◌, Bool, true, List, [], ◌∷◌, ◌++◌, length}
use Rattle.sets.specs.Tests.{Is, no, both, below}
use Rattle.task.specs.Limits.{limits}
use Rattle.task.specs.Check.{wrong_facts, wrong_steps}
use Rattle.taskfile.specs.declared.format.Part.{Part}
use Rattle.taskfile.specs.declared.format.Record.TheVariants.{End, Head, Step, Names}
use Rattle.taskfile.specs.Records.{Record, is_first, longest_file, file_bytes}

-- a fact, with what it is named for
pub record Naming : Type 0 where
  pub part : Part
  pub fact : ℕ

-- a step as a file has it: its cost, and the records after it up to the next step or the end
pub record Block : Type 0 where
  pub cost : ℕ
  pub parts : List Naming

-- what a file in legal order has between its head and its end
pub record Contents : Type 0 where
  pub facts : ℕ
  pub firsts : List Naming
  pub blocks : List Block

unfoldable pub naming_records : List Naming → List Record
naming_records [] = []
naming_records (g ∷ rest) = Names g.part g.fact ∷ naming_records rest

unfoldable pub block_records : List Block → List Record
block_records [] = []
block_records (b ∷ bs) = Step b.cost ∷ naming_records b.parts ++ block_records bs

-- all of its records, in order
unfoldable pub records_of : Contents → List Record
records_of c = Head c.facts (length c.blocks) ∷ naming_records c.firsts ++ block_records c.blocks ++ End ∷ []

-- start or goal, and a fact below n
unfoldable pub first_fits : ℕ → Naming → Bool
first_fits n g = both (is_first g.part) (below g.fact n)

-- needs, sets or clears, and a fact below n
unfoldable pub part_fits : ℕ → Naming → Bool
part_fits n g = both (no (is_first g.part)) (below g.fact n)

unfoldable pub all_of : {A : Type 0} → (A → Bool) → List A → Bool
all_of p [] = true
all_of p (a ∷ rest) = both (p a) (all_of p rest)

unfoldable pub block_fits : ℕ → Block → Bool
block_fits n b = both (no (below limits.cost b.cost)) (all_of (part_fits n) b.parts)

-- all numbers fit
unfoldable pub fits : Contents → Bool
fits c =
    both (no (wrong_facts c.facts))
    (both (no (wrong_steps (length c.blocks))) (both (all_of (first_fits c.facts) c.firsts) (all_of (block_fits c.facts) c.blocks)))

-- the file has these contents, and is sound
pub record Sound (file : List ℕ) (c : Contents) : Type 0 where
  pub short : length file ≤ longest_file
  pub bytes : file ≡ file_bytes (records_of c)
  pub fit : Is (fits c)
