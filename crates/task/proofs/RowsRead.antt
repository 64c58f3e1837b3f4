-- Rows of tables as sets: a set that was made from a row has the row's members, and those of checked tables are all below the number of facts; so rows
-- that are passed on stand for the tables' task.
use Prim.Native.Nat.{ℕ}
use mathlib.Core.Path.{◌≡◌, ap, ap₂, ◌∙◌}
use mathlib.Core.Bool.{Bool}
use mathlib.Core.List.{List}
use Rattle.sets.specs.Tests.{no, both, either}
use Rattle.sets.specs.Sets.{Set, none, joined, removed, within}
use Rattle.sets.specs.Words.{has, words_of, row}
use Rattle.sets.proofs.Sets.{within_past}
use Rattle.sets.proofs.Words.{has_made, words_of_same, none_read, set_read}
use Rattle.task.specs.Task.{Task}
use Rattle.task.specs.Rows.{rows_task, rows_without, Bounded}
use Rattle.task.specs.Tables.{Tables, view}
use Rattle.task.specs.Walks.{taken}
use Rattle.task.specs.Checked.{Checked}

-- a set made in two steps, clears first, is what holds after the step
pub taken_made : (k : ℕ) (holding clears sets between after : List ℕ) (C S : Set) → clears ≡ words_of k C → sets ≡ words_of k S
    → between ≡ words_of k (removed (has holding) (has clears)) → after ≡ words_of k (joined (has between) (has sets))
    → after ≡ words_of k (taken (has holding) C S)
unfolding taken joined removed
taken_made k holding clears sets between after C S c s b a =
    a ∙ words_of_same k _ _ (λ f l. ap₂ either
    (has_made k between _ b f l ∙ ap (λ (p : Bool). both (no p) (has holding f)) (has_made k clears C c f l))
    (has_made k sets S s f l))

-- the test of four words is the test of the task's facts
pub needs_view : (t : Tables) → Checked t → (s : ℕ) (X : Set) → within 256 (has (row 4 s t.needs)) X ≡ within t.facts ((view t).needs s) X
needs_view t c s X = within_past t.facts 256 ((view t).needs s) X c.few_facts (c.needs_facts s)

-- ---- rows that are passed on without clears, costs and goal

-- the task that they stand for with no step off: it differs from the tables' task only in what is left out
abbrev pub plain : Tables → Task
plain t = rows_without t none

-- the facts that hold at first, read as a row, are those of the start
pub start_read : (t : Tables) → Checked t → {first : List ℕ} → first ≡ words_of 4 (has (row 4 0 t.start)) → has first ≡ has t.start
start_read t c r = set_read 4 t.start c.start_length r

-- and so are those of the goal
pub goal_read : (t : Tables) → Checked t → {last : List ℕ} → last ≡ words_of 4 (has (row 4 0 t.goal)) → has last ≡ has t.goal
goal_read t c r = set_read 4 t.goal c.goal_length r

-- it is that of rows passed on with an empty set of steps off and the start read as a row
pub rows_plain : (t : Tables) → Checked t → {off first : List ℕ} → off ≡ words_of 16 none → first ≡ words_of 4 (has (row 4 0 t.start))
    → rows_task t.facts t.steps t.needs t.sets (has off) (has first) ≡ plain t
rows_plain t c o r =
    ap₂ (λ (off start : Set). rows_task t.facts t.steps t.needs t.sets off start) (none_read 16 o) (start_read t c r)

-- what workers ask of the rows holds of checked tables
pub bounded : (t : Tables) → Checked t → Bounded t.facts t.needs t.sets (has t.start)
bounded t c = record {
  few = c.few_facts;
  needs_below = c.needs_facts;
  sets_below = c.sets_facts;
  start_below = c.start_facts;
}
