-- What workers that take part of a task's tables speak of: the task that those rows stand for, and what they ask of the rows.
use Rattle.std.specs.Prelude.{ℕ, ◌≤◌, ◌<◌, List}
use Rattle.sets.specs.Tests.{Is, no}
use Rattle.sets.specs.Sets.{Set, none}
use Rattle.sets.specs.Words.{has, row}
use Rattle.task.specs.Task.{Task}
use Rattle.task.specs.Tables.{Tables}

-- rows of needs and sets, the steps that are off, and what holds at first: all that reach, must rows and distances look at
abbrev pub rows_task : ℕ → ℕ → List ℕ → List ℕ → Set → Set → Task
rows_task facts steps needs sets off start = record {
  facts = facts;
  steps = steps;
  needs = λ s. has (row 4 s needs);
  sets = λ s. has (row 4 s sets);
  clears = λ s. none;
  cost = λ s. 0;
  start = start;
  goal = none;
  on = λ s. no (off s);
}

-- the same of a task as it is lent, without the steps that are off
abbrev pub rows_without : Tables → Set → Task
rows_without t off = rows_task t.facts t.steps t.needs t.sets off (has t.start)

-- the rows of the table hold only facts below n
abbrev pub RowsBelow : ℕ → List ℕ → Type 0
RowsBelow n table = (s f : ℕ) → Is (has (row 4 s table) f) → f < n

-- there is room for n facts, and neither a row nor what holds at first has a fact past them
pub record Bounded (n : ℕ) (needs sets : List ℕ) (start : Set) : Type 0 where
  pub few : n ≤ 256
  pub needs_below : RowsBelow n needs
  pub sets_below : RowsBelow n sets
  pub start_below : (f : ℕ) → Is (start f) → f < n
