-- The tables as a caller lends them, and the task that they stand for.
use Rattle.std.specs.Prelude.{ℕ, true, List, get_or}
use Rattle.sets.specs.Words.{has, row}
use Rattle.task.specs.Task.{Task}

-- numbers of facts and steps; needs, sets and clears with four words a step, costs with one number a step, start and goal with four words
pub record Tables : Type 0 where
  pub facts : ℕ
  pub steps : ℕ
  pub needs : List ℕ
  pub sets : List ℕ
  pub clears : List ℕ
  pub costs : List ℕ
  pub start : List ℕ
  pub goal : List ℕ

abbrev pub tables : ℕ → ℕ → List ℕ → List ℕ → List ℕ → List ℕ → List ℕ → List ℕ → Tables
tables facts steps needs sets clears costs start goal = record {
  facts = facts;
  steps = steps;
  needs = needs;
  sets = sets;
  clears = clears;
  costs = costs;
  start = start;
  goal = goal;
}

-- the task that they stand for: four words a row, and every step can be taken
abbrev pub view : Tables → Task
view t = record {
  facts = t.facts;
  steps = t.steps;
  needs = λ s. has (row 4 s t.needs);
  sets = λ s. has (row 4 s t.sets);
  clears = λ s. has (row 4 s t.clears);
  cost = λ s. get_or t.costs s 0;
  start = has t.start;
  goal = has t.goal;
  on = λ s. true;
}
