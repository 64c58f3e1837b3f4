-- The task that document 01 speaks of, free of tables: what each step needs, sets, clears and costs, where one starts, and what is to hold in the end.
use Rattle.std.specs.Prelude.{ℕ}
use Rattle.sets.specs.Sets.{Set, none}

pub record Task : Type 0 where
  -- facts are numbered below `facts` and steps below `steps`
  pub facts : ℕ
  pub steps : ℕ
  pub needs : ℕ → Set
  pub sets : ℕ → Set
  pub clears : ℕ → Set
  pub cost : ℕ → ℕ
  pub start : Set
  pub goal : Set
  -- the steps that can be taken at all
  pub on : Set

-- the same task where no step clears anything
abbrev pub ignoring_clears : Task → Task
ignoring_clears t = record {
  facts = t.facts;
  steps = t.steps;
  needs = t.needs;
  sets = t.sets;
  clears = λ s. none;
  cost = t.cost;
  start = t.start;
  goal = t.goal;
  on = t.on;
}
