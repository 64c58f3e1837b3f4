-- What the private workers' contracts speak of.
use Rattle.sets.specs.Tests.{no}
use Rattle.sets.specs.Sets.{Set}
use Rattle.task.specs.Task.{Task}
use Rattle.task.specs.Tables.{Tables, view}

-- the tables' task without the steps that are off
abbrev pub task_without : Tables → Set → Task
task_without t off = record {
  facts = t.facts;
  steps = t.steps;
  needs = (view t).needs;
  sets = (view t).sets;
  clears = (view t).clears;
  cost = (view t).cost;
  start = (view t).start;
  goal = (view t).goal;
  on = λ s. no (off s);
}
