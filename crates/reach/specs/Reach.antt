-- Reach: what some way leads to, and the number of passes that find it.
use Rattle.std.specs.Prelude.{ℕ, Bool, false, List, [], ◌∷◌}
use Rattle.sets.specs.Tests.{both, either}
use Rattle.sets.specs.Sets.{Set, removed, any}
use Rattle.task.specs.Task.{Task}
use Rattle.task.specs.Walks.{possible}
use Rattle.reach.specs.Least.{Closure, least}

-- what is set by all steps whose needs hold in X
unfoldable pub made : Task → Set → Set
made t X f = any t.steps (λ s. both (possible t X s) (t.sets s f))

unfoldable pub closure : Task → Closure
closure t = least t.facts (made t) t.start

unfoldable pub reach : Task → Set
reach t = (closure t).set

unfoldable pub passes : Task → ℕ
passes t = (closure t).passes

-- the same task without the steps of P
abbrev pub without : Task → Set → Task
without t P = record {
  facts = t.facts;
  steps = t.steps;
  needs = t.needs;
  sets = t.sets;
  clears = t.clears;
  cost = t.cost;
  start = t.start;
  goal = t.goal;
  on = removed t.on P;
}

-- the list takes a step of P
unfoldable pub takes : Set → List ℕ → Bool
takes P [] = false
takes P (s ∷ w) = either (P s) (takes P w)
