-- Derivations: how a fact comes about, clearing ignored, and at what cost.
use Rattle.std.specs.Prelude.{ℕ, ◌+◌, ◌≤◌, ◌<◌}
use Rattle.sets.specs.Tests.{Is}
use Rattle.task.specs.Task.{Task}

-- f comes about at a cost of at most x: it holds at first, or a step that is on sets it, all of whose needs come about at a cost of at most y,
-- and y together with the step's cost is at most x
pub data Derived (t : Task) (c : ℕ → ℕ) : ℕ → ℕ → Type 0 where
  at_first : {f x : ℕ} → Is (t.start f) → Derived t c f x
  by_step : {f x : ℕ} (s y : ℕ) → s < t.steps → Is (t.on s) → Is (t.sets s f) → ((g : ℕ) → g < t.facts → Is (t.needs s g) → Derived t c g y)
      → c s + y ≤ x → Derived t c f x
