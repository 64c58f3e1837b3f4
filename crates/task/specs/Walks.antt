-- Taking a step, real walks and ways, in document 01's words.
use Rattle.std.specs.Prelude.{ℕ, ◌+◌, Bool, true, List, [], ◌∷◌}
use Rattle.sets.specs.Tests.{both, below}
use Rattle.sets.specs.Sets.{Set, joined, removed, within}
use Rattle.task.specs.Task.{Task, ignoring_clears}

-- what holds after a step: its clears are removed first, then its sets are added
unfoldable pub taken : Set → Set → Set → Set
taken X clears sets = joined (removed X clears) sets

module _ (t : Task) where
  -- the step is on, and all its needs hold in X
  unfoldable pub possible : Set → ℕ → Bool
  possible X s = both (t.on s) (within t.facts (t.needs s) X)

  -- what holds after step s where X held
  unfoldable pub taking : Set → ℕ → Set
  taking X s = taken X (t.clears s) (t.sets s)

  -- the steps of a list, taken in turn where X held at first: whether each can be, and what holds in the end
  unfoldable pub can_take : Set → List ℕ → Bool
  can_take X [] = true
  can_take X (s ∷ w) = both (below s t.steps) (both (possible X s) (can_take (taking X s) w))

  unfoldable pub after : Set → List ℕ → Set
  after X [] = X
  after X (s ∷ w) = after (taking X s) w

  unfoldable pub goal_holds : Set → Bool
  goal_holds X = within t.facts t.goal X

  -- a real walk: each step is taken in turn from the start, after which all goal facts hold
  unfoldable pub real_walk : List ℕ → Bool
  real_walk w = both (can_take t.start w) (goal_holds (after t.start w))

  -- its cost: the sum, repeats counted
  unfoldable pub walk_cost : List ℕ → ℕ
  walk_cost [] = 0
  walk_cost (s ∷ w) = t.cost s + walk_cost w

-- a way: the same with clears ignored. What holds at its end, and whether it leads to the goal
unfoldable pub way : Task → List ℕ → Bool
way t w = can_take (ignoring_clears t) t.start w

unfoldable pub way_end : Task → List ℕ → Set
way_end t w = after (ignoring_clears t) t.start w

unfoldable pub way_to_goal : Task → List ℕ → Bool
way_to_goal t w = real_walk (ignoring_clears t) w
