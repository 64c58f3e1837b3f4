-- Cuts, round by round, in document 01's words: rounds while the goal's distance is above 0, each of which takes the cost of its cut off the cut's steps.
-- The answer is the cuts with their costs, in order, and the costs left; from it come the floor and the number of rounds.
use Rattle.std.specs.Prelude.{ℕ, zero, suc, ◌+◌, ◌-◌, Bool, true, false, List, [], ◌∷◌, length}
use Rattle.sets.specs.Tests.{below, pick}
use Rattle.sets.specs.Sets.{Set}
use Rattle.task.specs.Task.{Task}
use Rattle.distance.specs.Distance.{list_of, entry, goal_distance}
use Rattle.cuts.specs.Cut.{Choice, cut_of, cut_cost}

-- a cut and its cost
pub record Round : Type 0 where
  pub cut : Set
  pub cost : ℕ

-- what all rounds give
pub record Rounds : Type 0 where
  pub list : List Round
  pub left : List ℕ

-- the given costs
unfoldable pub given_costs : Task → List ℕ
given_costs t = list_of t.steps t.cost

-- the goal's distance under the costs is above 0
unfoldable pub goal_away : ℕ → Task → List ℕ → Bool
goal_away mark t costs = below 0 (goal_distance t (entry costs) mark)

-- the cut's cost, taken off each step of the cut
unfoldable pub lowered : Task → Round → List ℕ → List ℕ
lowered t r costs = list_of t.steps (λ s. entry costs s - pick (r.cut s) r.cost 0)

module _ (choose : Choice) (mark : ℕ) (t : Task) where
  -- one round under the present costs, a list of m numbers
  unfoldable pub round_of : List ℕ → Round
  round_of costs = let X = cut_of choose mark t (entry costs) in record { cut = X; cost = cut_cost mark t X (entry costs) }

  -- rounds as long as the goal is told to be away, and `most` at most
  unfoldable pub rounds_from : ℕ → Bool → List ℕ → Rounds
  rounds_from zero true costs = record { list = []; left = costs }
  rounds_from zero false costs = record { list = []; left = costs }
  rounds_from (suc most) false costs = record { list = []; left = costs }
  rounds_from (suc most) true costs =
      let r = round_of costs in
      let next = lowered t r costs in
      let rest = rounds_from most (goal_away mark t next) next in record { list = r ∷ rest.list; left = rest.left }

  -- m rounds are always enough, as each brings a step to cost 0
  unfoldable pub all_rounds : Rounds
  all_rounds = let costs = given_costs t in rounds_from t.steps (goal_away mark t costs) costs

-- the floor: the sum of the cuts' costs
unfoldable pub floor_of : List Round → ℕ
floor_of [] = 0
floor_of (r ∷ rs) = r.cost + floor_of rs

-- the number of rounds
abbrev pub round_count : List Round → ℕ
round_count rs = length rs

-- the costs of all cuts that step s stands in
unfoldable pub cuts_costs : List Round → ℕ → ℕ
cuts_costs [] s = 0
cuts_costs (r ∷ rs) s = pick (r.cut s) r.cost 0 + cuts_costs rs s

-- each round has the property
abbrev pub EachRound : (Round → Type 0) → List Round → Type 0
EachRound P [] = Unit {0}
EachRound P (r ∷ rs) = P r × EachRound P rs
