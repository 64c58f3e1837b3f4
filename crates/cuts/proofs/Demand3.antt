-- Demand 3, word by word, for every task that has a way with clearing ignored and for any choice of a farthest need. Each is the law of all rounds of that
-- name; of real walks it holds because each is a way.
use Prim.Native.Nat.{ℕ, ◌+◌, ◌≤◌, ◌<◌}
use mathlib.Core.Path.{◌≡◌}
use mathlib.Core.List.{List}
use native.Mathlib.Nat.{mul-le-mul_right}
use native.Mathlib.Omega.{arith}
use Rattle.sets.specs.Tests.{Is}
use Rattle.task.specs.Limits.{limits}
use Rattle.task.specs.Task.{Task}
use Rattle.task.specs.Tables.{Tables, view}
use Rattle.task.specs.Walks.{real_walk, walk_cost, way_to_goal}
use Rattle.task.proofs.Walks.{walk_is_way}
use Rattle.task.specs.Checked.{Checked}
use Rattle.reach.specs.Reach.{takes}
use Rattle.reach.proofs.Ways.{goal_is}
use Rattle.distance.specs.Distance.{entry, goal_distance}
use Rattle.cuts.specs.Cut.{Choice, ChoosesFarthest}
use Rattle.cuts.specs.Rounds.{Rounds, all_rounds, floor_of, cuts_costs, EachRound}
use Rattle.cuts.proofs.Rounds.{Cheap, all_balance, all_end, all_taken, all_floor, all_floor_most}

-- ---- the statements

-- the task has a way to the goal with clearing ignored
abbrev pub HasWay : Task → Type 0
HasWay t = (w : List ℕ) × Is (way_to_goal t w)

-- each step's cost equals what is left of it plus the costs of all cuts it stands in
abbrev pub CostsBalance : Task → Rounds → Type 0
CostsBalance t answer = (s : ℕ) → s < t.steps → t.cost s ≡ entry answer.left s + cuts_costs answer.list s

-- with what is left, the goal's distance is zero
abbrev pub NoDistanceLeft : ℕ → Task → Rounds → Type 0
NoDistanceLeft mark t answer = goal_distance t (entry answer.left) mark ≡ 0

-- every real walk to the goal, clearing counted, takes a step from each cut
abbrev pub EveryWalkCut : Task → Rounds → Type 0
EveryWalkCut t answer = (w : List ℕ) → Is (real_walk t w) → EachRound (λ r. Is (takes r.cut w)) answer.list

-- and costs at least the sum of the cuts
abbrev pub EveryWalkCosts : Task → Rounds → Type 0
EveryWalkCosts t answer = (w : List ℕ) → Is (real_walk t w) → floor_of answer.list ≤ walk_cost t w

-- demand 3
pub record Demand3 (mark : ℕ) (t : Task) (answer : Rounds) : Type 0 where
  pub costs_balance : CostsBalance t answer
  pub no_distance_left : NoDistanceLeft mark t answer
  pub every_walk_cut : EveryWalkCut t answer
  pub every_walk_costs : EveryWalkCosts t answer

-- ---- why they hold

module _ (choose : Choice) (right : ChoosesFarthest choose) where
  module _ (mark : ℕ) (t : Task) where
    pub costs_balance : CostsBalance t (all_rounds choose mark t)
    costs_balance = all_balance choose right mark t

    pub no_distance_left : HasWay t → Cheap mark t t.cost → NoDistanceLeft mark t (all_rounds choose mark t)
    no_distance_left way cheap = all_end choose right mark t ((goal_is t).1 way) cheap

    pub every_walk_cut : EveryWalkCut t (all_rounds choose mark t)
    every_walk_cut w h = all_taken choose right mark t w (walk_is_way t w h)

    pub every_walk_costs : EveryWalkCosts t (all_rounds choose mark t)
    every_walk_costs w h = omega (arith, all_floor choose right mark t w (walk_is_way t w h))

    pub demand3 : HasWay t → Cheap mark t t.cost → Demand3 mark t (all_rounds choose mark t)
    demand3 way cheap =
        record {
          costs_balance = costs_balance;
          no_distance_left = no_distance_left way cheap;
          every_walk_cut = every_walk_cut;
          every_walk_costs = every_walk_costs;
        }

  -- of tables that pass checking: their costs are below the mark, and the floor is at most 67,107,840
  module _ (t : Tables) (fine : Checked t) (way : HasWay (view t)) where
    tables_cheap : Cheap limits.mark (view t) (view t).cost
    tables_cheap s l = omega (arith, fine.costs_most s)

    pub tables_demand3 : Demand3 limits.mark (view t) (all_rounds choose limits.mark (view t))
    tables_demand3 = demand3 limits.mark (view t) way tables_cheap

    pub floor_most : floor_of (all_rounds choose limits.mark (view t)).list ≤ 67107840
    floor_most =
        omega (
          arith,
          all_floor_most choose right limits.mark (view t) ((goal_is (view t)).1 way) tables_cheap limits.cost (λ s l. fine.costs_most s),
          mul-le-mul_right limits.cost fine.few_steps,
        )
