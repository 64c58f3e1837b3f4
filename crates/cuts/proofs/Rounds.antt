-- Laws of all rounds, for any choice of a farthest need: what one round does to the costs is added up over the rounds, and as each of them frees a step that
-- cost something, the rounds end with the goal's distance at 0.
use Prim.Native.Nat.{ℕ, zero, suc, ◌+◌, ◌*◌, ◌≤◌, ◌<◌}
use mathlib.Core.Path.{◌≡◌, refl, sym, ◌∙◌}
use mathlib.Core.Bool.{Bool, true, false}
use mathlib.Core.List.{List, [], ◌∷◌}
use native.Mathlib.Nat.{mul-le-mul_right}
use native.Mathlib.Omega.{arith}
use lib.ListN.{length}
use Rattle.sets.specs.Tests.{Is, both, below}
use Rattle.sets.proofs.Tests.{fails, not_both_ways, both_l, both_r, both_true, below_true, below_at, below_not, pick_false}
use Rattle.sets.proofs.Sets.{count_most, count_le}
use Rattle.task.specs.Task.{Task}
use Rattle.task.specs.Walks.{goal_holds, walk_cost, way_to_goal}
use Rattle.reach.specs.Reach.{reach, takes}
use Rattle.distance.specs.Distance.{entry, goal_distance}
use Rattle.distance.proofs.Lists.{entry_list}
use Rattle.distance.proofs.Ways.{under_costs}
use Rattle.cuts.specs.Cut.{Choice, ChoosesFarthest}
use Rattle.cuts.specs.Rounds.{Round, given_costs, goal_away, lowered, round_of, rounds_from, all_rounds, floor_of, round_count, cuts_costs, EachRound}
use Rattle.cuts.proofs.Round.{takes_at, dear_steps, entry_most, lowered_less, lowered_split, walk_lowered, round_below, round_on, round_fits, round_taken, round_positive, round_least, round_dear_fewer}

-- the costs are below the mark
abbrev pub Cheap : ℕ → Task → (ℕ → ℕ) → Type 0
Cheap mark t c = (s : ℕ) → s < t.steps → c s < mark

-- ---- the goal's distance, tested

pub away_true : (mark : ℕ) (t : Task) (costs : List ℕ) → Is (goal_away mark t costs) → 0 < goal_distance t (entry costs) mark
unfolding goal_away
away_true mark t costs h = below_at 0 _ h

pub away_false : (mark : ℕ) (t : Task) (costs : List ℕ) → goal_away mark t costs ≡ false → goal_distance t (entry costs) mark ≡ 0
unfolding goal_away
away_false mark t costs h = omega (arith, below_not 0 _ h)

-- ---- lists of rounds

-- a step that stands in no cut
pub cuts_costs_none : (s : ℕ) (rs : List Round) → EachRound (λ r. r.cut s ≡ false) rs → cuts_costs rs s ≡ 0
unfolding cuts_costs
cuts_costs_none s [] h = refl
cuts_costs_none s (r ∷ rs) h = omega (arith, pick_false r.cost 0 h.0, cuts_costs_none s rs h.1)

module _ (choose : Choice) (mark : ℕ) (t : Task) where
  -- Q relates the costs before to the rounds and to the costs after. If it holds where there is no round, and holds of a round and more rounds where it
  -- holds of those, then it holds of all
  pub rounds_relate : (Q : List ℕ → List Round → List ℕ → Type 0) → ((costs : List ℕ) → Q costs [] costs)
      → ((costs : List ℕ) → 0 < goal_distance t (entry costs) mark → (rs : List Round) (left : List ℕ) → Q (lowered t (round_of choose mark t costs) costs) rs left
      → Q costs (round_of choose mark t costs ∷ rs) left)
      → (k : ℕ) (b : Bool) (costs : List ℕ) → goal_away mark t costs ≡ b → Q costs (rounds_from choose mark t k b costs).list (rounds_from choose mark t k b costs).left
  unfolding rounds_from
  rounds_relate Q none more zero true costs e = none costs
  rounds_relate Q none more zero false costs e = none costs
  rounds_relate Q none more (suc k) false costs e = none costs
  rounds_relate Q none more (suc k) true costs e =
      let next = lowered t (round_of choose mark t costs) costs in
      more costs (away_true mark t costs e) _ _ (rounds_relate Q none more k (goal_away mark t next) next refl)

  -- so of all rounds from the given costs
  pub all_relate : (Q : List ℕ → List Round → List ℕ → Type 0) → ((costs : List ℕ) → Q costs [] costs)
      → ((costs : List ℕ) → 0 < goal_distance t (entry costs) mark → (rs : List Round) (left : List ℕ) → Q (lowered t (round_of choose mark t costs) costs) rs left
      → Q costs (round_of choose mark t costs ∷ rs) left)
      → Q (given_costs t) (all_rounds choose mark t).list (all_rounds choose mark t).left
  unfolding all_rounds
  all_relate Q none more = rounds_relate Q none more t.steps (goal_away mark t (given_costs t)) (given_costs t) refl

-- ---- the given costs

pub given_is : (t : Task) (s : ℕ) → s < t.steps → entry (given_costs t) s ≡ t.cost s
unfolding given_costs
given_is t s l = entry_list t.steps t.cost s l

pub given_walk : (t : Task) (w : List ℕ) → walk_cost (under_costs t (entry (given_costs t))) w ≤ walk_cost t w
unfolding walk_cost given_costs
given_walk t [] = omega arith
given_walk t (s ∷ w) = omega (arith, entry_most t.steps t.cost s, given_walk t w)

-- ---- all rounds

module _ (choose : Choice) (right : ChoosesFarthest choose) (mark : ℕ) (t : Task) where
  abbrev round : List ℕ → Round
  round = round_of choose mark t

  abbrev next : List ℕ → List ℕ
  next costs = lowered t (round_of choose mark t costs) costs

  -- a step's cost is what is left of it and the costs of all cuts that it stands in
  pub all_balance : (s : ℕ) → s < t.steps → t.cost s ≡ entry (all_rounds choose mark t).left s + cuts_costs (all_rounds choose mark t).list s
  unfolding cuts_costs
  all_balance s l =
      sym (given_is t s l)
      ∙ all_relate choose mark t (λ costs rs left. entry costs s ≡ entry left s + cuts_costs rs s) (λ costs. omega arith)
      (λ costs away rs left ih. omega (arith, ih, lowered_split t (round costs) costs (round_below choose right mark t costs) (round_fits choose right mark t costs) s l))

  -- what holds of every round while the goal's distance is above 0
  pub all_each : (P : Round → Type 0) → ((costs : List ℕ) → 0 < goal_distance t (entry costs) mark → P (round_of choose mark t costs))
      → EachRound P (all_rounds choose mark t).list
  all_each P each = all_relate choose mark t (λ costs rs left. EachRound P rs) (λ costs. tt) (λ costs away rs left ih. (each costs away, ih))

  -- every way to the goal takes a step of each cut
  pub all_taken : (w : List ℕ) → Is (way_to_goal t w) → EachRound (λ r. Is (takes r.cut w)) (all_rounds choose mark t).list
  all_taken w h = all_each (λ r. Is (takes r.cut w)) (λ costs away. round_taken choose right mark t costs away w h)

  -- so where there is one, each cut has a step
  pub all_some : (w : List ℕ) → Is (way_to_goal t w) → EachRound (λ r. (s : ℕ) × Is (r.cut s)) (all_rounds choose mark t).list
  all_some w h = all_each (λ r. (s : ℕ) × Is (r.cut s)) (λ costs away. takes_at _ w (round_taken choose right mark t costs away w h))

  -- each cut costs something
  pub all_positive : 0 < mark → EachRound (λ r. 0 < r.cost) (all_rounds choose mark t).list
  all_positive m = all_each (λ r. 0 < r.cost) (λ costs away. round_positive choose right mark t costs away m)

  -- a step that is off stands in no cut, and its cost is left whole
  pub all_off : (s : ℕ) → t.on s ≡ false → EachRound (λ r. r.cut s ≡ false) (all_rounds choose mark t).list
  all_off s off = all_each (λ r. r.cut s ≡ false) (λ costs away. fails _ (λ h. not_both_ways (round_on choose right mark t costs s h) off))

  pub all_off_left : (s : ℕ) → s < t.steps → t.on s ≡ false → entry (all_rounds choose mark t).left s ≡ t.cost s
  all_off_left s l off = omega (arith, all_balance s l, cuts_costs_none s (all_rounds choose mark t).list (all_off s off))

  -- a way to the goal costs the sum of the cuts, and what it costs with what is left
  pub all_floor : (w : List ℕ) → Is (way_to_goal t w)
      → floor_of (all_rounds choose mark t).list + walk_cost (under_costs t (entry (all_rounds choose mark t).left)) w ≤ walk_cost t w
  unfolding floor_of
  all_floor w h =
      omega (
        arith,
        given_walk t w,
        all_relate choose mark t (λ costs rs left. floor_of rs + walk_cost (under_costs t (entry left)) w ≤ walk_cost (under_costs t (entry costs)) w)
            (λ costs. omega arith)
            (λ costs away rs left ih.
            omega (
              arith,
              ih,
              walk_lowered t (round costs) costs (round_below choose right mark t costs) (round_fits choose right mark t costs) w
                  (round_taken choose right mark t costs away w h),
            )),
      )

  -- ---- the rounds end, where some way leads to the goal

  module _ (some_way : Is (goal_holds t (reach t))) where
    next_cheap : (costs : List ℕ) → Cheap mark t (entry costs) → Cheap mark t (entry (next costs))
    next_cheap costs cheap s l = omega (arith, cheap s l, lowered_less t (round costs) costs s)

    -- each round leaves fewer steps that are on and cost something
    pub rounds_dear : (k : ℕ) (b : Bool) (costs : List ℕ) → goal_away mark t costs ≡ b → Cheap mark t (entry costs)
        → length (rounds_from choose mark t k b costs).list + dear_steps t (entry (rounds_from choose mark t k b costs).left) ≤ dear_steps t (entry costs)
    rounds_dear =
        rounds_relate choose mark t (λ costs rs left. Cheap mark t (entry costs) → length rs + dear_steps t (entry left) ≤ dear_steps t (entry costs))
        (λ costs cheap. omega arith)
        (λ costs away rs left ih cheap. omega (arith, ih (next_cheap costs cheap), round_dear_fewer choose right mark t costs away some_way cheap))

    -- as many rounds as there are such steps bring the goal's distance to 0
    pub rounds_end : (k : ℕ) (b : Bool) (costs : List ℕ) → goal_away mark t costs ≡ b → Cheap mark t (entry costs) → dear_steps t (entry costs) ≤ k
        → goal_distance t (entry (rounds_from choose mark t k b costs).left) mark ≡ 0
    unfolding rounds_from
    rounds_end zero false costs e cheap l = away_false mark t costs e
    rounds_end zero true costs e cheap l = absurd (omega (arith, round_dear_fewer choose right mark t costs (away_true mark t costs e) some_way cheap))
    rounds_end (suc k) false costs e cheap l = away_false mark t costs e
    rounds_end (suc k) true costs e cheap l =
        rounds_end k (goal_away mark t (next costs)) (next costs) refl (next_cheap costs cheap)
        (omega (arith, round_dear_fewer choose right mark t costs (away_true mark t costs e) some_way cheap))

    module _ (cheap : Cheap mark t t.cost) where
      given_cheap : Cheap mark t (entry (given_costs t))
      given_cheap s l = omega (arith, cheap s l, given_is t s l)

      given_dear : dear_steps t (entry (given_costs t)) ≤ dear_steps t t.cost
      given_dear =
          count_le t.steps _ _
          (λ s l h. both_true (t.on s) _ (both_l (t.on s) _ h) (below_true 0 (t.cost s) (omega (arith, below_at 0 _ (both_r (t.on s) _ h), given_is t s l))))

      -- with what is left, the goal's distance is zero
      pub all_end : goal_distance t (entry (all_rounds choose mark t).left) mark ≡ 0
      unfolding all_rounds
      all_end = rounds_end t.steps (goal_away mark t (given_costs t)) (given_costs t) refl given_cheap (count_most t.steps _)

      -- there are at most as many rounds as steps that are on and cost something
      pub all_rounds_most : round_count (all_rounds choose mark t).list ≤ dear_steps t t.cost
      unfolding all_rounds
      all_rounds_most = omega (arith, given_dear, rounds_dear t.steps (goal_away mark t (given_costs t)) (given_costs t) refl given_cheap)

      -- the floor is at most the largest cost for each step
      pub all_floor_most : (most : ℕ) → ((s : ℕ) → s < t.steps → t.cost s ≤ most) → floor_of (all_rounds choose mark t).list ≤ t.steps * most
      unfolding floor_of
      all_floor_most most dear =
          let each = all_relate choose mark t
          (λ costs rs left. Cheap mark t (entry costs) → ((s : ℕ) → s < t.steps → entry costs s ≤ most) → floor_of rs ≤ length rs * most)
          (λ costs c d. omega arith)
          (λ costs away rs left ih c d.
          let s = round_least choose right mark t costs away some_way c in
          omega (
            arith,
            s.2,
            d s.0 (round_below choose right mark t costs s.0 s.1),
            ih (next_cheap costs c) (λ i l. omega (arith, d i l, lowered_less t (round costs) costs i)),
          ))
          given_cheap (λ s l. omega (arith, given_is t s l, dear s l)) in
          omega (arith, each, mul-le-mul_right {m = length (all_rounds choose mark t).list} {n = t.steps} most (omega (arith, all_rounds_most, count_most t.steps (λ s. both (t.on s) (below 0 (t.cost s))))))
