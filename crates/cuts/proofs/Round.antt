-- Laws of one round, for any choice of a farthest need: they are the laws of its cut, and its cost, the least among the cut's steps, is what one of them
-- costs, so that this step costs nothing afterwards.
use Prim.Native.Nat.{ℕ, ◌+◌, ◌-◌, ◌≤◌, ◌<◌}
use mathlib.Core.Path.{◌≡◌}
use mathlib.Core.Bool.{false}
use mathlib.Core.List.{List, [], ◌∷◌}
use mathlib.Core.Logic.{inl, inr}
use native.Mathlib.Omega.{arith}
use lib.ListN.{length, get_or-eq_default}
use Rattle.sets.specs.Tests.{Is, both, below, pick}
use Rattle.sets.specs.Sets.{Set, count}
use Rattle.sets.proofs.Tests.{tell, not_is, both_l, both_r, both_true, both_false_r, either_cases, below_true, below_at, below_false, pick_true, pick_false, compare}
use Rattle.sets.proofs.Sets.{count_lt}
use Rattle.task.specs.Task.{Task}
use Rattle.task.specs.Walks.{goal_holds, walk_cost, way_to_goal}
use Rattle.reach.specs.Reach.{reach, takes}
use Rattle.reach.proofs.Ways.{goal_is}
use Rattle.distance.specs.Distance.{list_of, entry, distance, goal_distance}
use Rattle.distance.proofs.Extremes.{least_le, least_ge, least_at}
use Rattle.distance.proofs.Lists.{length_list, entry_list}
use Rattle.distance.proofs.Ways.{under_costs}
use Rattle.cuts.specs.Cut.{Choice, ChoosesFarthest, chosen_needs, goal_choice, cut_of, cut_cost}
use Rattle.cuts.specs.Rounds.{Round, lowered, round_of}
use Rattle.cuts.proofs.Cut.{Chosen, cut_below, cut_on, cut_costs_some, cut_taken}

-- the number of steps that are on and cost something
abbrev pub dear_steps : Task → (ℕ → ℕ) → ℕ
dear_steps t c = count t.steps (λ s. both (t.on s) (below 0 (c s)))

-- ---- the costs after a round

-- a list of the first n numbers of d holds nothing past its end
pub entry_most : (n : ℕ) (d : ℕ → ℕ) (i : ℕ) → entry (list_of n d) i ≤ d i
entry_most n d i =
    elim (compare i n) [
      | inl l ↦ omega (arith, entry_list n d i l)
      | inr l ↦ omega (arith, get_or-eq_default (list_of n d) 0 {n = i} (omega (arith, length_list n d)))
    ]

module _ (t : Task) (r : Round) (costs : List ℕ) where
  -- they are m numbers
  pub lowered_size : length (lowered t r costs) ≡ t.steps
  unfolding lowered
  lowered_size = length_list t.steps _

  -- no step becomes dearer
  pub lowered_less : (s : ℕ) → entry (lowered t r costs) s ≤ entry costs s
  unfolding lowered
  lowered_less s = omega (arith, entry_most t.steps (λ s. entry costs s - pick (r.cut s) r.cost 0) s)

  -- a step outside the cut costs what it did
  pub lowered_outside : (s : ℕ) → s < t.steps → r.cut s ≡ false → entry (lowered t r costs) s ≡ entry costs s
  unfolding lowered
  lowered_outside s l out = omega (arith, entry_list t.steps (λ s. entry costs s - pick (r.cut s) r.cost 0) s l, pick_false r.cost 0 out)

  module _ (below_m : (s : ℕ) → Is (r.cut s) → s < t.steps) (fits : (s : ℕ) → Is (r.cut s) → r.cost ≤ entry costs s) where
    -- a step of the cut costs less by the cut's cost
    pub lowered_cut : (s : ℕ) → Is (r.cut s) → entry (lowered t r costs) s + r.cost ≡ entry costs s
    unfolding lowered
    lowered_cut s h =
        omega (
          arith,
          entry_list t.steps (λ s. entry costs s - pick (r.cut s) r.cost 0) s (below_m s h),
          pick_true r.cost 0 h,
          fits s h,
        )

    -- so any step's cost is what is left of it and the cut's cost, if it stands in the cut
    pub lowered_split : (s : ℕ) → s < t.steps → entry costs s ≡ entry (lowered t r costs) s + pick (r.cut s) r.cost 0
    lowered_split s l =
        elim (tell (r.cut s)) [
          | inl h ↦ omega (arith, lowered_cut s h, pick_true r.cost 0 h)
          | inr h ↦ omega (arith, lowered_outside s l h, pick_false r.cost 0 h)
        ]

  -- a list of steps costs no more than before
  pub walk_less : (w : List ℕ) → walk_cost (under_costs t (entry (lowered t r costs))) w ≤ walk_cost (under_costs t (entry costs)) w
  unfolding walk_cost
  walk_less [] = omega arith
  walk_less (s ∷ w) = omega (arith, lowered_less s, walk_less w)

-- and one that takes a step of the cut costs less by the cut's cost at least
pub walk_lowered : (t : Task) (r : Round) (costs : List ℕ) → ((s : ℕ) → Is (r.cut s) → s < t.steps) → ((s : ℕ) → Is (r.cut s) → r.cost ≤ entry costs s)
    → (w : List ℕ) → Is (takes r.cut w) → walk_cost (under_costs t (entry (lowered t r costs))) w + r.cost ≤ walk_cost (under_costs t (entry costs)) w
unfolding walk_cost takes
walk_lowered t r costs below_m fits [] h = not_is h
walk_lowered t r costs below_m fits (s ∷ w) h =
    elim (either_cases (r.cut s) (takes r.cut w) h) [
      | inl x ↦ omega (arith, lowered_cut t r costs below_m fits s x, walk_less t r costs w)
      | inr x ↦ omega (arith, lowered_less t r costs s, walk_lowered t r costs below_m fits w x)
    ]

-- a list that takes a step of X has one
pub takes_at : (X : Set) (w : List ℕ) → Is (takes X w) → (s : ℕ) × Is (X s)
unfolding takes
takes_at X [] h = not_is h
takes_at X (s ∷ w) h = elim (either_cases (X s) (takes X w) h) [ inl x ↦ (s, x) | inr x ↦ takes_at X w x ]

-- ---- the round itself

module _ (choose : Choice) (right : ChoosesFarthest choose) (mark : ℕ) (t : Task) where
  -- the choices that it makes are right
  pub choices_right : (c : ℕ → ℕ) → Chosen t (distance t c mark) (entry (chosen_needs choose mark t c)) (goal_choice choose mark t c)
  unfolding chosen_needs goal_choice distance
  choices_right c =
      record {
        by_step = λ s l counts. rw (entry_list t.steps (λ s. choose t.facts (t.needs s) (distance t c mark)) s l) (right t.facts (t.needs s) (distance t c mark));
        by_goal = right t.facts t.goal (distance t c mark);
      }

  -- its cut has steps of the task only, and they are on
  pub round_below : (costs : List ℕ) (s : ℕ) → Is ((round_of choose mark t costs).cut s) → s < t.steps
  unfolding round_of cut_of
  round_below costs s h = cut_below t _ _ s h

  pub round_on : (costs : List ℕ) (s : ℕ) → Is ((round_of choose mark t costs).cut s) → Is (t.on s)
  unfolding round_of cut_of
  round_on costs s h = cut_on t _ _ s h

  -- its cost is at most what each of them costs
  pub round_fits : (costs : List ℕ) (s : ℕ) → Is ((round_of choose mark t costs).cut s) → (round_of choose mark t costs).cost ≤ entry costs s
  unfolding round_of cut_cost
  round_fits costs s h = least_le mark _ (entry costs) t.steps s (round_below costs s h) h

  -- while the goal's distance is above 0
  module _ (costs : List ℕ) (away : 0 < goal_distance t (entry costs) mark) where
    -- every way to the goal takes a step of the cut
    pub round_taken : (w : List ℕ) → Is (way_to_goal t w) → Is (takes (round_of choose mark t costs).cut w)
    unfolding round_of cut_of
    round_taken = cut_taken t (entry costs) _ mark _ (choices_right (entry costs)) away

    -- every step of the cut costs something
    pub round_dear : (s : ℕ) → Is ((round_of choose mark t costs).cut s) → 0 < entry costs s
    unfolding round_of cut_of
    round_dear = cut_costs_some t (entry costs) _ mark _ (choices_right (entry costs)) away

    -- and so does the cut
    pub round_positive : 0 < mark → 0 < (round_of choose mark t costs).cost
    unfolding round_of cut_cost
    round_positive m = least_ge mark _ (entry costs) t.steps 1 m (λ s l h. round_dear s h)

    -- where some way leads to the goal and the costs are below the mark, the cut has a step, and the cut's cost is what one of its steps costs
    module _ (some_way : Is (goal_holds t (reach t))) (cheap : (s : ℕ) → s < t.steps → entry costs s < mark) where
      pub round_member : (s : ℕ) × Is ((round_of choose mark t costs).cut s)
      round_member = let w = (goal_is t).0 some_way in takes_at _ w.0 (round_taken w.0 w.1)

      pub round_least : (s : ℕ) × Is ((round_of choose mark t costs).cut s) × ((round_of choose mark t costs).cost ≡ entry costs s)
      unfolding round_of cut_cost
      round_least =
          let s = round_member.0 in
          let h = round_member.1 in
          let r = least_at mark (cut_of choose mark t (entry costs)) (entry costs) t.steps (omega (arith, round_fits costs s h, cheap s (round_below costs s h))) in
          (r.0, r.2, r.3)

      -- the round brings that step to 0
      pub round_frees : (s : ℕ) × Is ((round_of choose mark t costs).cut s) × (entry (lowered t (round_of choose mark t costs) costs) s ≡ 0)
      round_frees =
          let s = round_least.0 in
          let h = round_least.1 in
          (s, h, omega (arith, lowered_cut t (round_of choose mark t costs) costs (round_below costs) (round_fits costs) s h, round_least.2))

      -- and as no step becomes dearer, fewer steps that are on cost something
      pub round_dear_fewer : dear_steps t (entry (lowered t (round_of choose mark t costs) costs)) < dear_steps t (entry costs)
      round_dear_fewer =
          let s = round_frees.0 in
          let h = round_frees.1 in
          let r = round_of choose mark t costs in
          count_lt t.steps _ (λ s. both (t.on s) (below 0 (entry costs s)))
          (λ i l x. both_true (t.on i) _ (both_l (t.on i) _ x) (below_true 0 _ (omega (arith, below_at 0 _ (both_r (t.on i) _ x), lowered_less t r costs i))))
          s (round_below costs s h)
          (both_false_r (t.on s) _ (below_false 0 (entry (lowered t r costs) s) (omega (arith, round_frees.2))))
          (both_true (t.on s) _ (round_on costs s h) (below_true 0 (entry costs s) (round_dear s h)))
