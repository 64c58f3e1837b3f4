-- The floor is never below the goal's distance, for any choice of a farthest need. A round lowers that distance H by the cut's cost x at most: the distances,
-- cut off at H - x, lie below what relaxing with the lowered costs allows, because a step of the cut leads no nearer than H with its cost before.
use Prim.Native.Nat.{ℕ, zero, suc, ◌+◌, ◌-◌, ◌≤◌, ◌<◌, min}
use mathlib.Core.Path.{◌≡◌}
use mathlib.Core.List.{List}
use mathlib.Core.Logic.{inl, inr}
use native.Mathlib.Omega.{arith}
use Rattle.sets.specs.Tests.{Is}
use Rattle.sets.specs.Sets.{Set}
use Rattle.sets.proofs.Tests.{tell, pick_true, pick_false}
use Rattle.task.specs.Task.{Task}
use Rattle.task.specs.Walks.{goal_holds}
use Rattle.reach.specs.Reach.{reach}
use Rattle.distance.specs.Distance.{largest, entry, through_step, right_side, distance, set_distance, goal_distance}
use Rattle.distance.specs.Relaxing.{Under}
use Rattle.distance.proofs.Extremes.{largest_ge, largest_mono}
use Rattle.distance.proofs.Equation.{right_ge, distance_start, distance_mark, distance_step, distance_largest, distance_cheaper}
use Rattle.cuts.specs.Cut.{Choice, ChoosesFarthest, chosen_needs, goal_choice, cut_of}
use Rattle.cuts.specs.Rounds.{Round, given_costs, lowered, round_of, all_rounds, floor_of}
use Rattle.cuts.proofs.Cut.{goal_chosen, cut_long}
use Rattle.cuts.proofs.Round.{lowered_outside, lowered_cut, choices_right, round_below, round_fits}
use Rattle.cuts.proofs.Rounds.{Cheap, given_is, all_relate, all_end}

-- the largest, cut off at x, is at most the largest of what is cut off at x
largest_min : (X : Set) (d : ℕ → ℕ) (x n : ℕ) → min (largest n X d) x ≤ largest n X (λ f. min (d f) x)
unfolding largest
largest_min X d x zero = omega arith
largest_min X d x (suc n) =
    elim (tell (X n)) [
      | inl h ↦ omega (arith, largest_min X d x n, pick_true (d n) 0 h, pick_true (min (d n) x) 0 h)
      | inr h ↦ omega (arith, largest_min X d x n, pick_false (d n) 0 h, pick_false (min (d n) x) 0 h)
    ]

module _ (choose : Choice) (right : ChoosesFarthest choose) (mark : ℕ) (t : Task) where
  -- one round lowers the goal's distance by the cut's cost at most
  pub distance_falls : (costs : List ℕ) → 0 < goal_distance t (entry costs) mark
      → goal_distance t (entry costs) mark ≤ (round_of choose mark t costs).cost + goal_distance t (entry (lowered t (round_of choose mark t costs) costs)) mark
  unfolding goal_distance set_distance round_of cut_of through_step
  distance_falls costs away =
      omega (arith, goal.2, distance_largest t e mark cut_off under g goal.0, largest_ge t.goal (distance t e mark) t.facts g goal.0 goal.1)
    where
      r : Round
      r = round_of choose mark t costs

      c : ℕ → ℕ
      c = entry costs

      e : ℕ → ℕ
      e = entry (lowered t r costs)

      g : ℕ
      g = goal_choice choose mark t c

      goal : (g < t.facts) × Is (t.goal g) × (goal_distance t c mark ≡ distance t c mark g)
      goal = goal_chosen t c (entry (chosen_needs choose mark t c)) mark g (choices_right choose right mark t c) away

      cut_off : ℕ → ℕ
      cut_off f = min (distance t c mark f) (goal_distance t c mark - r.cost)

      under : Under t.facts cut_off (right_side t e mark cut_off)
      under f k =
          right_ge t e mark cut_off f (cut_off f) (omega (arith, distance_mark t c mark f k)) (λ h. omega (arith, distance_start t c mark f k h))
          (λ s l on sets.
          let near = distance_step t c mark s f (omega arith) l k on sets in
          let low = largest_min (t.needs s) (distance t c mark) (goal_distance t c mark - r.cost) t.facts in
          elim (tell (r.cut s)) [
            | inl h ↦
                omega (
                  arith,
                  lowered_cut t r costs (round_below choose right mark t costs) (round_fits choose right mark t costs) s h,
                  cut_long t c (entry (chosen_needs choose mark t c)) mark g (choices_right choose right mark t c) away s h,
                )
            | inr h ↦ omega (arith, lowered_outside t r costs s l h)
          ])

  given_distance : goal_distance t t.cost mark ≤ goal_distance t (entry (given_costs t)) mark
  unfolding goal_distance set_distance
  given_distance =
      largest_mono t.facts t.facts t.goal t.goal (distance t t.cost mark) (distance t (entry (given_costs t)) mark)
      (λ f l h. (l, h, distance_cheaper mark t t.cost (entry (given_costs t)) (λ s k. omega (arith, given_is t s k)) f l))

  -- the cuts together cost at least the goal's distance under the given costs
  pub floor_distance : Is (goal_holds t (reach t)) → Cheap mark t t.cost → goal_distance t t.cost mark ≤ floor_of (all_rounds choose mark t).list
  unfolding floor_of
  floor_distance some_way cheap =
      omega (
        arith,
        given_distance,
        all_end choose right mark t some_way cheap,
        all_relate choose mark t (λ costs rs left. goal_distance t (entry costs) mark ≤ floor_of rs + goal_distance t (entry left) mark) (λ costs. omega arith)
            (λ costs away rs left ih. omega (arith, ih, distance_falls costs away)),
      )
