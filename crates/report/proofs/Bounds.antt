-- What a line names are facts and steps of the task: reach is held below n, a must row asks for it, and a must-pass step or a step of a cut is one that some way
-- takes or that has an arc.
use Prim.Native.Nat.{ℕ, ◌<◌}
use mathlib.Core.List.{List, [], ◌∷◌}
use mathlib.Core.Logic.{inl, inr}
use Rattle.sets.specs.Tests.{Is, same}
use Rattle.sets.specs.Sets.{Set}
use Rattle.sets.proofs.Tests.{not_is, both_l, either_cases, same_at}
use Rattle.task.specs.Limits.{limits}
use Rattle.task.specs.Task.{Task, ignoring_clears}
use Rattle.task.specs.Walks.{can_take, taking, goal_holds, real_walk, way_to_goal}
use Rattle.task.proofs.Walks.{can_take_below, can_take_rest}
use Rattle.reach.specs.Least.{pass}
use Rattle.reach.specs.Reach.{closure, reach, takes}
use Rattle.reach.proofs.Least.{held_below, least_keeps}
use Rattle.reach.proofs.Ways.{goal_is}
use Rattle.must.specs.Must.{must_facts, must_row, must_steps}
use Rattle.must.proofs.MustRows.{must_below}
use Rattle.must.proofs.Demand2.{union_at, step_reported}
use Rattle.cuts.specs.Cut.{lowest_farthest}
use Rattle.cuts.specs.Rounds.{EachRound}
use Rattle.cuts.specs.Answer.{rounds_of}
use Rattle.cuts.proofs.Choice.{lowest_is_farthest}
use Rattle.cuts.proofs.Round.{round_below}
use Rattle.cuts.proofs.Rounds.{all_each}
use Rattle.report.proofs.TableOfCuts.{CutBelow}

taken_below : (t : Task) (w : List ℕ) (X : Set) (s : ℕ) → Is (can_take t X w) → Is (takes (same s) w) → s < t.steps
unfolding takes
taken_below t [] X s can h = not_is h
taken_below t (a ∷ w) X s can h =
    elim (either_cases (same s a) (takes (same s) w) h) [
      | inl e ↦ rw (same_at s a e) (can_take_below t X a w can)
      | inr rest ↦ taken_below t w (taking t X a) s (can_take_rest t X a w can) rest
    ]

module _ (t : Task) where
  pub reach_below : (f : ℕ) → Is (reach t f) → f < t.facts
  unfolding reach closure pass
  reach_below =
      least_keeps t.facts _ t.start (λ X. (f : ℕ) → Is (X f) → f < t.facts) (λ X h f k. held_below t.facts _ f k)
      (λ f k. held_below t.facts _ f k)

  pub must_pass_below : (p : ℕ) → Is (must_facts t p) → p < t.facts
  unfolding must_facts
  must_pass_below p h = let r = union_at t (must_row t) p h in must_below t r.0 p r.3

  -- some way leads to the goal, and takes each must-pass step
  pub must_take_below : Is (goal_holds t (reach t)) → (s : ℕ) → Is (must_steps t s) → s < t.steps
  unfolding way_to_goal real_walk
  must_take_below some s h =
      let w = (goal_is t).0 some in
      taken_below (ignoring_clears t) w.0 t.start s (both_l _ _ w.1) ((step_reported t s).0 h w.0 w.1)

  pub cuts_below : EachRound (CutBelow t.steps) (rounds_of t).list
  unfolding rounds_of
  cuts_below = all_each lowest_farthest lowest_is_farthest limits.mark t (CutBelow t.steps) (λ costs away. round_below lowest_farthest lowest_is_farthest limits.mark t costs)
