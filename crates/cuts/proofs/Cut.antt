-- Laws of one round's cut, for any choice of a farthest need. Along a zero-cost arc the distance does not grow, so all of the zone is at least as far as the
-- goal, and "begin" is outside it; along a way every fact that is true lies in the region until a step of the cut is taken, so every way to the goal takes one.
use Prim.Native.Nat.{ℕ, suc, ◌+◌, ◌≤◌, ◌<◌}
use mathlib.Core.Path.{◌≡◌, refl, subst}
use mathlib.Core.Bool.{false}
use mathlib.Core.List.{List}
use mathlib.Core.Logic.{◌⊎◌, inl, inr}
use native.Mathlib.Omega.{arith}
use Rattle.sets.specs.Tests.{Is, no, both, either, same}
use Rattle.sets.specs.Sets.{Set, removed}
use Rattle.sets.proofs.Tests.{fails, not_both_ways, both_l, both_r, both_true, either_l, either_r, either_cases, no_true, no_false, same_true, same_at, compare}
use Rattle.sets.proofs.Sets.{any_true, any_at, within_at}
use Rattle.task.specs.Task.{Task}
use Rattle.task.specs.Walks.{goal_holds, way_to_goal}
use Rattle.task.proofs.Walks.{Sub, possible_true, possible_on, possible_needs}
use Rattle.reach.specs.Reach.{reach, made, without, takes}
use Rattle.reach.proofs.Least.{Within, Kept, held_in, held_out, held_below, least_holds, least_closed, least_within}
use Rattle.reach.proofs.Ways.{made_true, made_at, reach_holds, reach_closed, reach_within, every_goal}
use Rattle.distance.specs.Distance.{through_step, distance, set_distance, goal_distance}
use Rattle.distance.proofs.Equation.{distance_start, distance_step}
use Rattle.cuts.specs.Cut.{Farthest, begin, counted, arc_into, free_tails, zone, heads_outside, region, cut}
use Rattle.cuts.proofs.Choice.{farthest_largest}

-- each step that counts has chosen one of its farthest needs, and the goal one of its own
pub record Chosen (t : Task) (d chosen : ℕ → ℕ) (goal_choice : ℕ) : Type 0 where
  pub by_step : (s : ℕ) → s < t.steps → Is (counted t s) → Farthest t.facts (t.needs s) d (chosen s)
  pub by_goal : Farthest t.facts t.goal d goal_choice

-- ---- reading arcs

module _ (t : Task) where
  pub counted_on : (s : ℕ) → Is (counted t s) → Is (t.on s)
  unfolding counted
  counted_on s h = possible_on t (reach t) s h

  pub arc_true : (X : Set) (s f : ℕ) → f < t.facts → Is (counted t s) → Is (t.sets s f) → Is (X f) → Is (arc_into t X s)
  unfolding arc_into
  arc_true X s f l counts sets x = both_true (counted t s) _ counts (any_true t.facts _ f l (both_true (t.sets s f) (X f) sets x))

  pub arc_counted : (X : Set) (s : ℕ) → Is (arc_into t X s) → Is (counted t s)
  unfolding arc_into
  arc_counted X s h = both_l (counted t s) _ h

  pub arc_at : (X : Set) (s : ℕ) → Is (arc_into t X s) → (f : ℕ) × (f < t.facts) × Is (t.sets s f) × Is (X f)
  unfolding arc_into
  arc_at X s h =
      let r = any_at t.facts _ (both_r (counted t s) _ h) in
      (r.0, r.1, both_l (t.sets s r.0) _ r.2, both_r (t.sets s r.0) _ r.2)

  pub arc_more : (X Y : Set) → Sub t.facts X Y → (s : ℕ) → Is (arc_into t X s) → Is (arc_into t Y s)
  arc_more X Y sub s h =
      let r = arc_at X s h in arc_true Y s r.0 r.1 (arc_counted X s h) r.2 (sub r.0 r.1 r.3)

  module _ (chosen c : ℕ → ℕ) where
    -- a zero-cost arc into X begins at "begin", with a start fact in X, or at the chosen need of a step that costs nothing
    pub free_at : (X : Set) (u : ℕ) → Is (free_tails t chosen c X u)
        → ((u ≡ begin t) × (f : ℕ) × (f < t.facts) × Is (t.start f) × Is (X f))
        ⊎ ((s : ℕ) × (s < t.steps) × Is (arc_into t X s) × (c s ≡ 0) × (chosen s ≡ u))
    unfolding free_tails
    free_at X u h =
        elim (either_cases _ _ h) [
          | inl a ↦
              let r = any_at t.facts _ (both_r (same u (begin t)) _ a) in
              inl (same_at u (begin t) (both_l (same u (begin t)) _ a), r.0, r.1, both_l (t.start r.0) _ r.2, both_r (t.start r.0) _ r.2)
          | inr b ↦
              let r = any_at t.steps _ b in
              let s = r.0 in
              let e = both_r (arc_into t X s) _ r.2 in
              inr (s, r.1, both_l (arc_into t X s) _ r.2, same_at (c s) 0 (both_l (same (c s) 0) _ e), same_at (chosen s) u (both_r (same (c s) 0) _ e))
        ]

    pub free_true : (X : Set) (s : ℕ) → s < t.steps → Is (arc_into t X s) → c s ≡ 0 → Is (free_tails t chosen c X (chosen s))
    unfolding free_tails
    free_true X s l arc e =
        either_r _ _ (any_true t.steps _ s l (both_true (arc_into t X s) _ arc (both_true (same (c s) 0) _ (same_true (c s) 0 e) (same_true (chosen s) (chosen s) refl))))

  -- an arc to a fact outside the zone
  pub head_at : (chosen : ℕ → ℕ) (Z X : Set) (f : ℕ) → Is (heads_outside t chosen Z X f)
      → (Z f ≡ false) × (s : ℕ) × (s < t.steps) × Is (counted t s) × Is (X (chosen s)) × Is (t.sets s f)
  unfolding heads_outside
  head_at chosen Z X f h =
      let r = any_at t.steps _ (both_r (no (Z f)) _ h) in
      let s = r.0 in
      let e = both_r (counted t s) _ r.2 in
      (no_false (Z f) (both_l (no (Z f)) _ h), s, r.1, both_l (counted t s) _ r.2, both_l (X (chosen s)) _ e, both_r (X (chosen s)) _ e)

  pub head_true : (chosen : ℕ → ℕ) (Z X : Set) (s f : ℕ) → s < t.steps → Is (counted t s) → Is (X (chosen s)) → Is (t.sets s f) → Z f ≡ false
      → Is (heads_outside t chosen Z X f)
  unfolding heads_outside
  head_true chosen Z X s f l counts x sets out =
      both_true (no (Z f)) _ (no_true (Z f) out)
      (any_true t.steps _ s l (both_true (counted t s) _ counts (both_true (X (chosen s)) (t.sets s f) x sets)))

  -- a step of the cut is one of the task's, has an arc into the zone Z from outside it, its tail is in the region, and it is on
  module _ (chosen : ℕ → ℕ) (Z : Set) where
    pub cut_below : (s : ℕ) → Is (cut t chosen Z s) → s < t.steps
    unfolding cut
    cut_below s h = held_below t.steps _ s h

    pub cut_arc : (s : ℕ) → Is (cut t chosen Z s) → Is (arc_into t Z s)
    unfolding cut
    cut_arc s h = both_l (arc_into t Z s) _ (held_out t.steps _ s h)

    pub cut_tail : (s : ℕ) → Is (cut t chosen Z s) → Z (chosen s) ≡ false
    unfolding cut
    cut_tail s h = no_false _ (both_l (no (Z (chosen s))) _ (both_r (arc_into t Z s) _ (held_out t.steps _ s h)))

    pub cut_region : (s : ℕ) → Is (cut t chosen Z s) → Is (region t chosen Z (chosen s))
    unfolding cut
    cut_region s h = both_r (no (Z (chosen s))) _ (both_r (arc_into t Z s) _ (held_out t.steps _ s h))

    pub cut_on : (s : ℕ) → Is (cut t chosen Z s) → Is (t.on s)
    cut_on s h = counted_on s (arc_counted Z s (cut_arc s h))

-- ---- a round under the costs c: every choice is one of the farthest, and the goal's distance is above 0

module _ (t : Task) (c chosen : ℕ → ℕ) (mark goal_choice : ℕ) (right : Chosen t (distance t c mark) chosen goal_choice) (away : 0 < goal_distance t c mark) where
  -- the distances, the zone and the region of the round
  abbrev pub dist : ℕ → ℕ
  dist = distance t c mark

  abbrev pub the_zone : Set
  the_zone = zone t chosen c goal_choice

  abbrev pub the_region : Set
  the_region = region t chosen the_zone

  abbrev seeds : Set
  seeds u = either (same u (begin t)) (both (no (the_zone u)) (t.start u))

  -- the goal's choice is a goal fact as far away as the goal
  pub goal_chosen : (goal_choice < t.facts) × Is (t.goal goal_choice) × (goal_distance t c mark ≡ dist goal_choice)
  unfolding goal_distance set_distance
  goal_chosen = elim (farthest_largest t.facts t.goal dist goal_choice right.by_goal) [ inl r ↦ absurd (omega (arith, r.1)) | inr r ↦ r ]

  -- along an arc the distance grows by the step's cost at most, and so not at all where the step costs nothing; "begin" has distance 0
  pub arc_distance : (s f : ℕ) → s < t.steps → f < t.facts → Is (counted t s) → Is (t.sets s f)
      → ((chosen s ≡ begin t) × (dist f ≤ c s)) ⊎ ((chosen s < t.facts) × Is (t.needs s (chosen s)) × (dist f ≤ c s + dist (chosen s)))
  unfolding through_step
  arc_distance s f l k counts sets =
      let near = distance_step t c mark s f (omega arith) l k (counted_on t s counts) sets in
      elim (farthest_largest t.facts (t.needs s) dist (chosen s) (right.by_step s l counts)) [
        | inl r ↦ inl (r.0, omega (arith, r.1))
        | inr r ↦ inr (r.0, r.1, omega (arith, r.2))
      ]

  -- the tails of arcs are vertices
  pub tail_vertex : (s : ℕ) → s < t.steps → Is (counted t s) → chosen s < suc t.facts
  tail_vertex s l counts = elim (right.by_step s l counts) [ inl r ↦ omega (arith, r.0) | inr r ↦ omega (arith, r.0) ]

  -- ---- the zone

  -- the goal's choice is in it
  pub zone_goal : Is (the_zone goal_choice)
  unfolding zone
  zone_goal =
      least_holds (suc t.facts) (free_tails t chosen c) (λ u. same u goal_choice) goal_choice (omega (arith, goal_chosen.0)) (same_true goal_choice goal_choice refl)

  -- and the tail of every zero-cost arc into it
  pub zone_tail : (s : ℕ) → s < t.steps → Is (arc_into t the_zone s) → c s ≡ 0 → Is (the_zone (chosen s))
  unfolding zone
  zone_tail s l arc e =
      least_closed (suc t.facts) (free_tails t chosen c) (λ u. same u goal_choice) (chosen s) (tail_vertex s l (arc_counted t the_zone s arc)) (free_true t chosen c the_zone s l arc e)

  -- along a zero-cost arc the distance does not grow, so that backwards it does not fall: all of the zone are facts at least as far away as the goal
  pub zone_not_nearer : Within (suc t.facts) the_zone (λ u. (u < t.facts) × (goal_distance t c mark ≤ dist u))
  unfolding zone
  zone_not_nearer =
      least_within (suc t.facts) (free_tails t chosen c) (λ u. same u goal_choice) (λ u. (u < t.facts) × (goal_distance t c mark ≤ dist u)) keeps
      (λ u k h. rw (same_at u goal_choice h) (goal_chosen.0, omega (arith, goal_chosen.2)))
    where
      keeps : Kept (suc t.facts) (free_tails t chosen c) (λ u. (u < t.facts) × (goal_distance t c mark ≤ dist u))
      keeps X behind u k h =
          elim (free_at t chosen c X u h) [
            | inl r ↦ absurd (omega (arith, distance_start t c mark r.1 r.2 r.3, (behind r.1 (omega (arith, r.2)) r.4).1))
            | inr r ↦
                let s = r.0 in
                let q = arc_at t X s r.2 in
                let back = (behind q.0 (omega (arith, q.1)) q.3).1 in
                elim (arc_distance s q.0 r.1 q.1 (arc_counted t X s r.2) q.2) [
                  | inl e ↦ absurd (omega (arith, e.1, r.3, back))
                  | inr e ↦ subst (λ x. (x < t.facts) × (goal_distance t c mark ≤ dist x)) r.4 (e.0, omega (arith, e.2, r.3, back))
                ]
          ]

  -- so "begin" is not in it, nor is a start fact
  pub begin_outside : the_zone (begin t) ≡ false
  begin_outside = fails _ (λ h. omega (arith, (zone_not_nearer (begin t) (omega arith) h).0))

  pub start_outside : (f : ℕ) → f < t.facts → Is (t.start f) → the_zone f ≡ false
  start_outside f l s = fails _ (λ h. omega (arith, distance_start t c mark f l s, (zone_not_nearer f (omega arith) h).1))

  -- ---- the region

  -- nothing of it is in the zone
  pub region_outside : Within (suc t.facts) the_region (λ u. the_zone u ≡ false)
  unfolding region
  region_outside =
      least_within (suc t.facts) (heads_outside t chosen the_zone) seeds (λ u. the_zone u ≡ false) (λ X w u k h. (head_at t chosen the_zone X u h).0)
      (λ u k h. elim (either_cases (same u (begin t)) _ h) [ inl e ↦ rw (same_at u (begin t) e) begin_outside | inr s ↦ no_false (the_zone u) (both_l (no (the_zone u)) _ s) ])

  pub region_begin : Is (the_region (begin t))
  unfolding region
  region_begin =
      least_holds (suc t.facts) (heads_outside t chosen the_zone) seeds (begin t) (omega arith) (either_l (same (begin t) (begin t)) _ (same_true (begin t) (begin t) refl))

  pub region_start : (f : ℕ) → f < t.facts → Is (t.start f) → Is (the_region f)
  unfolding region
  region_start f l s =
      least_holds (suc t.facts) (heads_outside t chosen the_zone) seeds f (omega arith)
      (either_r (same f (begin t)) _ (both_true (no (the_zone f)) _ (no_true (the_zone f) (start_outside f l s)) s))

  -- an arc from the region leads into it, or into the zone
  pub region_arc : (s f : ℕ) → s < t.steps → f < t.facts → Is (counted t s) → Is (the_region (chosen s)) → Is (t.sets s f) → the_zone f ≡ false → Is (the_region f)
  unfolding region
  region_arc s f l k counts b sets out =
      least_closed (suc t.facts) (heads_outside t chosen the_zone) seeds f (omega arith) (head_true t chosen the_zone the_region s f l counts b sets out)

  -- ---- the cut

  -- a step with an arc from the region into the zone is in the cut
  pub cut_true : (s : ℕ) → s < t.steps → Is (arc_into t the_zone s) → Is (the_region (chosen s)) → Is (cut t chosen the_zone s)
  unfolding cut
  cut_true s l arc b =
      held_in t.steps _ s l
      (both_true (arc_into t the_zone s) _ arc
      (both_true (no (the_zone (chosen s))) _ (no_true _ (region_outside (chosen s) (tail_vertex s l (arc_counted t the_zone s arc)) b)) b))

  -- every step of the cut costs something: otherwise its tail would be in the zone
  pub cut_costs_some : (s : ℕ) → Is (cut t chosen the_zone s) → 0 < c s
  cut_costs_some s h =
      elim (compare 0 (c s)) [
        | inl l ↦ l
        | inr l ↦ not_both_ways (zone_tail s (cut_below t chosen the_zone s h) (cut_arc t chosen the_zone s h) (omega arith)) (cut_tail t chosen the_zone s h)
      ]

  -- without the steps of the cut only facts of the region are reached, and so not the goal's choice
  pub cut_parts : reach (without t (cut t chosen the_zone)) goal_choice ≡ false
  unfolding removed counted
  cut_parts =
      fails _ (λ h.
      not_both_ways zone_goal
      (region_outside goal_choice (omega (arith, goal_chosen.0))
      (reach_within (without t (cut t chosen the_zone)) (λ f. Is (the_region f) × Is (reach t f)) keeps (λ f l s. (region_start f l s, reach_holds t f l s)) goal_choice goal_chosen.0 h).0))
    where
      keeps : Kept t.facts (made (without t (cut t chosen the_zone))) (λ f. Is (the_region f) × Is (reach t f))
      keeps X inside f l y =
          let r = made_at (without t (cut t chosen the_zone)) X f y in
          let s = r.0 in
          let on = possible_on (without t (cut t chosen the_zone)) X s r.2 in
          let needs = possible_needs (without t (cut t chosen the_zone)) X s r.2 in
          let counts = possible_true t (reach t) s (both_r (no (cut t chosen the_zone s)) _ on) (λ q i n. (inside q i (needs q i n)).1) in
          let b : Is (the_region (chosen s)) =
          elim (right.by_step s r.1 counts) [ inl e ↦ rw e.0 region_begin | inr e ↦ (inside (chosen s) e.0 (needs (chosen s) e.0 e.1)).0 ] in (
            region_arc s f r.1 l counts b r.3
                (fails (the_zone f) (λ z. not_both_ways (cut_true s r.1 (arc_true t the_zone s f l counts r.3 z) b) (no_false _ (both_l (no (cut t chosen the_zone s)) _ on)))),
            reach_closed t f l (made_true t (reach t) s f r.1 counts r.3),
          )

  -- every way to the goal takes a step of the cut
  pub cut_taken : (w : List ℕ) → Is (way_to_goal t w) → Is (takes (cut t chosen the_zone) w)
  unfolding goal_holds
  cut_taken = (every_goal t (cut t chosen the_zone)).1 (λ h. not_both_ways (within_at t.facts t.goal _ h goal_choice goal_chosen.0 goal_chosen.1) cut_parts)

  -- a step of the cut leads no nearer than the goal: it sets a fact of the zone
  pub cut_long : (s : ℕ) → Is (cut t chosen the_zone s) → goal_distance t c mark ≤ through_step t c dist s
  cut_long s h =
      let arc = cut_arc t chosen the_zone s h in
      let r = arc_at t the_zone s arc in
      omega (
        arith,
        (zone_not_nearer r.0 (omega (arith, r.1)) r.3).1,
        distance_step t c mark s r.0 (omega arith) (cut_below t chosen the_zone s h) r.1 (cut_on t chosen the_zone s h) r.2,
      )
