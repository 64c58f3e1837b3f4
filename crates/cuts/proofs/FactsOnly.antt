-- Zone, region and cut over sets of facts, for code whose sets have no room for "begin": it is never in the zone and always in the region, so that it can be
-- kept apart. A set grown in any order is the zone, or the region, once nothing more can be added, because these are least closed sets.
use Prim.Native.Nat.{ℕ, suc, ◌<◌}
use mathlib.Core.Path.{◌≡◌, sym, ◌∙◌, subst}
use mathlib.Core.Bool.{false}
use mathlib.Core.Logic.{◌⊎◌, inl, inr}
use native.Mathlib.Omega.{arith}
use Rattle.sets.specs.Tests.{Is, no, both, either, same}
use Rattle.sets.specs.Sets.{Set}
use Rattle.sets.proofs.Tests.{equal_tests, both_l, both_r, both_true, either_l, either_r, either_cases, same_true, same_at}
use Rattle.task.specs.Task.{Task}
use Rattle.task.proofs.Walks.{Sub}
use Rattle.reach.proofs.Least.{Kept, least_within}
use Rattle.distance.specs.Distance.{distance, goal_distance}
use Rattle.cuts.specs.Cut.{begin, counted, arc_into, free_tails, zone, heads_outside, region, cut}
use Rattle.cuts.proofs.Cut.{Chosen, arc_counted, arc_more, free_at, head_at, zone_tail, region_begin, region_arc, cut_arc, cut_region, cut_true}

module _ (t : Task) (c chosen : ℕ → ℕ) (goal_choice : ℕ) where
  abbrev pub the_zone : Set
  the_zone = zone t chosen c goal_choice

  abbrev pub the_region : Set
  the_region = region t chosen the_zone

  -- a set of facts of the zone that holds the goal's choice, and the chosen need of every step that costs nothing and has an arc into the set, is the zone
  pub zone_facts : (Y : Set) → Is (Y goal_choice) → Sub t.facts Y the_zone
      → ((s : ℕ) → s < t.steps → Is (arc_into t Y s) → c s ≡ 0 → chosen s < t.facts → Is (Y (chosen s)))
      → (f : ℕ) → f < t.facts → Y f ≡ the_zone f
  unfolding zone
  zone_facts Y first inside closed f l =
      equal_tests _ _ (inside f l)
      (λ z. least_within (suc t.facts) (free_tails t chosen c) (λ u. same u goal_choice) (λ u. u < t.facts → Is (Y u)) keeps
      (λ u k h m. rw (same_at u goal_choice h) first) f (omega arith) z l)
    where
      keeps : Kept (suc t.facts) (free_tails t chosen c) (λ u. u < t.facts → Is (Y u))
      keeps X w u k h m =
          elim (free_at t chosen c X u h) [
            | inl r ↦ absurd (omega (arith, r.0))
            | inr r ↦
                let arc = arc_more t X Y (λ g b x. w g (omega arith) x b) r.0 r.2 in
                subst (λ x. Is (Y x)) r.4 (closed r.0 r.1 arc r.3 (omega (arith, r.4)))
          ]

  -- the step's tail is "begin", or a fact of Y
  abbrev pub TailIn : Set → ℕ → Type 0
  TailIn Y s = (chosen s ≡ begin t) ⊎ Is (Y (chosen s))

  -- ---- in a round, where every choice is one of the farthest and the goal's distance is above 0

  module _ (mark : ℕ) (right : Chosen t (distance t c mark) chosen goal_choice) (away : 0 < goal_distance t c mark) where
    -- what is added to a set of facts of the zone is in the zone
    pub zone_grows : (Y : Set) → Sub t.facts Y the_zone → (s : ℕ) → s < t.steps → Is (arc_into t Y s) → c s ≡ 0 → Is (the_zone (chosen s))
    zone_grows Y inside s l arc e = zone_tail t c chosen mark goal_choice right away s l (arc_more t Y the_zone inside s arc) e

    -- a set of facts of the region that holds the start, and every fact outside the zone that an arc leads to from the set or from "begin", is the region
    pub region_facts : (Y : Set) → Sub t.facts t.start Y → Sub t.facts Y the_region
        → ((s f : ℕ) → s < t.steps → f < t.facts → Is (counted t s) → TailIn Y s → Is (t.sets s f) → the_zone f ≡ false → Is (Y f))
        → (f : ℕ) → f < t.facts → Y f ≡ the_region f
    unfolding region
    region_facts Y first inside closed f l =
        equal_tests _ _ (inside f l)
        (λ b. least_within (suc t.facts) (heads_outside t chosen the_zone) (λ u. either (same u (begin t)) (both (no (the_zone u)) (t.start u))) (λ u. u < t.facts → Is (Y u)) keeps
        (λ u k h m. elim (either_cases (same u (begin t)) _ h) [
          | inl e ↦ absurd (omega (arith, same_at u (begin t) e))
          | inr s ↦ first u m (both_r (no (the_zone u)) _ s)
        ]) f (omega arith) b l)
      where
        keeps : Kept (suc t.facts) (heads_outside t chosen the_zone) (λ u. u < t.facts → Is (Y u))
        keeps X w u k h m =
            let r = head_at t chosen the_zone X u h in
            let s = r.1 in
            let tail : TailIn Y s =
            elim (right.by_step s r.2 r.3) [ inl e ↦ inl e.0 | inr e ↦ inr (w (chosen s) (omega (arith, e.0)) r.4 e.0) ] in
            closed s u r.2 m r.3 tail r.5 r.0

    tail_in : (Y : Set) → Sub t.facts Y the_region → (s : ℕ) → s < t.steps → Is (counted t s) → TailIn Y s → Is (the_region (chosen s))
    tail_in Y inside s l counts from =
        elim (right.by_step s l counts) [
          | inl e ↦ rw e.0 (region_begin t c chosen mark goal_choice right away)
          | inr e ↦ elim from [ inl b ↦ absurd (omega (arith, e.0)) | inr y ↦ inside (chosen s) e.0 y ]
        ]

    -- what is added to a set of facts of the region is in the region
    pub region_grows : (Y : Set) → Sub t.facts Y the_region → (s f : ℕ) → s < t.steps → f < t.facts → Is (counted t s) → TailIn Y s → Is (t.sets s f)
        → the_zone f ≡ false → Is (the_region f)
    region_grows Y inside s f l k counts from sets out =
        region_arc t c chosen mark goal_choice right away s f l k counts (tail_in Y inside s l counts from) sets out

    -- the cut, from the facts of the zone and of the region: the steps with an arc into the one, whose tail is "begin" or in the other
    pub cut_facts : (zone_set region_set : Set) → ((f : ℕ) → f < t.facts → zone_set f ≡ the_zone f) → ((f : ℕ) → f < t.facts → region_set f ≡ the_region f)
        → (s : ℕ) → s < t.steps → cut t chosen the_zone s ≡ both (arc_into t zone_set s) (either (same (chosen s) (begin t)) (region_set (chosen s)))
    cut_facts Y W zone_is region_is s l =
        equal_tests _ _
        (λ h.
        let arc = cut_arc t chosen the_zone s h in
        both_true (arc_into t Y s) _ (arc_more t the_zone Y (λ f k z. zone_is f k ∙ z) s arc)
        (elim (right.by_step s l (arc_counted t the_zone s arc)) [
          | inl e ↦ either_l (same (chosen s) (begin t)) _ (same_true (chosen s) (begin t) e.0)
          | inr e ↦ either_r (same (chosen s) (begin t)) _ (region_is (chosen s) e.0 ∙ cut_region t chosen the_zone s h)
        ]))
        (λ h.
        let arc = both_l (arc_into t Y s) _ h in
        cut_true t c chosen mark goal_choice right away s l (arc_more t Y the_zone (λ f k y. sym (zone_is f k) ∙ y) s arc)
        (tail_in W (λ f k w. sym (region_is f k) ∙ w) s l (arc_counted t Y s arc)
        (elim (either_cases (same (chosen s) (begin t)) (W (chosen s)) (both_r (arc_into t Y s) _ h)) [ inl e ↦ inl (same_at (chosen s) (begin t) e) | inr w ↦ inr w ])))
