-- Why the distance is the cheapest by finite derivations: what round k gives is derived at most k steps deep, and no derivation is cheaper than a solution of
-- the equation.
use Prim.Native.Nat.{ℕ, zero, suc, ◌≤◌, ◌<◌}
use mathlib.Core.Logic.{inl, inr, ◌↔◌}
use native.Mathlib.Omega.{arith}
use Rattle.sets.specs.Tests.{Is}
use Rattle.sets.specs.Sets.{Set}
use Rattle.sets.proofs.Tests.{tell, pick_false}
use Rattle.task.specs.Task.{Task}
use Rattle.distance.specs.Distance.{largest, entry, through_step, rounds, distances, distance, set_distance}
use Rattle.distance.specs.Derivations.{Derived, at_first, by_step}
use Rattle.distance.proofs.Extremes.{largest_ge, largest_le}
use Rattle.distance.proofs.Equation.{through_le, right_at, round_first, round_next, distance_start, distance_step}

-- a property of facts that taking steps keeps: it holds of the start facts, and of what a step sets if it holds of all its needs
pub record Closed (t : Task) (P : ℕ → Type 0) : Type 0 where
  pub first : (f : ℕ) → f < t.facts → Is (t.start f) → P f
  pub step : (s f : ℕ) → s < t.steps → f < t.facts → Is (t.on s) → Is (t.sets s f)
      → ((g : ℕ) → g < t.facts → Is (t.needs s g) → P g) → P f

module _ (t : Task) (c : ℕ → ℕ) (mark : ℕ) where
  -- no derivation is cheaper than the distance
  pub derived_least : {f x : ℕ} → Derived t c f x → f < t.facts → distance t c mark f ≤ x
  derived_least {f} (at_first h) l = omega (arith, distance_start t c mark f l h)
  derived_least {f} (by_step s y m on set needs e) l =
      omega (
        arith,
        distance_step t c mark s f (omega arith) m l on set,
        through_le t c (distance t c mark) s y (λ g b h. derived_least (needs g b h) b),
      )

  round_derived : (k f x : ℕ) → f < t.facts → entry (rounds t c mark k) f ≤ x → x < mark → Derived t c f x
  unfolding through_step
  round_derived zero f x l h u =
      elim (tell (t.start f)) [
        | inl a ↦ at_first a
        | inr a ↦ absurd (omega (arith, round_first t c mark f l, pick_false 0 mark a))
      ]
  round_derived (suc k) f x l h u =
      let e = round_next t c mark k f l in
      elim (right_at t c mark (entry (rounds t c mark k)) f (omega (arith, e))) [
        | inl a ↦ at_first a
        | inr r ↦
            by_step {x = x} r.0 (largest t.facts (t.needs r.0) (entry (rounds t c mark k))) r.1 r.2 r.3
            (λ g b z. round_derived k g _ b (largest_ge (t.needs r.0) (entry (rounds t c mark k)) t.facts g b z) (omega (arith, e, r.4)))
            (omega (arith, e, r.4))
      ]

  -- below the mark, a fact is at most x away exactly if it has a derivation that costs at most x
  pub distance_derived : (f x : ℕ) → f < t.facts → x < mark → (distance t c mark f ≤ x) ↔ Derived t c f x
  unfolding distance distances
  distance_derived f x l u = (λ h. round_derived t.facts f x l h u, λ d. derived_least d l)

  derived_in : (P : ℕ → Type 0) → Closed t P → {f x : ℕ} → Derived t c f x → f < t.facts → P f
  derived_in P closed {f} (at_first h) l = closed.first f l h
  derived_in P closed {f} (by_step s y m on set needs e) l = closed.step s f m l on set (λ g b h. derived_in P closed (needs g b h) b)

  -- such a property holds of every fact whose distance is below the mark
  pub finite_in : (P : ℕ → Type 0) → Closed t P → (f : ℕ) → f < t.facts → distance t c mark f < mark → P f
  finite_in P closed f l h = derived_in P closed ((distance_derived f (distance t c mark f) l h).0 (omega arith)) l

  -- a set is at most x away exactly if each of its facts is
  pub set_distance_most : (X : Set) (x : ℕ) → (set_distance t c mark X ≤ x) ↔ ((f : ℕ) → f < t.facts → Is (X f) → distance t c mark f ≤ x)
  unfolding set_distance
  set_distance_most X x = (
    λ h f l m. omega (arith, largest_ge X (distance t c mark) t.facts f l m),
    λ h. largest_le X (distance t c mark) t.facts x h,
  )
