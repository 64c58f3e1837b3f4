-- Laws of the choice among equally far needs: the lowest of the farthest is one of them, because the largest distance of a set with a member is a member's.
use Prim.Native.Nat.{ℕ, ◌-◌, ◌≤◌, ◌<◌}
use mathlib.Core.Path.{◌≡◌, sym}
use mathlib.Core.Bool.{false}
use mathlib.Core.Logic.{◌⊎◌, inl, inr}
use native.Mathlib.Nat.{le_antisymm}
use native.Mathlib.Omega.{arith}
use Rattle.sets.specs.Tests.{Is, both, same}
use Rattle.sets.specs.Sets.{Set, any, lowest}
use Rattle.sets.proofs.Tests.{tell, fails, not_both_ways, both_l, both_r, both_true, same_true, same_at, compare}
use Rattle.sets.proofs.Sets.{any_true, any_at, lowest_is, lowest_only}
use Rattle.distance.specs.Distance.{largest}
use Rattle.distance.proofs.Extremes.{largest_ge, largest_le}
use Rattle.cuts.specs.Cut.{Farthest, ChoosesFarthest, lowest_farthest}

module _ (n : ℕ) (X : Set) (d : ℕ → ℕ) where
  -- a farthest member's distance is the largest; where there is no member that is 0
  pub farthest_largest : (q : ℕ) → Farthest n X d q → ((q ≡ n) × (largest n X d ≡ 0)) ⊎ ((q < n) × Is (X q) × (largest n X d ≡ d q))
  farthest_largest q r =
      elim r [
        | inl none ↦ inl (none.0, omega (arith, largest_le X d n 0 (λ f l x. not_both_ways x (none.1 f l))))
        | inr one ↦ inr (one.0, one.1, le_antisymm (largest_le X d n (d q) one.2) (largest_ge X d n q one.0 one.1))
      ]

  -- a set with a member has one whose distance is the largest
  largest_member : (f : ℕ) → f < n → Is (X f) → (q : ℕ) × (q < n) × Is (X q) × (d q ≡ largest n X d)
  largest_member f l x =
      elim (tell (any n (λ q. both (X q) (same (d q) (largest n X d))))) [
        | inl y ↦ let r = any_at n _ y in (r.0, r.1, both_l (X r.0) _ r.2, same_at _ _ (both_r (X r.0) _ r.2))
        | inr y ↦ absurd (omega (arith, none y, largest_ge X d n f l x))
      ]
    where
      -- otherwise each member's distance is smaller, and so the largest is smaller than itself
      smaller : any n (λ q. both (X q) (same (d q) (largest n X d))) ≡ false → (q : ℕ) → q < n → Is (X q) → d q < largest n X d
      smaller y q k z =
          elim (compare (d q) (largest n X d)) [
            | inl h ↦ h
            | inr h ↦ not_both_ways (any_true n _ q k (both_true (X q) _ z (same_true _ _ (le_antisymm (largest_ge X d n q k z) h)))) y
          ]

      none : any n (λ q. both (X q) (same (d q) (largest n X d))) ≡ false → largest n X d < largest n X d
      none y =
          elim (compare 0 (largest n X d)) [
            | inl h ↦ omega (arith, largest_le X d n (largest n X d - 1) (λ q k z. omega (arith, smaller y q k z)))
            | inr h ↦ omega (arith, smaller y f l x)
          ]

  -- the largest distance, where the lowest member with it is to be found
  abbrev farthest_of : Set
  farthest_of f = both (X f) (same (d f) (largest n X d))

  farthest_of_lem : (q : ℕ) → Is (X q) → ((f : ℕ) → f < n → Is (X f) → d f ≤ d q) → q < n → Is (farthest_of q)
  farthest_of_lem q x most l = both_true (X q) _ x (same_true _ _ (le_antisymm (largest_ge X d n q l x) (largest_le X d n (d q) most)))

-- document 01's choice is a farthest need, and begin where nothing is needed
pub lowest_is_farthest : ChoosesFarthest lowest_farthest
unfolding lowest_farthest
lowest_is_farthest n X d =
    let low = lowest_is n (farthest_of n X d) in
    let q = lowest n (farthest_of n X d) in
    elim (compare q n) [
      | inl l ↦
          let h = low.member l in
          let e = same_at _ _ (both_r (X q) _ h) in inr (l, both_l (X q) _ h, λ f k x. omega (arith, e, largest_ge X d n f k x))
      | inr l ↦
          inl (
            le_antisymm low.most l,
            λ f k. fails (X f) (λ x.
                let r = largest_member n X d f k x in
                not_both_ways (both_true (X r.0) _ r.2 (same_true _ _ r.3)) (low.least r.0 (omega (arith, r.1)))),
          )
    ]

-- a scan that finds the lowest of the farthest finds the choice: a member than which none is farther, and each before it is nearer
pub lowest_farthest_only : (n : ℕ) (X : Set) (d : ℕ → ℕ) (q : ℕ) → q < n → Is (X q) → ((f : ℕ) → f < n → Is (X f) → d f ≤ d q)
    → ((f : ℕ) → f < q → Is (X f) → d f < d q) → lowest_farthest n X d ≡ q
unfolding lowest_farthest
lowest_farthest_only n X d q l x most first =
    sym (lowest_only n (farthest_of n X d) q
    record {
      least =
          λ f k. fails _ (λ h. let e = same_at _ _ (both_r (X f) _ h) in omega (arith, e, first f k (both_l (X f) _ h), largest_ge X d n q l x));
      member = λ k. farthest_of_lem n X d q x most l;
      most = omega arith;
    })

-- and a scan that finds no member has begin
pub lowest_farthest_none : (n : ℕ) (X : Set) (d : ℕ → ℕ) → ((f : ℕ) → f < n → X f ≡ false) → lowest_farthest n X d ≡ n
lowest_farthest_none n X d none =
    elim (lowest_is_farthest n X d) [ inl r ↦ r.0 | inr r ↦ not_both_ways r.1 (none _ r.0) ]
