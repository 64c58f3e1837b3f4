-- Laws of the largest and the least over the members of a set below n: by induction on n, where a number below n + 1 is n or is below n.
use Prim.Native.Nat.{ℕ, zero, suc, ◌≤◌, ◌<◌, max}
use mathlib.Core.Path.{◌≡◌, refl, ap, ◌∙◌}
use mathlib.Core.Bool.{Bool, true, false}
use mathlib.Core.List.{List, [], ◌∷◌, ◌++◌}
use mathlib.Core.Logic.{◌⊎◌, inl, inr}
use native.Mathlib.Nat.{not-suc-le-zero}
use native.Mathlib.Omega.{arith}
use lib.ListN.{length, get_or-eq_default}
use Rattle.std.specs.List.{fold}
use Rattle.std.proofs.lemmas.List.Sums.{fold-append}
use Rattle.sets.specs.Tests.{Is, pick}
use Rattle.sets.specs.Sets.{Set, count, members}
use Rattle.sets.proofs.Tests.{tell, not_both_ways, pick_true, pick_false, compare}
use Rattle.sets.proofs.Sets.{last, count_lt, count_full}
use Rattle.distance.specs.Distance.{largest, least, entry}

-- ---- the largest

module _ (X : Set) (d : ℕ → ℕ) where
  -- it is at least what each member has
  pub largest_ge : (n i : ℕ) → i < n → Is (X i) → d i ≤ largest n X d
  unfolding largest
  largest_ge zero i l h = absurd (not-suc-le-zero l)
  largest_ge (suc n) i l h =
      elim (last n i l) [
        | inl e ↦ rw e (omega (arith, pick_true (d n) 0 (rw e at h)))
        | inr b ↦ omega (arith, largest_ge n i b h)
      ]

  -- and at most what bounds all of them
  pub largest_le : (n x : ℕ) → ((i : ℕ) → i < n → Is (X i) → d i ≤ x) → largest n X d ≤ x
  unfolding largest
  largest_le zero x h = omega arith
  largest_le (suc n) x h =
      let ih = largest_le n x (λ i l. h i (omega arith)) in
      elim (tell (X n)) [
        | inl a ↦ omega (arith, h n (omega arith) a, pick_true (d n) 0 a)
        | inr a ↦ omega (arith, pick_false (d n) 0 a)
      ]

-- more members, or more for each, make it no smaller; it does not matter how far one looks past the last member
pub largest_mono : (n m : ℕ) (X Y : Set) (d e : ℕ → ℕ) → ((i : ℕ) → i < n → Is (X i) → (i < m) × Is (Y i) × (d i ≤ e i)) → largest n X d ≤ largest m Y e
largest_mono n m X Y d e h =
    largest_le X d n (largest m Y e) (λ i l x. let k = h i l x in omega (arith, k.2, largest_ge Y e m i k.0 k.1))

-- in a table it does not matter how far one looks past its end
pub largest_inside : (n : ℕ) (X Y : Set) (d : List ℕ) → ((i : ℕ) → Is (X i) → Is (Y i)) → largest n X (entry d) ≤ largest (length d) Y (entry d)
largest_inside n X Y d h =
    largest_le X (entry d) n (largest (length d) Y (entry d))
    (λ i l x. elim (compare i (length d)) [
      | inl b ↦ largest_ge Y (entry d) (length d) i b (h i x)
      | inr b ↦ omega (arith, get_or-eq_default d 0 b)
    ])

-- ---- the least

module _ (mark : ℕ) (X : Set) (x : ℕ → ℕ) where
  -- it is at most the mark, and at most what each member has
  pub least_mark : (n : ℕ) → least mark n X x ≤ mark
  unfolding least
  least_mark zero = omega arith
  least_mark (suc n) = omega (arith, least_mark n)

  pub least_le : (n i : ℕ) → i < n → Is (X i) → least mark n X x ≤ x i
  unfolding least
  least_le zero i l h = absurd (not-suc-le-zero l)
  least_le (suc n) i l h =
      elim (last n i l) [
        | inl e ↦ rw e (omega (arith, pick_true (x n) mark (rw e at h)))
        | inr b ↦ omega (arith, least_le n i b h)
      ]

  -- and at least what is below the mark and all of them
  pub least_ge : (n y : ℕ) → y ≤ mark → ((i : ℕ) → i < n → Is (X i) → y ≤ x i) → y ≤ least mark n X x
  unfolding least
  least_ge zero y top h = top
  least_ge (suc n) y top h =
      let ih = least_ge n y top (λ i l. h i (omega arith)) in
      elim (tell (X n)) [
        | inl a ↦ omega (arith, h n (omega arith) a, pick_true (x n) mark a)
        | inr a ↦ omega (arith, pick_false (x n) mark a)
      ]

  -- some member has it, unless it is the mark
  pub least_at : (n : ℕ) → least mark n X x < mark → (i : ℕ) × (i < n) × Is (X i) × (least mark n X x ≡ x i)
  unfolding least
  least_at zero h = absurd (omega arith)
  least_at (suc n) h = go (least_at n) (tell (X n))
    where
      up : (least mark n X x < mark → (i : ℕ) × (i < n) × Is (X i) × (least mark n X x ≡ x i)) → least mark n X x ≤ pick (X n) (x n) mark
          → (i : ℕ) × (i < suc n) × Is (X i) × (least mark (suc n) X x ≡ x i)
      up ih y = let r = ih (omega arith) in (r.0, omega (arith, r.1), r.2, omega (arith, r.3))

      go : (least mark n X x < mark → (i : ℕ) × (i < n) × Is (X i) × (least mark n X x ≡ x i)) → Is (X n) ⊎ (X n ≡ false)
          → (i : ℕ) × (i < suc n) × Is (X i) × (least mark (suc n) X x ≡ x i)
      go ih (inl a) =
          elim (compare (x n) (least mark n X x)) [
            | inl y ↦ (n, omega arith, a, omega (arith, pick_true (x n) mark a))
            | inr y ↦ up ih (omega (arith, pick_true (x n) mark a))
          ]
      go ih (inr a) = up ih (omega (arith, pick_false (x n) mark a, least_mark n))

-- ---- where the least is, among the numbers below n that are not in X

pub lowest_outside : (n : ℕ) (X : Set) (d : ℕ → ℕ)
    → ((i : ℕ) → i < n → Is (X i)) ⊎ ((i : ℕ) × (i < n) × (X i ≡ false) × ((j : ℕ) → j < n → X j ≡ false → d i ≤ d j))
lowest_outside zero X d = inl (λ i l. absurd (not-suc-le-zero l))
lowest_outside (suc n) X d = go (lowest_outside n X d) (tell (X n))
  where
    go : ((i : ℕ) → i < n → Is (X i)) ⊎ ((i : ℕ) × (i < n) × (X i ≡ false) × ((j : ℕ) → j < n → X j ≡ false → d i ≤ d j)) → Is (X n) ⊎ (X n ≡ false)
        → ((i : ℕ) → i < suc n → Is (X i)) ⊎ ((i : ℕ) × (i < suc n) × (X i ≡ false) × ((j : ℕ) → j < suc n → X j ≡ false → d i ≤ d j))
    go (inl z) (inl a) = inl (λ i l. elim (last n i l) [ inl e ↦ rw e a | inr b ↦ z i b ])
    go (inl z) (inr a) = inr (n, omega arith, a, λ j l b. elim (last n j l) [ inl e ↦ rw e (omega arith) | inr k ↦ not_both_ways (z j k) b ])
    go (inr r) (inl a) = inr (r.0, omega (arith, r.1), r.2, λ j l b. elim (last n j l) [ inl e ↦ not_both_ways a (rw e at b) | inr k ↦ r.3 j k b ])
    go (inr r) (inr a) =
        elim (compare (d n) (d r.0)) [
          | inl y ↦ inr (n, omega arith, a, λ j l b. elim (last n j l) [ inl e ↦ rw e (omega arith) | inr k ↦ omega (arith, r.3 j k b) ])
          | inr y ↦ inr (r.0, omega (arith, r.1), r.2, λ j l b. elim (last n j l) [ inl e ↦ rw e y | inr k ↦ r.3 j k b ])
        ]

-- a set that has n members below n has them all
pub all_counted : (n : ℕ) (X : Set) → n ≤ count n X → (i : ℕ) → i < n → Is (X i)
all_counted n X h i l =
    elim (tell (X i)) [
      | inl a ↦ a
      | inr a ↦ absurd (omega (arith, count_lt n X (λ f. true) (λ f k x. refl) i l a refl, count_full n (λ f. true) (λ f k. refl)))
    ]

-- ---- over the list of the members, lowest first

-- the largest is what a loop over them finds that begins at 0
pub largest_members : (n : ℕ) (X : Set) (d : ℕ → ℕ) → fold (λ a f. max a (d f)) 0 (members n X) ≡ largest n X d
unfolding largest members pick
largest_members zero X d = refl
largest_members (suc n) X d = go (X n) (largest_members n X d)
  where
    go : (b : Bool) → fold (λ a f. max a (d f)) 0 (members n X) ≡ largest n X d
        → fold (λ a f. max a (d f)) 0 (members n X ++ pick b (n ∷ []) []) ≡ max (largest n X d) (pick b (d n) 0)
    go true ih = fold-append (λ a f. max a (d f)) 0 (members n X) (n ∷ []) ∙ ap (λ (a : ℕ). max a (d n)) ih
    go false ih = fold-append (λ a f. max a (d f)) 0 (members n X) [] ∙ ih ∙ omega arith
