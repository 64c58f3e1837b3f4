-- Laws of the questions asked of a set below a bound: by induction on the bound, where a number below n + 1 is n or is below n.
use Prim.Native.Nat.{ℕ, zero, suc, ◌+◌, ◌≤◌, ◌<◌, zero-le}
use mathlib.Core.Path.{◌≡◌, refl, sym, ap, ap₂, ◌∙◌}
use mathlib.Core.Bool.{Bool, true, false}
use mathlib.Core.Logic.{◌⊎◌, inl, inr}
use native.Mathlib.Nat.{not-suc-le-zero, le_of_suc-le-suc, eq-or-lt_of_le}
use native.Mathlib.Numerals.{add-one}
use native.Mathlib.Omega.{arith}
use Rattle.std.specs.Prelude.{Some, None}
use Rattle.sets.specs.Tests.{Is, no, both, either, implies, below, same, pick}
use Rattle.sets.specs.Sets.{Set, added, dropped, removed, all, any, within, one, count, lowest, lowest_if_any}
use Rattle.sets.proofs.Tests.{not_is, tell, fails, not_both_ways, equal_tests, both_l, both_r, both_true, either_l, either_r, either_cases, no_true, no_false, implies_true, implies_at, below_at, below_not, below_true, below_false, same_true, same_at, same_false, compare, pick_true, pick_false}

-- a number below n + 1 is n or is below n
pub last : (n i : ℕ) → i < suc n → (i ≡ n) ⊎ (i < n)
last n i h = eq-or-lt_of_le (le_of_suc-le-suc h)

-- ---- a number put in or taken out makes no difference to another

pub added_itself : (X : Set) (f g : ℕ) → g ≡ f → Is (added X f g)
unfolding added
added_itself X f g e = either_r (X g) (same g f) (same_true g f e)

pub added_other : (X : Set) (f g : ℕ) → ¬ (g ≡ f) → added X f g ≡ X g
unfolding added
added_other X f g d =
    equal_tests (either (X g) (same g f)) (X g)
    (λ h. elim (either_cases (X g) (same g f) h) [ inl x ↦ x | inr e ↦ absurd (d (same_at g f e)) ])
    (λ x. either_l (X g) (same g f) x)

pub dropped_itself : (X : Set) (f g : ℕ) → g ≡ f → dropped X f g ≡ false
unfolding dropped both no
dropped_itself X f g e = rw (same_true g f e)

pub dropped_other : (X : Set) (f g : ℕ) → ¬ (g ≡ f) → dropped X f g ≡ X g
unfolding dropped both no
dropped_other X f g d = rw (same_false g f d)

-- in X and not in Y
pub removed_true : (X Y : Set) (f : ℕ) → Is (X f) → Y f ≡ false → Is (removed X Y f)
unfolding removed
removed_true X Y f x y = both_true (no (Y f)) (X f) (no_true (Y f) y) x

pub removed_at : (X Y : Set) (f : ℕ) → Is (removed X Y f) → Is (X f) × (Y f ≡ false)
unfolding removed
removed_at X Y f h = (both_r (no (Y f)) (X f) h, no_false (Y f) (both_l (no (Y f)) (X f) h))

-- ---- every, some

pub all_at : (n : ℕ) (p : ℕ → Bool) → Is (all n p) → (i : ℕ) → i < n → Is (p i)
unfolding all
all_at zero p h i l = absurd (not-suc-le-zero l)
all_at (suc n) p h i l =
    elim (last n i l) [ inl e ↦ rw e (both_r (all n p) _ h) | inr b ↦ all_at n p (both_l _ (p n) h) i b ]

pub all_true : (n : ℕ) (p : ℕ → Bool) → ((i : ℕ) → i < n → Is (p i)) → Is (all n p)
unfolding all
all_true zero p h = refl
all_true (suc n) p h = both_true (all n p) (p n) (all_true n p (λ i l. h i (omega arith))) (h n (omega arith))

pub all_fails : (n : ℕ) (p : ℕ → Bool) (i : ℕ) → i < n → p i ≡ false → all n p ≡ false
all_fails n p i l e = fails (all n p) (λ h. not_both_ways (all_at n p h i l) e)

-- the test fails somewhere
pub all_not : (n : ℕ) (p : ℕ → Bool) → all n p ≡ false → (i : ℕ) × (i < n) × (p i ≡ false)
unfolding all
all_not zero p e = not_both_ways refl e
all_not (suc n) p e = go (all_not n p) (tell (all n p)) (tell (p n))
  where
    go : (all n p ≡ false → (i : ℕ) × (i < n) × (p i ≡ false)) → Is (all n p) ⊎ (all n p ≡ false) → Is (p n) ⊎ (p n ≡ false)
        → (i : ℕ) × (i < suc n) × (p i ≡ false)
    go ih (inl a) (inl b) = not_both_ways (both_true (all n p) (p n) a b) e
    go ih (inl a) (inr b) = (n, omega arith, b)
    go ih (inr a) x = let r = ih a in (r.0, omega (arith, r.1), r.2)

pub any_true : (n : ℕ) (p : ℕ → Bool) (i : ℕ) → i < n → Is (p i) → Is (any n p)
unfolding any
any_true zero p i l h = absurd (not-suc-le-zero l)
any_true (suc n) p i l h =
    elim (last n i l) [ inl e ↦ either_r (any n p) (p n) (rw e at h) | inr b ↦ either_l (any n p) (p n) (any_true n p i b h) ]

pub any_at : (n : ℕ) (p : ℕ → Bool) → Is (any n p) → (i : ℕ) × (i < n) × Is (p i)
unfolding any
any_at zero p h = not_is h
any_at (suc n) p h = go (any_at n p) (either_cases (any n p) (p n) h)
  where
    go : (Is (any n p) → (i : ℕ) × (i < n) × Is (p i)) → Is (any n p) ⊎ Is (p n) → (i : ℕ) × (i < suc n) × Is (p i)
    go ih (inl a) = let r = ih a in (r.0, omega (arith, r.1), r.2)
    go ih (inr b) = (n, omega arith, b)

-- a turn of a loop that tests one number after the other
pub all_next : (n : ℕ) (p : ℕ → Bool) → Is (all n p) → Is (p n) → Is (all (n + 1) p)
unfolding all
all_next n p h k = rw add-one (both_true (all n p) (p n) h k)

-- ---- within

pub within_at : (n : ℕ) (X Y : Set) → Is (within n X Y) → (f : ℕ) → f < n → Is (X f) → Is (Y f)
unfolding within
within_at n X Y h f l x = implies_at (X f) (Y f) (all_at n _ h f l) x

pub within_true : (n : ℕ) (X Y : Set) → ((f : ℕ) → f < n → Is (X f) → Is (Y f)) → Is (within n X Y)
unfolding within
within_true n X Y h = all_true n _ (λ f l. implies_true (X f) (Y f) (h f l))

pub within_fails : (n : ℕ) (X Y : Set) (f : ℕ) → f < n → Is (X f) → Y f ≡ false → within n X Y ≡ false
within_fails n X Y f l x y = fails (within n X Y) (λ h. not_both_ways (within_at n X Y h f l x) y)

-- some member of X below n is none of Y
pub within_not : (n : ℕ) (X Y : Set) → within n X Y ≡ false → (f : ℕ) × (f < n) × Is (X f) × (Y f ≡ false)
unfolding within
within_not n X Y e = go (all_not n _ e)
  where
    go : (f : ℕ) × (f < n) × (implies (X f) (Y f) ≡ false) → (f : ℕ) × (f < n) × Is (X f) × (Y f ≡ false)
    go r = let f = r.0 in
        elim (tell (X f)) [
          | inl x ↦ (f, r.1, x, fails (Y f) (λ y. not_both_ways (implies_true (X f) (Y f) (λ _. y)) r.2))
          | inr x ↦ not_both_ways (implies_true (X f) (Y f) (λ h. not_both_ways h x)) r.2
        ]

-- the question is the same of sets with the same members
pub within_same : (n : ℕ) (X Y X₂ Y₂ : Set) → ((f : ℕ) → f < n → X f ≡ X₂ f) → ((f : ℕ) → f < n → Y f ≡ Y₂ f)
    → within n X Y ≡ within n X₂ Y₂
within_same n X Y X₂ Y₂ a b =
    equal_tests (within n X Y) (within n X₂ Y₂)
    (λ h. within_true n X₂ Y₂ (λ f l x. sym (b f l) ∙ within_at n X Y h f l (a f l ∙ x)))
    (λ h. within_true n X Y (λ f l x. b f l ∙ within_at n X₂ Y₂ h f l (sym (a f l) ∙ x)))

-- X has no member from n on, so that it makes no difference how far one looks
pub within_past : (n m : ℕ) (X Y : Set) → n ≤ m → ((f : ℕ) → Is (X f) → f < n) → within m X Y ≡ within n X Y
within_past n m X Y l below_n =
    equal_tests (within m X Y) (within n X Y)
    (λ h. within_true n X Y (λ f k x. within_at m X Y h f (omega arith) x))
    (λ h. within_true m X Y (λ f k x. within_at n X Y h f (below_n f x) x))

-- ---- how many

one_le : (p q : Bool) → (Is p → Is q) → one p ≤ one q
unfolding one
one_le true q h = rw h (omega arith)
one_le false q h = zero-le

one_lt : (p q : Bool) → p ≡ false → Is q → one p < one q
unfolding one
one_lt p q e h = rw (e, h) (omega arith)

one_most : (p : Bool) → one p ≤ 1
unfolding one
one_most true = omega arith
one_most false = omega arith

pub count_most : (n : ℕ) (X : Set) → count n X ≤ n
unfolding count
count_most zero X = omega arith
count_most (suc n) X = omega (arith, count_most n X, one_most (X n))

pub count_le : (n : ℕ) (X Y : Set) → ((f : ℕ) → f < n → Is (X f) → Is (Y f)) → count n X ≤ count n Y
unfolding count
count_le zero X Y h = omega arith
count_le (suc n) X Y h = omega (arith, count_le n X Y (λ f l. h f (omega arith)), one_le (X n) (Y n) (h n (omega arith)))

pub count_lt : (n : ℕ) (X Y : Set) → ((f : ℕ) → f < n → Is (X f) → Is (Y f)) → (f : ℕ) → f < n → X f ≡ false → Is (Y f)
    → count n X < count n Y
unfolding count
count_lt zero X Y h f l x y = absurd (not-suc-le-zero l)
count_lt (suc n) X Y h f l x y =
    elim (last n f l) [
      | inl e ↦ omega (arith, count_le n X Y (λ f l. h f (omega arith)), one_lt (X n) (Y n) (rw e at x) (rw e at y))
      | inr b ↦ omega (arith, count_lt n X Y (λ f l. h f (omega arith)) f b x y, one_le (X n) (Y n) (h n (omega arith)))
    ]

pub count_same : (n : ℕ) (X Y : Set) → ((f : ℕ) → f < n → X f ≡ Y f) → count n X ≡ count n Y
unfolding count
count_same zero X Y h = refl
count_same (suc n) X Y h = ap₂ (λ (x : ℕ) (p : Bool). x + one p) (count_same n X Y (λ f l. h f (omega arith))) (h n (omega arith))

-- a set with no member, and one with every number below n
pub count_none : (n : ℕ) (X : Set) → ((f : ℕ) → f < n → X f ≡ false) → count n X ≡ 0
unfolding count one
count_none zero X h = refl
count_none (suc n) X h = omega (arith, count_none n X (λ f l. h f (omega arith)), ap one (h n (omega arith)))

pub count_full : (n : ℕ) (X : Set) → ((f : ℕ) → f < n → Is (X f)) → count n X ≡ n
unfolding count one
count_full zero X h = refl
count_full (suc n) X h = omega (arith, count_full n X (λ f l. h f (omega arith)), ap one (h n (omega arith)))

-- the members below m + n are those below m and, counted from m, those below n
pub count_add : (m n : ℕ) (X : Set) → count (m + n) X ≡ count m X + count n (λ f. X (m + f))
unfolding count
count_add m zero X = omega (arith, ap (λ (k : ℕ). count k X) (zero_right m))
  where
    zero_right : (m : ℕ) → m + 0 ≡ m
    zero_right m = omega arith
count_add m (suc n) X = go (count_add m n X)
  where
    shift : m + suc n ≡ suc (m + n)
    shift = omega arith

    go : count (m + n) X ≡ count m X + count n (λ f. X (m + f)) → count (m + suc n) X ≡ count m X + (count n (λ f. X (m + f)) + one (X (m + n)))
    go ih = ap (λ (k : ℕ). count k X) shift ∙ omega (arith, ih)

-- taking one member out leaves one fewer
pub count_dropped : (n : ℕ) (X : Set) (f : ℕ) → f < n → Is (X f) → count n (dropped X f) + 1 ≡ count n X
unfolding count one
count_dropped zero X f l h = absurd (not-suc-le-zero l)
count_dropped (suc n) X f l h =
    elim (last n f l) [
      | inl e ↦ omega (
        arith,
        count_same n (dropped X f) X (λ g b. dropped_other X f g (λ q. omega arith)),
        ap one (dropped_itself X f n (sym e)),
        ap one (rw e at h),
      )
      | inr b ↦ omega (arith, count_dropped n X f b h, ap one (dropped_other X f n (λ q. omega arith)))
    ]

-- ---- the lowest member

pub record Lowest (n : ℕ) (X : Set) (r : ℕ) : Type 0 where
  -- no member is below it, it is one if it is below n, and it is n at most
  pub least : (f : ℕ) → f < r → X f ≡ false
  pub member : r < n → Is (X r)
  pub most : r ≤ n

pub lowest_is : (n : ℕ) (X : Set) → Lowest n X (lowest n X)
unfolding lowest
lowest_is zero X = record { least = λ f l. absurd (not-suc-le-zero l); member = λ l. absurd (not-suc-le-zero l); most = omega arith }
lowest_is (suc n) X = go (lowest n X) (lowest_is n X) (tell (below (lowest n X) n)) (tell (X n))
  where
    go : (r : ℕ) → Lowest n X r → Is (below r n) ⊎ (below r n ≡ false) → Is (X n) ⊎ (X n ≡ false)
        → Lowest (suc n) X (pick (below r n) r (pick (X n) n (suc n)))
    go r w (inl b) x = rw (pick_true r (pick (X n) n (suc n)) b)
        record { least = w.least; member = λ l. w.member (below_at r n b); most = omega (arith, w.most) }
    go r w (inr b) (inl x) = rw (pick_false r (pick (X n) n (suc n)) b, pick_true n (suc n) x)
        record { least = λ f l. w.least f (omega (arith, below_not r n b)); member = λ l. x; most = omega arith }
    go r w (inr b) (inr x) = rw (pick_false r (pick (X n) n (suc n)) b, pick_false n (suc n) x)
        record {
          least = λ f l. elim (last n f l) [ inl e ↦ rw e x | inr k ↦ w.least f (omega (arith, below_not r n b)) ];
          member = λ l. absurd (omega arith);
          most = omega arith;
        }

-- there is one such number
pub lowest_only : (n : ℕ) (X : Set) (r : ℕ) → Lowest n X r → r ≡ lowest n X
lowest_only n X r w = go (lowest n X) (lowest_is n X) (compare r (lowest n X)) (compare (lowest n X) r)
  where
    go : (s : ℕ) → Lowest n X s → (r < s) ⊎ (s ≤ r) → (s < r) ⊎ (r ≤ s) → r ≡ s
    go s v (inl a) y = not_both_ways (w.member (omega (arith, v.most))) (v.least r a)
    go s v (inr a) (inl b) = not_both_ways (v.member (omega (arith, w.most))) (w.least s b)
    go s v (inr a) (inr b) = omega arith

-- ---- the lowest member, if there is one

pub some_lowest : (n : ℕ) (X : Set) (r : ℕ) → Lowest n X r → r < n → Some r ≡ lowest_if_any n X
unfolding lowest_if_any
some_lowest n X r w l =
    let e = lowest_only n X r w in
    ap (λ (s : ℕ). Some s) e ∙ sym (pick_true (Some (lowest n X)) None (below_true (lowest n X) n (omega arith)))

pub no_lowest : (n : ℕ) (X : Set) → ((f : ℕ) → f < n → X f ≡ false) → None ≡ lowest_if_any n X
unfolding lowest_if_any
no_lowest n X h = sym (pick_false (Some (lowest n X)) None (below_false (lowest n X) n (go (compare (lowest n X) n))))
  where
    go : (lowest n X < n) ⊎ (n ≤ lowest n X) → n ≤ lowest n X
    go (inl l) = not_both_ways ((lowest_is n X).member l) (h (lowest n X) l)
    go (inr g) = g

-- what an answer says: the lowest member below n, or that there is none
pub lowest_some : (n : ℕ) (X : Set) (r : ℕ) → Some r ≡ lowest_if_any n X → (r ≡ lowest n X) × (r < n)
unfolding lowest_if_any
lowest_some n X r e = go (tell (below (lowest n X) n))
  where
    go : Is (below (lowest n X) n) ⊎ (below (lowest n X) n ≡ false) → (r ≡ lowest n X) × (r < n)
    go (inl b) = let q : Some r ≡ Some (lowest n X) = e ∙ pick_true (Some (lowest n X)) None b in let p : r ≡ lowest n X = cc in (p, omega (arith, p, below_at (lowest n X) n b))
    go (inr b) = let q : Some r ≡ None = e ∙ pick_false (Some (lowest n X)) None b in absurd cc

pub lowest_none : (n : ℕ) (X : Set) → None ≡ lowest_if_any n X → lowest n X ≡ n
unfolding lowest_if_any
lowest_none n X e = go (tell (below (lowest n X) n))
  where
    go : Is (below (lowest n X) n) ⊎ (below (lowest n X) n ≡ false) → lowest n X ≡ n
    go (inl b) = let q : None ≡ Some (lowest n X) = e ∙ pick_true (Some (lowest n X)) None b in absurd cc
    go (inr b) = omega (arith, below_not (lowest n X) n b, (lowest_is n X).most)
