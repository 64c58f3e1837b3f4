-- Listing a set lowest first visits each member once, in order: by induction on the bound, where the list of the members below n + 1 ends in n or not.
-- So a loop that takes the lowest member out until none is left goes through `members` from its first to its last.
use Prim.Native.Nat.{ℕ, zero, suc, ◌*◌, ◌<◌}
use mathlib.Core.Path.{◌≡◌, refl, sym, ap, ap₂, ◌∙◌}
use mathlib.Core.Bool.{Bool, false}
use mathlib.Core.Logic.{◌⊎◌, inl, inr, ◌↔◌}
use mathlib.Core.List.Memᴰ
use mathlib.Core.List.{List, [], ◌∷◌, ◌++◌, append-nil, Memᴰ}
use native.Mathlib.Nat.{not-suc-le-zero}
use native.Mathlib.Omega.{arith}
use lib.ListN.{length, length-append}
use Rattle.std.specs.Prelude.{Some, None}
use Rattle.sets.specs.Tests.{Is, no, same, pick}
use Rattle.sets.specs.Sets.{Set, dropped, one, count, lowest, lowest_if_any, members}
use Rattle.sets.proofs.Tests.{tell, both_r, same_at, same_not, pick_true, pick_false}
use Rattle.sets.specs.Words.{has, words_of}
use Rattle.sets.proofs.Sets.{last, dropped_itself, dropped_other, count_same, count_dropped, lowest_is, lowest_some, lowest_none}
use Rattle.sets.proofs.Words.{has_made, made_has, length_words_of}

-- one number further
members_more : (n : ℕ) (X : Set) → Is (X n) → members (suc n) X ≡ members n X ++ (n ∷ [])
unfolding members
members_more n X h = ap (λ (l : List ℕ). members n X ++ l) (pick_true (n ∷ []) [] h)

members_skip : (n : ℕ) (X : Set) → X n ≡ false → members (suc n) X ≡ members n X
unfolding members
members_skip n X h = ap (λ (l : List ℕ). members n X ++ l) (pick_false (n ∷ []) [] h) ∙ append-nil (members n X)

pub members_none : (n : ℕ) (X : Set) → ((f : ℕ) → f < n → X f ≡ false) → members n X ≡ []
unfolding members
members_none zero X h = refl
members_none (suc n) X h = members_skip n X (h n (omega arith)) ∙ members_none n X (λ f l. h f (omega arith))

-- ---- the lowest member comes first, and the list of the others after it

members_first : (n : ℕ) (X : Set) (r : ℕ) → r < n → ((f : ℕ) → f < r → X f ≡ false) → Is (X r) → members n X ≡ r ∷ members n (dropped X r)
members_first zero X r l least h = absurd (not-suc-le-zero l)
members_first (suc n) X r l least h =
    elim (last n r l) [
      | inl e ↦
          rw (
            members_more n X (rw e at h),
            members_none n X (λ f b. least f (omega arith)),
            members_skip n (dropped X r) (dropped_itself X r n (sym e)),
            members_none n (dropped X r) (λ f b. dropped_other X r f (λ q. omega arith) ∙ least f (omega arith)),
            e,
          )
      | inr b ↦
          let other : dropped X r n ≡ X n = dropped_other X r n (λ q. omega arith) in
          let ih = members_first n X r b least h in
          elim (tell (X n)) [
            | inl x ↦ rw (members_more n X x, members_more n (dropped X r) (other ∙ x), ih)
            | inr x ↦ rw (members_skip n X x, members_skip n (dropped X r) (other ∙ x), ih)
          ]
    ]

pub listing_next : (n : ℕ) (X : Set) → lowest n X < n → members n X ≡ lowest n X ∷ members n (dropped X (lowest n X))
listing_next n X l = members_first n X (lowest n X) l (lowest_is n X).least ((lowest_is n X).member l)

pub listing_end : (n : ℕ) (X : Set) → lowest n X ≡ n → members n X ≡ []
listing_end n X e = members_none n X (λ f l. (lowest_is n X).least f (omega arith))

-- sets with the same members have the same list
pub members_same : (n : ℕ) (X Y : Set) → ((f : ℕ) → f < n → X f ≡ Y f) → members n X ≡ members n Y
unfolding members
members_same zero X Y h = refl
members_same (suc n) X Y h =
    ap₂ (λ (l : List ℕ) (p : Bool). l ++ pick p (n ∷ []) []) (members_same n X Y (λ f l. h f (omega arith))) (h n (omega arith))

-- ---- one turn of the iterator over the members of k words: what it gives, and what is left

pub gives_lowest : (k : ℕ) (a b : List ℕ) (f : ℕ) → length a ≡ k → Some f ≡ lowest_if_any (length a * 64) (has a) → b ≡ words_of k (dropped (has a) f)
    → members (k * 64) (has a) ≡ f ∷ members (k * 64) (has b)
gives_lowest k a b f size found rest =
    let r = lowest_some (length a * 64) (has a) f found in
    let e : f ≡ lowest (k * 64) (has a) = r.0 ∙ ap (λ (n : ℕ). lowest (n * 64) (has a)) size in
    listing_next (k * 64) (has a) (omega (arith, e, r.1))
    ∙ ap₂ (λ (g : ℕ) (l : List ℕ). g ∷ l) (sym e)
    (members_same (k * 64) _ (has b) (λ g l. ap (λ (h : ℕ). dropped (has a) h g) (sym e) ∙ sym (has_made k b _ rest g l)))

pub gives_none : (k : ℕ) (a : List ℕ) → length a ≡ k → None ≡ lowest_if_any (length a * 64) (has a) → members (k * 64) (has a) ≡ []
gives_none k a size found =
    listing_end (k * 64) (has a) (rw (sym size) (lowest_none (length a * 64) (has a) found))

-- ---- a turn of a loop that takes the lowest member out

-- none is left
pub listing_none : (k : ℕ) (a : List ℕ) (f : ℕ) → f ≡ lowest (k * 64) (has a) → f ≡ k * 64 → (g : ℕ) → g < k * 64 → has a g ≡ false
listing_none k a f found e g l = (lowest_is (k * 64) (has a)).least g (omega arith)

-- the number is a member, and one fewer is left
module _ (k : ℕ) (a b : List ℕ) (f : ℕ) (found : f ≡ lowest (k * 64) (has a)) (some : ¬ (f ≡ k * 64)) where
  pub listing_below : f < k * 64
  listing_below = omega (arith, (lowest_is (k * 64) (has a)).most)

  pub listing_member : Is (has a f)
  listing_member = rw found ((lowest_is (k * 64) (has a)).member (rw found at listing_below))

  module _ (rest : b ≡ words_of k (dropped (has a) f)) where
    pub listing_less : count (k * 64) (has b) < count (k * 64) (has a)
    listing_less =
        omega (
          arith,
          count_same (k * 64) (has b) (dropped (has a) f) (has_made k b (dropped (has a) f) rest),
          count_dropped (k * 64) (has a) f listing_below listing_member,
        )

    listing_gone : has b f ≡ false
    listing_gone = has_made k b _ rest f listing_below ∙ dropped_itself (has a) f f refl

    -- what is left was so before
    pub listing_kept : (g : ℕ) → Is (has b g) → Is (has a g)
    unfolding dropped
    listing_kept g h = both_r (no (same g f)) (has a g) (made_has k b _ rest g h)

    -- and what was left is the number, or is left still
    pub listing_cases : (g : ℕ) → g < k * 64 → Is (has a g) → (g ≡ f) ⊎ Is (has b g)
    listing_cases g l h =
        elim (tell (same g f)) [
          | inl e ↦ inl (same_at g f e)
          | inr d ↦ inr (has_made k b _ rest g l ∙ dropped_other (has a) f g (same_not g f d) ∙ h)
        ]

-- ---- such a loop over the members of X: k words of them are left

pub record Left (k : ℕ) (X : Set) (left : List ℕ) : Type 0 where
  pub size : length left ≡ k
  pub inside : (f : ℕ) → Is (has left f) → Is (X f)

pub left_made : (k : ℕ) (X : Set) (a : List ℕ) → a ≡ words_of k X → Left k X a
left_made k X a e = record { size = ap length e ∙ length_words_of k X; inside = made_has k a X e }

-- ---- which numbers are listed, and how many

listed : (n : ℕ) (X : Set) (f : ℕ) → Memᴰ f (members n X) → (f < n) × Is (X f)
unfolding members
listed zero X f m = absurd (Memᴰ.not-nil m)
listed (suc n) X f m =
    elim (tell (X n)) [
      | inl x ↦ elim (Memᴰ.append_cases (members n X) (rw (members_more n X x) at m)) [
        | inl k ↦ let r = listed n X f k in (omega (arith, r.0), r.1)
        | inr k ↦ let e : f ≡ n = Memᴰ.eq_of_singleton k in (omega arith, rw e x)
      ]
      | inr x ↦ let r = listed n X f (rw (members_skip n X x) at m) in (omega (arith, r.0), r.1)
    ]

listing : (n : ℕ) (X : Set) (f : ℕ) → f < n → Is (X f) → Memᴰ f (members n X)
listing zero X f l h = absurd (not-suc-le-zero l)
listing (suc n) X f l h =
    elim (last n f l) [
      | inl e ↦ rw (members_more n X (rw e at h)) (Memᴰ.append_right (members n X) (Memᴰ.head e))
      | inr b ↦ elim (tell (X n)) [
        | inl x ↦ rw (members_more n X x) (Memᴰ.append_left (n ∷ []) (listing n X f b h))
        | inr x ↦ rw (members_skip n X x) (listing n X f b h)
      ]
    ]

pub members_are : (n : ℕ) (X : Set) (f : ℕ) → Memᴰ f (members n X) ↔ ((f < n) × Is (X f))
members_are n X f = (listed n X f, λ h. listing n X f h.0 h.1)

pub length_members : (n : ℕ) (X : Set) → length (members n X) ≡ count n X
unfolding members count one
length_members zero X = refl
length_members (suc n) X =
    elim (tell (X n)) [
      | inl x ↦ rw (members_more n X x) (length-append (members n X) (n ∷ []) ∙ omega (arith, length_members n X, ap one x))
      | inr x ↦ rw (members_skip n X x) (omega (arith, length_members n X, ap one x))
    ]

-- ---- the list rises

-- each number is less than all that follow
pub data Rising : List ℕ → Type 0 where
  rise_end : Rising []
  rise_next : {x : ℕ} {l : List ℕ} → ((f : ℕ) → Memᴰ f l → x < f) → Rising l → Rising (x ∷ l)

rising_more : {l : List ℕ} (n : ℕ) → Rising l → ((f : ℕ) → Memᴰ f l → f < n) → Rising (l ++ (n ∷ []))
rising_more n rise_end h = rise_next (λ f m. absurd (Memᴰ.not-nil m)) rise_end
rising_more n (rise_next {x} {l} a r) h =
    rise_next {x = x} (λ f m. elim (Memᴰ.append_cases l {t = n ∷ []} m) [
      | inl k ↦ a f k
      | inr k ↦ let e : f ≡ n = Memᴰ.eq_of_singleton k in omega (arith, h x (Memᴰ.head refl))
    ]) (rising_more n r (λ f m. h f (Memᴰ.tail m)))

pub members_rise : (n : ℕ) (X : Set) → Rising (members n X)
unfolding members
members_rise zero X = rise_end
members_rise (suc n) X =
    elim (tell (X n)) [
      | inl x ↦ rw (members_more n X x) (rising_more n (members_rise n X) (λ f m. (listed n X f m).0))
      | inr x ↦ rw (members_skip n X x) (members_rise n X)
    ]
