-- The theory of least closed sets: whatever holds of the seeds and is kept by the rule holds of every member, because each pass keeps it; and each pass
-- but the last adds a number, so that n + 1 passes end in a set that is closed.
use Prim.Native.Nat.{ℕ, zero, suc, ◌+◌, ◌≤◌, ◌<◌}
use mathlib.Core.Path.{◌≡◌, refl, sym, ap, ◌∙◌}
use mathlib.Core.Bool.{Bool, true, false}
use mathlib.Core.Logic.{◌⊎◌, inl, inr}
use native.Mathlib.Omega.{arith}
use Rattle.sets.specs.Tests.{Is, both}
use Rattle.sets.specs.Sets.{Set, joined, count}
use Rattle.sets.specs.Words.{bit}
use Rattle.sets.proofs.Tests.{equal_tests, both_l, either_l, either_r, either_cases, below_true, below_at}
use Rattle.sets.proofs.Sets.{within_at, within_not, count_most, count_le, count_lt}
use Rattle.sets.proofs.OneWord.{bit_word_of, word_of_same}
use Rattle.task.proofs.Walks.{Sub}
use Rattle.reach.specs.Least.{held, pass, quiet, repeated, least}

-- every member of X below n has the property
abbrev pub Within : ℕ → Set → (ℕ → Type 0) → Type 0
Within n X P = (f : ℕ) → f < n → Is (X f) → P f

-- the rule makes more of more
abbrev pub Rising : ℕ → (Set → Set) → Type 0
Rising n rule = (X Y : Set) → Sub n X Y → Sub n (rule X) (rule Y)

-- what the rule makes of numbers with the property has it too
abbrev pub Kept : ℕ → (Set → Set) → (ℕ → Type 0) → Type 0
Kept n rule P = (X : Set) → Within n X P → Within n (rule X) P

-- ---- a set held as a number

pub held_is : (n : ℕ) (X : Set) (f : ℕ) → f < n → held n X f ≡ X f
unfolding held both
held_is n X f l = bit_word_of n X f ∙ ap (λ (p : Bool). both p (X f)) (below_true f n l)

pub held_below : (n : ℕ) (X : Set) (f : ℕ) → Is (held n X f) → f < n
unfolding held
held_below n X f h = below_at f n (both_l _ (X f) (sym (bit_word_of n X f) ∙ h))

pub held_in : (n : ℕ) (X : Set) (f : ℕ) → f < n → Is (X f) → Is (held n X f)
held_in n X f l h = held_is n X f l ∙ h

pub held_out : (n : ℕ) (X : Set) (f : ℕ) → Is (held n X f) → Is (X f)
held_out n X f h = sym (held_is n X f (held_below n X f h)) ∙ h

-- sets that agree below n are held as one
pub held_same : (n : ℕ) (X Y : Set) → ((f : ℕ) → f < n → X f ≡ Y f) → held n X ≡ held n Y
unfolding held
held_same n X Y h = ap bit (word_of_same n X Y h)

module _ (n : ℕ) (rule : Set → Set) where
  -- ---- one pass

  pub pass_keeps : (X : Set) → Sub n X (pass n rule X)
  unfolding pass joined
  pass_keeps X f l h = held_in n _ f l (either_l (X f) (rule X f) h)

  pub pass_adds : (X : Set) → Sub n (rule X) (pass n rule X)
  unfolding pass joined
  pass_adds X f l h = held_in n _ f l (either_r (X f) (rule X f) h)

  pub pass_within : (X : Set) (P : ℕ → Type 0) → Within n X P → Within n (rule X) P → Within n (pass n rule X) P
  unfolding pass joined
  pass_within X P old new f l h =
      elim (either_cases (X f) (rule X f) (held_out n _ f h)) [ inl a ↦ old f l a | inr b ↦ new f l b ]

  -- a pass that is not quiet adds a number
  pub pass_more : (X : Set) → quiet n rule X ≡ false → count n X < count n (pass n rule X)
  unfolding quiet
  pass_more X e =
      let r = within_not n (rule X) X e in
      count_lt n X (pass n rule X) (pass_keeps X) r.0 r.1 r.3 (pass_adds X r.0 r.1 r.2)

  -- ---- passes until one is quiet

  -- what a pass keeps true of the set stays true
  repeated_keeps : (Q : Set → Type 0) → ((X : Set) → Q X → Q (pass n rule X)) → (k : ℕ) (b : Bool) (X : Set) → Q X → Q (repeated n rule k b X).set
  unfolding repeated
  repeated_keeps Q s zero true X q = q
  repeated_keeps Q s zero false X q = q
  repeated_keeps Q s (suc k) true X q = q
  repeated_keeps Q s (suc k) false X q = repeated_keeps Q s k (quiet n rule (pass n rule X)) (pass n rule X) (s X q)

  repeated_quiet : (k : ℕ) (b : Bool) (X : Set) → quiet n rule X ≡ b → n < k + count n X → Is (quiet n rule (repeated n rule k b X).set)
  unfolding repeated
  repeated_quiet zero true X e h = e
  repeated_quiet zero false X e h = absurd (omega (arith, count_most n X))
  repeated_quiet (suc k) true X e h = e
  repeated_quiet (suc k) false X e h =
      repeated_quiet k (quiet n rule (pass n rule X)) (pass n rule X) refl (omega (arith, pass_more X e))

  repeated_passes : (k : ℕ) (b : Bool) (X : Set) → quiet n rule X ≡ b → (repeated n rule k b X).passes + count n X ≤ suc n
  unfolding repeated
  repeated_passes zero true X e = omega (arith, count_most n X)
  repeated_passes zero false X e = omega (arith, count_most n X)
  repeated_passes (suc k) true X e = omega (arith, count_most n X)
  repeated_passes (suc k) false X e =
      omega (arith, pass_more X e, repeated_passes k (quiet n rule (pass n rule X)) (pass n rule X) refl)

  -- ---- the least closed set: it holds the seeds, it is closed, and it lies within all that holds the seeds and is closed
  module _ (seeds : Set) where
    pub least_holds : Sub n seeds (least n rule seeds).set
    unfolding least
    least_holds =
        repeated_keeps (Sub n seeds) (λ Y s f l h. pass_keeps Y f l (s f l h)) (suc n) (quiet n rule (held n seeds)) (held n seeds) (held_in n seeds)

    pub least_closed : Sub n (rule (least n rule seeds).set) (least n rule seeds).set
    unfolding least quiet
    least_closed = within_at n _ _ (repeated_quiet (suc n) (quiet n rule (held n seeds)) (held n seeds) refl (omega arith))

    -- what a pass keeps true of a set is true of it
    pub least_keeps : (Q : Set → Type 0) → ((X : Set) → Q X → Q (pass n rule X)) → Q (held n seeds) → Q (least n rule seeds).set
    unfolding least
    least_keeps Q s = repeated_keeps Q s (suc n) (quiet n rule (held n seeds)) (held n seeds)

    -- it has no member from n on
    pub least_lt : (f : ℕ) → Is ((least n rule seeds).set f) → f < n
    unfolding pass
    least_lt = least_keeps (λ X. (f : ℕ) → Is (X f) → f < n) (λ X h. held_below n _) (held_below n seeds)

    -- a property of the seeds that the rule keeps is one of every member
    pub least_within : (P : ℕ → Type 0) → Kept n rule P → Within n seeds P → Within n (least n rule seeds).set P
    least_within P keeps w =
        least_keeps (λ X. Within n X P) (λ X old. pass_within X P old (keeps X old)) (λ f l h. w f l (held_out n seeds f h))

    pub least_kept : Rising n rule → Kept n rule (λ f. Is ((least n rule seeds).set f))
    least_kept rising X w f l h = least_closed f l (rising X (least n rule seeds).set w f l h)

    pub least_below : Rising n rule → (Z : Set) → Sub n (rule Z) Z → Sub n seeds Z → Sub n (least n rule seeds).set Z
    least_below rising Z closed w = least_within (λ f. Is (Z f)) (λ X s f l h. closed f l (rising X Z s f l h)) w

    -- every member is a seed, or the rule makes it of the members
    pub least_made : Rising n rule → Within n (least n rule seeds).set (λ f. Is (seeds f) ⊎ Is (rule (least n rule seeds).set f))
    least_made rising =
        least_within (λ f. Is (seeds f) ⊎ Is (rule (least n rule seeds).set f))
        (λ X w f l h. inr (rising X (least n rule seeds).set (λ g k x. elim (w g k x) [ inl a ↦ least_holds g k a | inr b ↦ least_closed g k b ]) f l h))
        (λ f l h. inl h)

    -- at most n + 1 passes less the number of seeds
    pub least_passes : (least n rule seeds).passes + count n seeds ≤ suc n
    unfolding least
    least_passes =
        omega (
          arith,
          repeated_passes (suc n) (quiet n rule (held n seeds)) (held n seeds) refl,
          count_le n seeds (held n seeds) (held_in n seeds),
        )

    -- a set grown in any order is the least one if it holds the seeds, is closed, and holds nothing else
    pub least_only : Rising n rule → (Z : Set) → Sub n seeds Z → Sub n (rule Z) Z → Sub n Z (least n rule seeds).set
        → (f : ℕ) → f < n → Z f ≡ (least n rule seeds).set f
    least_only rising Z holds closed inside f l = equal_tests _ _ (inside f l) (least_below rising Z closed holds f l)
