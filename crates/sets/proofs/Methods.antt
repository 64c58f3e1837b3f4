-- What the methods of a set of n words ask: the words of no member, and what a number put in or taken out makes of one word.
use Prim.Native.Nat.{ℕ, zero, suc, ◌-◌, ◌*◌, ◌/◌, ◌%◌, ◌^◌, ◌≤◌, ◌<◌}
use mathlib.Core.Path.{◌≡◌, refl, sym, ap, ap₂, ◌∙◌}
use mathlib.Core.Bool.{Bool}
use mathlib.Core.Logic.{inl, inr}
use mathlib.Core.List.{List}
use native.Mathlib.Nat.{mod-lt, lt_of_le_of_lt}
use native.Mathlib.Omega.{arith}
use mir.Syntax.{w64}
use mir.Val.{Fits}
use lib.Dec.{eqb, lit<}
use lib.Bits.{bit_and, bit_or, and_le_l, and_mask, or_lt}
use lib.ListN.{length, get_or, set, length-set, replicate}
use lib.Seq.{get_or-set_same, get_or-set_other}
use Rattle.std.proofs.lemmas.List.{length-replicate}
use Rattle.sets.specs.Tests.{no, both, either, same}
use Rattle.sets.specs.Sets.{Set, none, added, dropped}
use Rattle.sets.specs.Words.{bit, has, words_of}
use Rattle.sets.proofs.Tests.{tell, same_at, same_not, same_iff}
use Rattle.sets.proofs.Sets.{added_other, dropped_other}
use Rattle.sets.proofs.OneWord.{bit_of_zero, bit_of_or, bit_less, bit_pow}
use Rattle.sets.proofs.Words.{has_in, words_only}
use Rattle.sets.proofs.Loops.{shifted_one}

-- ---- no member, one member

-- words of zeros
pub no_members : (n : ℕ) → replicate n 0 ≡ words_of n none
unfolding none
no_members n =
    words_only n (replicate n 0) none (length-replicate n 0) (λ i. rw (zeros n i) (lit< tt))
    (λ f l. has_in (replicate n 0) (f / 64) f refl ∙ ap (λ (x : ℕ). bit x (f % 64)) (zeros n (f / 64)) ∙ bit_of_zero (f % 64))
  where
    zeros : (n i : ℕ) → get_or {A = ℕ} (replicate n 0) i 0 ≡ 0
    zeros zero i = refl
    zeros (suc n) zero = refl
    zeros (suc n) (suc i) = zeros n i

-- `(w >> f % 64) & 1 == 1`
pub has_bit : (ws : List ℕ) (f : ℕ) → eqb (bit_and (get_or ws (f / 64) 0 / 2 ^ (f % 64)) 1) 1 ≡ has ws f
unfolding has bit same
has_bit ws f = ap (λ (x : ℕ). eqb x 1) (and_mask (get_or ws (f / 64) 0 / 2 ^ (f % 64)) 1)

module _ (ws : List ℕ) (f n : ℕ) (e : length ws ≡ n) (fits : (i : ℕ) → Fits w64 (get_or ws i 0)) where
  -- where there is no room for f, nothing is put in or taken out
  pub with_none : n ≤ f / 64 → ws ≡ words_of n (added (has ws) f)
  with_none h =
      words_only n ws (added (has ws) f) e (λ i. (fits i).fits) (λ g l. sym (added_other (has ws) f g (λ q. omega arith)))

  pub without_none : n ≤ f / 64 → ws ≡ words_of n (dropped (has ws) f)
  without_none h =
      words_only n ws (dropped (has ws) f) e (λ i. (fits i).fits) (λ g l. sym (dropped_other (has ws) f g (λ q. omega arith)))

  -- word f / 64 is replaced by w, which has the bits of X
  one_word : (X : Set) (w : ℕ) → f / 64 < n → w < 2 ^ 64 → ((g : ℕ) → g / 64 ≡ f / 64 → bit w (g % 64) ≡ X g) → ((g : ℕ) → ¬ (g ≡ f) → X g ≡ has ws g)
      → set ws (f / 64) w ≡ words_of n X
  one_word X w h b here other =
      words_only n (set ws (f / 64) w) X (length-set ws (f / 64) w ∙ e)
      (λ i. elim (tell (same i (f / 64))) [
        | inl q ↦ rw (same_at i (f / 64) q, get_or-set_same ws (f / 64) w 0 inside) b
        | inr q ↦ rw (get_or-set_other ws (f / 64) i w 0 (same_not i (f / 64) q)) (fits i).fits
      ])
      (λ g l. elim (tell (same (g / 64) (f / 64))) [
        | inl q ↦
            has_in (set ws (f / 64) w) (f / 64) g (same_at (g / 64) (f / 64) q)
            ∙ ap (λ (x : ℕ). bit x (g % 64)) (get_or-set_same ws (f / 64) w 0 inside) ∙ here g (same_at (g / 64) (f / 64) q)
        | inr q ↦
            has_in (set ws (f / 64) w) (g / 64) g refl
            ∙ ap (λ (x : ℕ). bit x (g % 64)) (get_or-set_other ws (f / 64) (g / 64) w 0 (same_not (g / 64) (f / 64) q))
            ∙ sym (has_in ws (g / 64) g refl)
            ∙ sym (other g (λ d. same_not (g / 64) (f / 64) q (ap (λ (x : ℕ). x / 64) d)))
      ])
    where
      inside : f / 64 < length ws
      inside = omega arith

  -- in one word, the bits of f and of g are the same where f and g are
  same_bit : (g : ℕ) → g / 64 ≡ f / 64 → bit (2 ^ (f % 64)) (g % 64) ≡ same g f
  same_bit g q = bit_pow (f % 64) (g % 64) ∙ same_iff (g % 64) (f % 64) g f (λ d. omega arith) (λ d. ap (λ (x : ℕ). x % 64) d)

  -- `w | 1 << f % 64`
  pub with_bit : f / 64 < n → set ws (f / 64) (bit_or (get_or ws (f / 64) 0) (1 * 2 ^ (f % 64) % 2 ^ 64)) ≡ words_of n (added (has ws) f)
  unfolding added
  with_bit h =
      one_word (added (has ws) f) (bit_or (get_or ws (f / 64) 0) (1 * 2 ^ (f % 64) % 2 ^ 64)) h
      (or_lt 64 (get_or ws (f / 64) 0) (1 * 2 ^ (f % 64) % 2 ^ 64) (fits (f / 64)).fits (mod-lt (1 * 2 ^ (f % 64)) (lit< tt)))
      (λ g q.
      bit_of_or (get_or ws (f / 64) 0) (1 * 2 ^ (f % 64) % 2 ^ 64) (g % 64)
      ∙ ap₂ either (sym (has_in ws (f / 64) g q)) (ap (λ (x : ℕ). bit x (g % 64)) (shifted_one (f % 64) (omega arith)) ∙ same_bit g q))
      (λ g d. added_other (has ws) f g d)

  -- `w & !(1 << f % 64)`
  pub without_bit : f / 64 < n → set ws (f / 64) (bit_and (get_or ws (f / 64) 0) ((2 ^ 64 - 1) - 1 * 2 ^ (f % 64) % 2 ^ 64)) ≡ words_of n (dropped (has ws) f)
  unfolding dropped
  without_bit h =
      one_word (dropped (has ws) f) (bit_and (get_or ws (f / 64) 0) ((2 ^ 64 - 1) - 1 * 2 ^ (f % 64) % 2 ^ 64)) h
      (lt_of_le_of_lt (and_le_l (get_or ws (f / 64) 0) ((2 ^ 64 - 1) - 1 * 2 ^ (f % 64) % 2 ^ 64)) (fits (f / 64)).fits)
      (λ g q.
      bit_less (get_or ws (f / 64) 0) (1 * 2 ^ (f % 64) % 2 ^ 64) (g % 64) (omega arith) (mod-lt (1 * 2 ^ (f % 64)) (lit< tt))
      ∙ ap₂ (λ (p r : Bool). both (no p) r)
      (ap (λ (x : ℕ). bit x (g % 64)) (shifted_one (f % 64) (omega arith)) ∙ same_bit g q) (sym (has_in ws (f / 64) g q)))
      (λ g d. dropped_other (has ws) f g d)
