-- Laws of the bits of one word, from the library's of `bit_at`: bit k of w is that of `bit_at w k`.
use Prim.Native.Nat.{ℕ, zero, suc, ◌+◌, ◌-◌, ◌*◌, ◌/◌, ◌%◌, ◌^◌, ◌<◌, max, min}
use mathlib.Core.Path.{◌≡◌, refl, sym, ap, ap₂, ◌∙◌}
use mathlib.Core.Bool.{Bool, true, false}
use mathlib.Core.Logic.{inl, inr}
use native.Mathlib.Nat.{mod-lt, pow-suc, add_comm}
use native.Mathlib.Numerals.{one-add}
use native.Mathlib.Omega.{arith}
use mir.Syntax.{w64}
use lib.Dec.{lit<}
use lib.Arith.{lt-one}
use lib.Pow.{pow_pos, mod-pow-add}
use lib.Bits.{bit_and, bit_or}
use lib.Count.{ones, ones_cat, count_trailing_zeros}
use Rattle.std.specs.Int.{bit_at}
use Rattle.std.proofs.lemmas.Nat.Bits.{bit_at_lowest, bit_at-suc, bit_at-zero, bit_at-lt, same_from_bits_below, bit_at_and, bit_at_or, bit_at_not, bit_at-pow_same, bit_at-pow_other, bit_at_ones, bit_at_ones_above, bit_at-trailing_zeros}
use Rattle.sets.specs.Tests.{Is, no, both, either, below, same}
use Rattle.sets.specs.Sets.{Set, one, count}
use Rattle.sets.specs.Words.{bit, word_of}
use Rattle.sets.proofs.Tests.{tell, same_not, below_true, below_false, below_iff, same_true, same_at, same_false, both_comm, compare}

-- ---- one bit

-- a digit is 0 or 1
two_cases : (P : ℕ → Type 0) → P 0 → P 1 → (x : ℕ) → x < 2 → P x
two_cases P p q zero h = p
two_cases P p q (suc zero) h = q
two_cases P p q (suc (suc x)) h = absurd (omega arith)

digit_eq : (x y : ℕ) → x < 2 → y < 2 → same x 1 ≡ same y 1 → x ≡ y
digit_eq x y hx hy e =
    elim (tell (same y 1)) [
      | inl q ↦ omega (arith, same_at y 1 q, same_at x 1 (e ∙ q))
      | inr q ↦ omega (arith, same_not y 1 q, same_not x 1 (e ∙ q))
    ]

-- the bit of a digit
bit_is : (w k : ℕ) {d : ℕ} → bit_at w k ≡ d → bit w k ≡ same d 1
unfolding bit
bit_is w k e = ap (λ (x : ℕ). same x 1) e

bit_zero : (w : ℕ) → bit w 0 ≡ same (w % 2) 1
bit_zero w = bit_is _ _ (bit_at_lowest w)

bit_suc : (w k : ℕ) → bit w (suc k) ≡ bit (w / 2) k
unfolding bit
bit_suc w k = bit_is _ _ (bit_at-suc w k)

pub bit_of_zero : (k : ℕ) → bit 0 k ≡ false
unfolding same
bit_of_zero k = bit_is _ _ (bit_at-zero k)

-- words of k bits are equal where their bits are
pub word_ext : (k a b : ℕ) → a < 2 ^ k → b < 2 ^ k → ((j : ℕ) → j < k → bit a j ≡ bit b j) → a ≡ b
unfolding bit
word_ext k a b ha hb h = same_from_bits_below k a b ha hb (λ j l. digit_eq _ _ (bit_at-lt a j) (bit_at-lt b j) (h j l))

-- ---- or, and, not

by_digits : (op : ℕ → ℕ → ℕ) (f : Bool → Bool → Bool) → (same (op 0 0) 1 ≡ f false false) → (same (op 0 1) 1 ≡ f false true)
    → (same (op 1 0) 1 ≡ f true false) → (same (op 1 1) 1 ≡ f true true)
    → (x y : ℕ) → x < 2 → y < 2 → same (op x y) 1 ≡ f (same x 1) (same y 1)
unfolding same
by_digits op f p q r s x y hx hy =
    two_cases (λ (x : ℕ). same (op x y) 1 ≡ f (same x 1) (same y 1))
    (two_cases (λ (y : ℕ). same (op 0 y) 1 ≡ f false (same y 1)) p q y hy)
    (two_cases (λ (y : ℕ). same (op 1 y) 1 ≡ f true (same y 1)) r s y hy)
    x hx

pub bit_of_or : (a b k : ℕ) → bit (bit_or a b) k ≡ either (bit a k) (bit b k)
unfolding bit same either
bit_of_or a b k = bit_is _ _ (bit_at_or a b k) ∙ by_digits max either refl refl refl refl _ _ (bit_at-lt a k) (bit_at-lt b k)

pub bit_of_and : (a b k : ℕ) → bit (bit_and a b) k ≡ both (bit a k) (bit b k)
unfolding bit same both
bit_of_and a b k = bit_is _ _ (bit_at_and a b k) ∙ by_digits min both refl refl refl refl _ _ (bit_at-lt a k) (bit_at-lt b k)

not_digit : (d : ℕ) → d < 2 → same (1 - d) 1 ≡ no (same d 1)
unfolding same no
not_digit = two_cases (λ (d : ℕ). same (1 - d) 1 ≡ no (same d 1)) refl refl

-- 2 ^ 64 - 1 - y, which the code writes `!y`, has the bits that y has not
bit_of_not : (y k : ℕ) → k < 64 → y < 2 ^ 64 → bit ((2 ^ 64 - 1) - y) k ≡ no (bit y k)
unfolding bit
bit_of_not y k l h = bit_is _ _ (bit_at_not w64 y k h l) ∙ not_digit _ (bit_at-lt y k)

-- the bits of a that b has not, `a & !b`
pub bit_less : (a b k : ℕ) → k < 64 → b < 2 ^ 64 → bit (bit_and a ((2 ^ 64 - 1) - b)) k ≡ both (no (bit b k)) (bit a k)
bit_less a b k l h =
    bit_of_and a ((2 ^ 64 - 1) - b) k ∙ both_comm (bit a k) (bit ((2 ^ 64 - 1) - b) k) ∙ ap (λ (q : Bool). both q (bit a k)) (bit_of_not b k l h)

-- ---- one bit alone, and the lowest bits

pub bit_pow : (k j : ℕ) → bit (2 ^ k) j ≡ same j k
bit_pow k j =
    elim (tell (same j k)) [
      | inl e ↦ rw (same_at j k e) (bit_is _ _ (bit_at-pow_same k) ∙ same_true 1 1 refl ∙ sym (same_true k k refl))
      | inr d ↦ bit_is _ _ (bit_at-pow_other k j (same_not j k d)) ∙ same_false 0 1 (λ e. omega arith) ∙ sym d
    ]

-- 2 ^ e - 1 is the e lowest bits
pub bit_mask : (e j : ℕ) → bit (2 ^ e - 1) j ≡ below j e
bit_mask e j =
    elim (compare j e) [
      | inl l ↦ bit_is _ _ (bit_at_ones e j l) ∙ same_true 1 1 refl ∙ sym (below_true j e l)
      | inr l ↦ bit_is _ _ (bit_at_ones_above e j l) ∙ same_false 0 1 (λ e. omega arith) ∙ sym (below_false j e l)
    ]

-- ---- the word of a set's first members

one_most : (p : Bool) → one p < 2
unfolding one
one_most true = omega arith
one_most false = omega arith

one_is : (p : Bool) → same (one p) 1 ≡ p
unfolding one same
one_is true = refl
one_is false = refl

pub word_of_lt : (k : ℕ) (X : Set) → word_of k X < 2 ^ k
unfolding word_of
word_of_lt zero X = lit< tt
word_of_lt (suc k) X = rw pow-suc (omega (arith, word_of_lt k (λ j. X (suc j)), one_most (X 0)))

-- sets with the same members below k are one word
pub word_of_same : (k : ℕ) (X Y : Set) → ((f : ℕ) → f < k → X f ≡ Y f) → word_of k X ≡ word_of k Y
unfolding word_of
word_of_same zero X Y h = refl
word_of_same (suc k) X Y h =
    ap₂ (λ (w : ℕ) (p : Bool). w * 2 + one p)
    (word_of_same k (λ j. X (suc j)) (λ j. Y (suc j)) (λ f l. h (suc f) (omega arith))) (h 0 (omega arith))

pub bit_word_of : (k : ℕ) (X : Set) (j : ℕ) → bit (word_of k X) j ≡ both (below j k) (X j)
unfolding word_of both
bit_word_of zero X j = bit_of_zero j ∙ ap (λ (p : Bool). both p (X j)) (sym (below_false j 0 (omega arith)))
bit_word_of (suc k) X zero =
    bit_zero (word_of k (λ j. X (suc j)) * 2 + one (X 0))
    ∙ ap (λ (x : ℕ). same x 1) (low (word_of k (λ j. X (suc j))) (one (X 0)) (one_most (X 0)))
    ∙ one_is (X 0) ∙ ap (λ (p : Bool). both p (X 0)) (sym (below_true 0 (suc k) (omega arith)))
  where
    low : (w d : ℕ) → d < 2 → (w * 2 + d) % 2 ≡ d
    low w d h = omega arith
bit_word_of (suc k) X (suc j) =
    bit_suc (word_of k (λ j. X (suc j)) * 2 + one (X 0)) j
    ∙ ap (λ (x : ℕ). bit x j) (high (word_of k (λ j. X (suc j))) (one (X 0)) (one_most (X 0)))
    ∙ bit_word_of k (λ j. X (suc j)) j
    ∙ ap (λ (p : Bool). both p (X (suc j))) (below_iff j k (suc j) (suc k) (λ h. omega arith) (λ h. omega arith))
  where
    high : (w d : ℕ) → d < 2 → (w * 2 + d) / 2 ≡ w
    high w d h = omega arith

-- ---- how many bits are set, and the lowest of them

digit_ones : (d : ℕ) → d < 2 → ones d ≡ one (same d 1)
unfolding ones one same
digit_ones = two_cases (λ (d : ℕ). ones d ≡ one (same d 1)) refl refl

none_yet : ones 0 ≡ 0
unfolding ones
none_yet = refl

-- the ones among the k lowest bits are counted bit by bit
pub ones_count : (w k : ℕ) → ones (w % 2 ^ k) ≡ count k (bit w)
unfolding bit count
ones_count w zero = ap ones (lt-one (mod-lt w (pow_pos 0))) ∙ none_yet
ones_count w (suc k) =
    ap (λ (x : ℕ). ones (w % 2 ^ x)) (sym (one-add k))
    ∙ ap ones (mod-pow-add w 1 k)
    ∙ ones_cat k (w / 2 ^ k % 2) (w % 2 ^ k) (mod-lt w (pow_pos k))
    ∙ add_comm (ones (w / 2 ^ k % 2)) (ones (w % 2 ^ k))
    ∙ ap₂ (λ (x y : ℕ). x + y) (ones_count w k) (digit_ones (w / 2 ^ k % 2) (mod-lt (w / 2 ^ k) (lit< tt)))

-- a word that is not 0 has a set bit, and below the lowest none is set
pub record LowestBit (w z : ℕ) : Type 0 where
  pub small : z < 64
  pub set : Is (bit w z)
  pub least : (j : ℕ) → j < z → bit w j ≡ false

pub trailing : (w : ℕ) → w < 2 ^ 64 → ¬ (w ≡ 0) → LowestBit w (count_trailing_zeros 64 w)
trailing w l h = let t = bit_at-trailing_zeros w64 w (omega arith) l in record {
  small = t.0;
  set = bit_is _ _ t.1 ∙ same_true 1 1 refl;
  least = λ j b. bit_is _ _ (t.2 j b) ∙ same_false 0 1 (λ e. omega arith);
}
