-- Decimal text by its last digit: enough places give the same digits, by recursion on the places, so a number from 10 on is the text of its tenth and one digit.
use Prim.Native.Nat.{ℕ, zero, suc, ◌/◌, ◌%◌, ◌^◌, ◌≤◌, ◌<◌}
use mathlib.Core.Path.{◌≡◌, refl, ap, ◌∙◌}
use mathlib.Core.Bool.{true, false}
use mathlib.Core.List.{List, [], ◌∷◌, ◌++◌}
use mathlib.Core.Logic.{inl, inr}
use native.Mathlib.Omega.{arith}
use Rattle.sets.specs.Tests.{below}
use Rattle.sets.proofs.Tests.{below_true, below_false, compare}
use Rattle.report.specs.Text.{digit, digits_of, number_text}
use Rattle.std.specs.Fmt.{decimal}
use Rattle.std.proofs.lemmas.Fmt.{decimal_by_steps}

one_digit : (most n : ℕ) → digits_of most true n ≡ digit n ∷ []
unfolding digits_of
one_digit zero n = refl
one_digit (suc most) n = refl

-- any two numbers of places that are enough
enough : (j k n : ℕ) → n ≤ j → n ≤ k → digits_of j (below n 10) n ≡ digits_of k (below n 10) n
unfolding digits_of
enough zero k n p q = rw (below_true n 10 (omega arith), one_digit k n)
enough (suc j) zero n p q = rw (below_true n 10 (omega arith))
enough (suc j) (suc k) n p q =
    elim (compare n 10) [
      | inl l ↦ rw (below_true n 10 l)
      | inr l ↦ rw (below_false n 10 l, enough j k (n / 10) (omega arith) (omega arith))
    ]

pub number_one : (n : ℕ) → n < 10 → number_text n ≡ digit n ∷ []
unfolding number_text
number_one n l = rw (below_true n 10 l) (one_digit n n)

-- from 10 on, with places to spare
last_digit : (most n : ℕ) → 10 ≤ n → n ≤ most → digits_of most false n ≡ number_text (n / 10) ++ digit (n % 10) ∷ []
unfolding number_text digits_of
last_digit zero n l p = absurd (omega arith)
last_digit (suc most) n l p = rw (enough most (n / 10) (n / 10) (omega arith) (omega arith))

pub number_more : (n : ℕ) → 10 ≤ n → number_text n ≡ number_text (n / 10) ++ digit (n % 10) ∷ []
unfolding number_text
number_more n l = rw (below_false n 10 l) (last_digit n n l (omega arith))

-- ---- a number as std writes it

pub number_decimal : (n : ℕ) → n < 2 ^ 64 → number_text n ≡ decimal n
number_decimal n fits =
    decimal_by_steps (λ (k : ℕ) (text : List ℕ). number_text k ≡ text) number_one
    (λ k front l e. number_more k l ∙ ap (λ (text : List ℕ). text ++ digit (k % 10) ∷ []) e) n fits
