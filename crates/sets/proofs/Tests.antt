-- Laws of the tests: what a test says when it is true, what makes it true, and the library's test that each equals. By cases on the truth values.
use Prim.Native.Nat.{ℕ, ◌≤◌, ◌<◌}
use mathlib.Core.Path.{◌≡◌, refl, sym, ◌∙◌}
use mathlib.Core.Bool.{Bool, true, false, not, ◌&&◌, ◌||◌, false≢true}
use mathlib.Core.Logic.{◌⊎◌, inl, inr}
use lib.Dec.{ltb, eqb}
use borrow.Author.Tests.{lt-ltb, le-ltb, ltb-true, ltb-false, eq-eqb, ne_eqb, eqb-true, eqb-false}
use Rattle.sets.specs.Tests.{Is, no, both, either, implies, below, same, pick}

-- ---- each test is the library's

pub no_is : (p : Bool) → no p ≡ not p
unfolding no
no_is true = refl
no_is false = refl

pub both_is : (p q : Bool) → both p q ≡ (p && q)
unfolding both
both_is true q = refl
both_is false q = refl

pub either_is : (p q : Bool) → either p q ≡ (p || q)
unfolding either
either_is true q = refl
either_is false q = refl

pub implies_is : (p q : Bool) → implies p q ≡ (not p || q)
unfolding implies
implies_is true q = refl
implies_is false q = refl

pub below_is : (m n : ℕ) → below m n ≡ ltb m n
unfolding below
below_is m n = refl

pub same_is : (m n : ℕ) → same m n ≡ eqb m n
unfolding same
same_is m n = refl

-- ---- true and false

pub not_is : {A : Type 0} → Is false → A
not_is h = absurd (false≢true h)

-- a test is true, or it is false
pub tell : (p : Bool) → Is p ⊎ (p ≡ false)
tell true = inl refl
tell false = inr refl

pub fails : (p : Bool) → ¬ Is p → p ≡ false
fails true h = absurd (h refl)
fails false h = refl

pub not_both_ways : {A : Type 0} {p : Bool} → Is p → p ≡ false → A
not_both_ways h e = absurd (false≢true (sym e ∙ h))

-- two tests are one where each makes the other true
pub equal_tests : (p q : Bool) → (Is p → Is q) → (Is q → Is p) → p ≡ q
equal_tests true q f g = sym (f refl)
equal_tests false true f g = g refl
equal_tests false false f g = refl

-- ---- what a true test says, and what makes it true

pub both_l : (p q : Bool) → Is (both p q) → Is p
unfolding both
both_l true q h = refl
both_l false q h = h

pub both_r : (p q : Bool) → Is (both p q) → Is q
unfolding both
both_r true q h = h
both_r false q h = not_is h

pub both_true : (p q : Bool) → Is p → Is q → Is (both p q)
unfolding both
both_true true q h k = k
both_true false q h k = h

pub both_comm : (p q : Bool) → both p q ≡ both q p
unfolding both
both_comm true true = refl
both_comm true false = refl
both_comm false true = refl
both_comm false false = refl

pub either_l : (p q : Bool) → Is p → Is (either p q)
unfolding either
either_l true q h = h
either_l false q h = not_is h

pub either_r : (p q : Bool) → Is q → Is (either p q)
unfolding either
either_r true q h = refl
either_r false q h = h

pub either_cases : (p q : Bool) → Is (either p q) → Is p ⊎ Is q
unfolding either
either_cases true q h = inl h
either_cases false q h = inr h

pub no_true : (p : Bool) → p ≡ false → Is (no p)
unfolding no
no_true true h = sym h
no_true false h = refl

pub no_false : (p : Bool) → Is (no p) → p ≡ false
unfolding no
no_false true h = sym h
no_false false h = refl

pub implies_true : (p q : Bool) → (Is p → Is q) → Is (implies p q)
unfolding implies
implies_true true q h = h refl
implies_true false q h = refl

pub implies_at : (p q : Bool) → Is (implies p q) → Is p → Is q
unfolding implies
implies_at true q h k = h
implies_at false q h k = not_is k

pub below_true : (m n : ℕ) → m < n → Is (below m n)
unfolding below
below_true m n h = lt-ltb m n h

pub below_at : (m n : ℕ) → Is (below m n) → m < n
unfolding below
below_at m n h = ltb-true m n h

pub below_false : (m n : ℕ) → n ≤ m → below m n ≡ false
unfolding below
below_false m n h = le-ltb m n h

pub below_not : (m n : ℕ) → below m n ≡ false → n ≤ m
unfolding below
below_not m n h = ltb-false m n h

pub same_true : (m n : ℕ) → m ≡ n → Is (same m n)
unfolding same
same_true m n h = eq-eqb m n h

pub same_at : (m n : ℕ) → Is (same m n) → m ≡ n
unfolding same
same_at m n h = eqb-true m n h

pub same_false : (m n : ℕ) → ¬ (m ≡ n) → same m n ≡ false
unfolding same
same_false m n h = ne_eqb m n h

pub same_not : (m n : ℕ) → same m n ≡ false → ¬ (m ≡ n)
unfolding same
same_not m n h = eqb-false m n h

-- tests that say the same are one
pub below_iff : (a b c d : ℕ) → (a < b → c < d) → (c < d → a < b) → below a b ≡ below c d
below_iff a b c d p q = equal_tests (below a b) (below c d) (λ h. below_true c d (p (below_at a b h))) (λ h. below_true a b (q (below_at c d h)))

pub same_iff : (a b c d : ℕ) → (a ≡ b → c ≡ d) → (c ≡ d → a ≡ b) → same a b ≡ same c d
same_iff a b c d p q = equal_tests (same a b) (same c d) (λ h. same_true c d (p (same_at a b h))) (λ h. same_true a b (q (same_at c d h)))

-- m is less than n, or it is not
pub compare : (m n : ℕ) → (m < n) ⊎ (n ≤ m)
compare m n = elim (tell (below m n)) [ inl h ↦ inl (below_at m n h) | inr h ↦ inr (below_not m n h) ]

-- ---- which of two is picked

pub pick_true : {A : Type 0} {p : Bool} (a b : A) → Is p → pick p a b ≡ a
unfolding pick
pick_true a b h = rw h

pub pick_false : {A : Type 0} {p : Bool} (a b : A) → p ≡ false → pick p a b ≡ b
unfolding pick
pick_false a b h = rw h

-- ---- what a false test says, and what makes it false

pub both_false_l : (p q : Bool) → p ≡ false → both p q ≡ false
unfolding both
both_false_l p q h = rw h

pub both_false_r : (p q : Bool) → q ≡ false → both p q ≡ false
both_false_r p q h = fails (both p q) (λ k. not_both_ways (both_r p q k) h)

pub either_false : (p q : Bool) → p ≡ false → q ≡ false → either p q ≡ false
unfolding either
either_false p q h k = rw h k

pub either_not : (p q : Bool) → either p q ≡ false → (p ≡ false) × (q ≡ false)
unfolding either
either_not true q h = not_both_ways refl h
either_not false q h = (refl, h)

pub no_of : (p : Bool) → Is p → no p ≡ false
unfolding no
no_of p h = rw h
