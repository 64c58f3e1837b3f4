-- A line is its word, a blank and each number, and a line feed, written one after the other.
use Prim.Native.Nat.{ℕ, zero, suc, ◌*◌, ◌^◌, ◌≤◌, ◌<◌}
use mathlib.Core.Path.{◌≡◌, refl, sym, ap, ◌∙◌}
use mathlib.Core.List.{List, [], ◌∷◌, ◌++◌, append-nil, append_assoc}
use mathlib.Core.Logic.{inl, inr}
use native.Mathlib.Omega.{arith}
use Rattle.sets.specs.Tests.{Is}
use Rattle.sets.specs.Sets.{Set, members}
use Rattle.sets.specs.Words.{has, words_of}
use Rattle.sets.proofs.Tests.{fails, compare, pick_false}
use Rattle.sets.proofs.Words.{has_made}
use Rattle.report.specs.Text.{blank, line_feed, number_text, fields, line}
use Rattle.report.specs.declared.text.Page.{Page as Lent}
use Rattle.report.specs.Writing.{Writes}
use Rattle.report.proofs.Writing.{writes_none, writes_on, writes_as}
use Rattle.report.proofs.Numbers.{number_decimal}
use Rattle.std.specs.Fmt.{decimal}

-- ---- fields and lines

pub field_written : (n : ℕ) (digits : List ℕ) (p q r : Lent) → n < 2 ^ 64 → digits ≡ decimal n → Writes (blank ∷ []) p q → Writes digits q r
    → Writes (blank ∷ number_text n) p r
field_written n digits p q r fits made first rest =
    writes_as (blank ∷ digits) (blank ∷ number_text n) p r (ap (λ (text : List ℕ). blank ∷ text) (made ∙ sym (number_decimal n fits)))
    (writes_on (blank ∷ []) digits p q r first rest)

pub fields_append : (a b : List ℕ) → fields (a ++ b) ≡ fields a ++ fields b
unfolding fields
fields_append [] b = refl
fields_append (x ∷ a) b = ap (λ (l : List ℕ). (blank ∷ number_text x) ++ l) (fields_append a b) ∙ sym (append_assoc (blank ∷ number_text x) (fields a) (fields b))

pub fields_one : (x : ℕ) → fields (x ∷ []) ≡ blank ∷ number_text x
unfolding fields
fields_one x = append-nil (blank ∷ number_text x)

pub fields_none : (p : Lent) → Writes (fields []) p p
unfolding fields
fields_none p = writes_none p

pub fields_on : (a b : List ℕ) (p q r : Lent) → Writes (fields a) p q → Writes (fields b) q r → Writes (fields (a ++ b)) p r
fields_on a b p q r first rest = writes_as (fields a ++ fields b) (fields (a ++ b)) p r (sym (fields_append a b)) (writes_on (fields a) (fields b) p q r first rest)

-- one number more
pub fields_next : (a : List ℕ) (x : ℕ) (p q r : Lent) → Writes (fields a) p q → Writes (blank ∷ number_text x) q r → Writes (fields (a ++ x ∷ [])) p r
fields_next a x p q r first rest = fields_on a (x ∷ []) p q r first (writes_as (blank ∷ number_text x) (fields (x ∷ [])) q r (sym (fields_one x)) rest)

pub line_written : (word numbers : List ℕ) (p q r s : Lent) → Writes word p q → Writes (fields numbers) q r → Writes (line_feed ∷ []) r s
    → Writes (line word numbers) p s
unfolding line
line_written word numbers p q r s first middle last =
    writes_on (word ++ fields numbers) (line_feed ∷ []) p r s (writes_on word (fields numbers) p q r first middle) last

-- ---- the members of a set

pub members_same : (n : ℕ) (X Y : Set) → ((f : ℕ) → f < n → X f ≡ Y f) → members n X ≡ members n Y
unfolding members
members_same zero X Y h = refl
members_same (suc n) X Y h = rw (members_same n X Y (λ f l. h f (omega arith)), h n (omega arith))

-- the set that words were made of
pub members_made : (k : ℕ) (ws : List ℕ) (X : Set) → ws ≡ words_of k X → members (k * 64) (has ws) ≡ members (k * 64) X
members_made k ws X e = members_same (k * 64) (has ws) X (has_made k ws X e)

-- those below m are all, where no other number is a member
pub members_within : (n m : ℕ) (X : Set) → m ≤ n → ((s : ℕ) → Is (X s) → s < m) → members n X ≡ members m X
unfolding members
members_within zero m X l inside = let none : m ≡ 0 = omega arith in rw none
members_within (suc n) m X l inside =
    elim (compare n m) [
      | inl more ↦ let last : m ≡ suc n = omega arith in rw last
      | inr less ↦ rw (pick_false (n ∷ []) [] (fails (X n) (λ h. absurd (omega (arith, inside n h))))) (append-nil (members n X) ∙ members_within n m X less inside)
    ]

-- the members of a set of numbers below m, of which k words were made
pub members_read : (k m : ℕ) (ws : List ℕ) (X : Set) → ws ≡ words_of k X → m ≤ k * 64 → ((s : ℕ) → Is (X s) → s < m) → members (k * 64) (has ws) ≡ members m X
members_read k m ws X e l inside = members_made k ws X e ∙ members_within (k * 64) m X l inside
