-- Laws of tables as lists of numbers: by induction on their length.
use Prim.Native.Nat.{ℕ, zero, suc, ◌≤◌, ◌<◌}
use mathlib.Core.Path.{◌≡◌, refl, sym, ap, ◌∙◌, subst}
use mathlib.Core.List.{List}
use mathlib.Core.Logic.{inl, inr}
use native.Mathlib.Nat.{not-suc-le-zero, le_of_suc-le-suc}
use native.Mathlib.Omega.{arith}
use lib.ListN.{length}
use lib.Seq.{ext_get_or}
use Rattle.sets.proofs.Sets.{last}
use Rattle.distance.specs.Distance.{list_of, entry}
use Rattle.distance.specs.Relaxing.{sum, Under}

-- ---- the first n numbers of d as a list

pub length_list : (n : ℕ) (d : ℕ → ℕ) → length (list_of n d) ≡ n
unfolding list_of
length_list zero d = refl
length_list (suc n) d = ap suc (length_list n (λ i. d (suc i)))

pub length_made : (n : ℕ) (l : List ℕ) (d : ℕ → ℕ) → l ≡ list_of n d → length l ≡ n
length_made n l d e = ap length e ∙ length_list n d

pub entry_list : (n : ℕ) (d : ℕ → ℕ) (i : ℕ) → i < n → entry (list_of n d) i ≡ d i
unfolding list_of
entry_list zero d i l = absurd (not-suc-le-zero l)
entry_list (suc n) d zero l = refl
entry_list (suc n) d (suc i) l = entry_list n (λ i. d (suc i)) i (le_of_suc-le-suc l)

-- a list of n numbers that are those of d
pub list_only : (n : ℕ) (d : ℕ → ℕ) (l : List ℕ) → length l ≡ n → ((i : ℕ) → i < n → entry l i ≡ d i) → l ≡ list_of n d
list_only n d l e h =
    ext_get_or 0 l (list_of n d) (e ∙ sym (length_list n d)) (λ i b. let k : i < n = omega arith in h i k ∙ sym (entry_list n d i k))

-- ---- the sum, by which the tables fall

pub sum_le : (n : ℕ) (d e : ℕ → ℕ) → Under n d e → sum n d ≤ sum n e
unfolding sum
sum_le zero d e h = omega arith
sum_le (suc n) d e h = omega (arith, h n (omega arith), sum_le n d e (λ i l. h i (omega arith)))

pub sum_lt : (n : ℕ) (d e : ℕ → ℕ) → Under n d e → (i : ℕ) → i < n → d i < e i → sum n d < sum n e
unfolding sum
sum_lt zero d e h i l y = absurd (not-suc-le-zero l)
sum_lt (suc n) d e h i l y =
    elim (last n i l) [
      | inl p ↦ omega (arith, subst (λ (i : ℕ). d i < e i) p y, sum_le n d e (λ i l. h i (omega arith)))
      | inr b ↦ omega (arith, h n (omega arith), sum_lt n d e (λ i l. h i (omega arith)) i b y)
    ]
