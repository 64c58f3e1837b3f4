-- The loops over the costs: the least so far is the least among the steps below i, each cost has had the cut's cost taken off where its step is in the cut, and each cost is copied.
use Prim.Native.Nat.{ℕ, ◌+◌, ◌-◌, ◌≤◌, ◌<◌, min}
use mathlib.Core.Path.{◌≡◌, ◌∙◌}
use mathlib.Core.List.{List}
use mathlib.Core.Logic.{inl, inr}
use native.Mathlib.Numerals.{add-one}
use native.Mathlib.Omega.{arith}
use lib.ListN.{length, get_or, set}
use lib.Seq.{get_or-set_same, get_or-set_other, ext_get_or}
use Rattle.sets.specs.Tests.{pick}
use Rattle.sets.specs.Sets.{Set}
use Rattle.sets.proofs.Sets.{last}
use Rattle.distance.specs.Distance.{least, entry}
use Rattle.distance.proofs.Lists.{list_only}
use Rattle.cuts.specs.Workers.{taken_off}

-- one step more
pub least_more : (mark : ℕ) (X : Set) (x : ℕ → ℕ) (i : ℕ) → least mark (i + 1) X x ≡ min (least mark i X x) (pick (X i) (x i) mark)
unfolding least
least_more mark X x i = rw add-one

-- all costs have been seen
pub taken_whole : (X : Set) (cost : ℕ) (old z : List ℕ) → length z ≡ length old → ((s : ℕ) → s < length z → entry z s ≡ entry old s - pick (X s) cost 0)
    → z ≡ taken_off X cost old
unfolding taken_off
taken_whole X cost old z size done = list_only (length old) (λ s. entry old s - pick (X s) cost 0) z size (λ s l. done s (omega arith))

-- ---- a copy

-- one cost more is copied
pub copied_next : (costs left : List ℕ) (i : ℕ) → length left ≡ length costs → i < length left → ((j : ℕ) → j < i → get_or left j 0 ≡ get_or costs j 0)
    → (j : ℕ) → j < i + 1 → get_or (set left i (get_or costs i 0)) j 0 ≡ get_or costs j 0
copied_next costs left i size l before j k =
    elim (last i j (omega arith)) [
      | inl e ↦ rw e (get_or-set_same left i (get_or costs i 0) 0 l)
      | inr b ↦ get_or-set_other left i j (get_or costs i 0) 0 (λ e. absurd (omega arith)) ∙ before j b
    ]

-- all are
pub copied_all : (costs left : List ℕ) (i : ℕ) → length left ≡ length costs → length left ≤ i → ((j : ℕ) → j < i → get_or left j 0 ≡ get_or costs j 0) → left ≡ costs
copied_all costs left i size l before = ext_get_or 0 left costs size (λ j k. before j (omega arith))
