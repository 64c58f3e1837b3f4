-- The loop that collects the steps that pass a test: those below i that pass have been put in.
use Prim.Native.Nat.{ℕ, ◌+◌}
use mathlib.Core.Path.{◌≡◌, sym, ap, ◌∙◌, subst}
use mathlib.Core.Bool.{Bool, false}
use mathlib.Core.List.{List}
use mathlib.Core.Logic.{inl, inr}
use native.Mathlib.Omega.{arith}
use Rattle.sets.specs.Tests.{Is, both, below, same}
use Rattle.sets.specs.Sets.{Set, none, up_to, added, met}
use Rattle.sets.specs.Words.{has, words_of}
use Rattle.sets.proofs.Tests.{tell, both_true, both_false_l, both_false_r, below_true, below_false, below_iff, same_at, same_not}
use Rattle.sets.proofs.Sets.{added_itself, added_other}
use Rattle.sets.proofs.Words.{has_made, words_of_same}

module _ (P : Set) where
  pub passed_start : {ws : List ℕ} → ws ≡ words_of 16 none → ws ≡ words_of 16 (met (up_to 0) P)
  unfolding none met up_to
  passed_start e = e ∙ words_of_same 16 _ _ (λ s l. sym (both_false_l (below s 0) (P s) (below_false s 0 (omega arith))))

  -- with step i in view nothing changes for the others
  passed_other : (i s : ℕ) → ¬ (s ≡ i) → met (up_to i) P s ≡ met (up_to (i + 1)) P s
  unfolding met up_to
  passed_other i s other = ap (λ (p : Bool). both p (P s)) (below_iff s i s (i + 1) (λ l. omega arith) (λ l. omega arith))

  -- a turn of the loop: step i passes and is put in, or it does not
  module _ (i : ℕ) {ws after : List ℕ} (so_far : ws ≡ words_of 16 (met (up_to i) P)) where
    pub passed_with : Is (P i) → after ≡ words_of 16 (added (has ws) i) → after ≡ words_of 16 (met (up_to (i + 1)) P)
    unfolding met up_to
    passed_with h made =
        made ∙ words_of_same 16 _ _ (λ s l. elim (tell (same s i)) [
          | inl q ↦
              let e = same_at s i q in
              added_itself (has ws) i s e
              ∙ sym (subst (λ (s : ℕ). Is (met (up_to (i + 1)) P s)) (sym e) (both_true (below i (i + 1)) (P i) (below_true i (i + 1) (omega arith)) h))
          | inr q ↦ added_other (has ws) i s (same_not s i q) ∙ has_made 16 ws _ so_far s l ∙ passed_other i s (same_not s i q)
        ])

    pub passed_over : P i ≡ false → after ≡ ws → after ≡ words_of 16 (met (up_to (i + 1)) P)
    unfolding met up_to
    passed_over h e =
        e ∙ so_far ∙ words_of_same 16 _ _ (λ s l. elim (tell (same s i)) [
          | inl q ↦ subst (λ (s : ℕ). met (up_to i) P s ≡ met (up_to (i + 1)) P s) (sym (same_at s i q))
              (both_false_r (below i i) (P i) h ∙ sym (both_false_r (below i (i + 1)) (P i) h))
          | inr q ↦ passed_other i s (same_not s i q)
        ])
