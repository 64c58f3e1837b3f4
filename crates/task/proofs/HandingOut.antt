-- Why a row that is handed out lies within its table, and which it is.
use Prim.Native.Nat.{ℕ, ◌+◌, ◌*◌, ◌≤◌, ◌<◌}
use mathlib.Core.Path.{◌≡◌, refl, sym, ◌∙◌}
use mathlib.Core.Bool.{Bool, true, false}
use mathlib.Core.List.{List, [], ◌∷◌}
use native.Mathlib.Omega.{arith}
use lib.ListN.{length}
use Rattle.std.specs.Prelude.{Ok, Err}
use Rattle.sets.specs.Tests.{same, pick, no, both, below}
use Rattle.sets.specs.Words.{row}
use Rattle.sets.proofs.Tests.{both_l, both_r, below_at, below_not, same_at, no_true, no_of, both_true, both_false_l, both_false_r, below_true, below_false, same_true, same_false}
use Rattle.task.specs.declared.refusal.Fault.TheVariants.{TableLength, StepNumber, RowKind}
use Rattle.task.specs.declared.row.Row.{Row}
use Rattle.task.specs.declared.row.Row.TheVariants.{Needs, Sets}
use Rattle.task.specs.Refusal.{Refusal, Verdict, answered, refused_if, first_refusal, refusal}
use Rattle.task.specs.Row.{row_of, row_verdict, handed_out, handed_at}
use Rattle.task.proofs.Sizing.{sized}
use Rattle.task.proofs.Refusals.{fine_first, fine_rest, fine_if, fine_test, answered_ok, answered_err, refuse, skip, none_left, skip_fine, stay}
use Rattle.task.specs.Check.{sizes_verdict}

module _ (n m : ℕ) (needs sets : List ℕ) (step which : ℕ) {v : Verdict} (sizes : v ≡ sizes_verdict n m) where
  pub row_sizes : (r : Refusal) → v ≡ Err r → v ≡ row_verdict n m needs sets step which
  unfolding row_verdict
  row_sizes r e = sizes ∙ sym (stay _ (sym sizes ∙ e))

  module _ (fine : v ≡ Ok tt) where
    sizes_pass : row_verdict n m needs sets step which ≡ first_refusal (
        refused_if (no (both (same (length needs) (4 * m)) (same (length sets) (4 * m)))) TableLength
        ∷ refused_if (no (below step m)) StepNumber
        ∷ refused_if (below 1 which) RowKind
        ∷ []
        )
    unfolding row_verdict
    sizes_pass = skip_fine _ (sym sizes ∙ fine)

    pub row_needs_length : ¬ (length needs ≡ 4 * m) → Err (refusal TableLength 0) ≡ row_verdict n m needs sets step which
    row_needs_length d = sym (sizes_pass ∙ refuse TableLength _ (no_true _ (both_false_l _ _ (same_false _ _ d))))

    pub row_sets_length : ¬ (length sets ≡ 4 * m) → Err (refusal TableLength 0) ≡ row_verdict n m needs sets step which
    row_sets_length d = sym (sizes_pass ∙ refuse TableLength _ (no_true _ (both_false_r _ _ (same_false _ _ d))))

    module _ (a : length needs ≡ 4 * m) (b : length sets ≡ 4 * m) where
      lengths_pass : row_verdict n m needs sets step which ≡ first_refusal (refused_if (no (below step m)) StepNumber ∷ refused_if (below 1 which) RowKind ∷ [])
      lengths_pass = sizes_pass ∙ skip TableLength _ (no_of _ (both_true _ _ (same_true _ _ a) (same_true _ _ b)))

      pub row_step : m ≤ step → Err (refusal StepNumber 0) ≡ row_verdict n m needs sets step which
      row_step l = sym (lengths_pass ∙ refuse StepNumber _ (no_true _ (below_false step m l)))

      module _ (s : step < m) where
        pub row_which : 1 < which → Err (refusal RowKind 0) ≡ row_verdict n m needs sets step which
        row_which w = sym (lengths_pass ∙ skip StepNumber _ (no_of _ (below_true step m s)) ∙ refuse RowKind _ (below_true 1 which w))

        pub row_fine : which ≤ 1 → Ok tt ≡ row_verdict n m needs sets step which
        row_fine w = sym (lengths_pass ∙ skip StepNumber _ (no_of _ (below_true step m s)) ∙ skip RowKind [] (below_false 1 which w) ∙ none_left)

-- where a row is handed out, the step is one of the task's and its row lies within both tables
pub record RowFine (m : ℕ) (needs sets : List ℕ) (step which : ℕ) : Type 0 where
  pub short : m ≤ 1024
  pub step_below : step < m
  pub needs_length : length needs ≡ 4 * m
  pub sets_length : length sets ≡ 4 * m
  pub either_row : which ≤ 1

pub row_sound : (n m : ℕ) (needs sets : List ℕ) (step which : ℕ) → row_verdict n m needs sets step which ≡ Ok tt → RowFine m needs sets step which
unfolding row_verdict
row_sound n m needs sets step which e =
    let lengths = fine_rest _ _ e in
    let steps = fine_rest _ _ lengths in
    let both_lengths = fine_test _ TableLength (fine_first _ _ lengths) in record {
      short = (sized n m (fine_first _ _ e)).short;
      step_below = below_at step m (fine_test _ StepNumber (fine_first _ _ steps));
      needs_length = same_at _ _ (both_l _ _ both_lengths);
      sets_length = same_at _ _ (both_r _ _ both_lengths);
      either_row = below_not 1 which (fine_if _ RowKind (fine_first _ _ (fine_rest _ _ steps)));
    }

rows_differ : ◌≡◌ {A = Row} Needs Sets → ⊥
rows_differ e = let z : ◌≡◌ {A = ℕ} 0 1 = cc in absurd (omega arith)

-- ---- the part that is handed out, from the row that was asked for

module _ (v : Verdict) (step which : ℕ) (needs sets : List ℕ) (needs_at sets_at : ℕ × ℕ) where
  pub handed_none : {r : Refusal} → answered v (row_of which) ≡ Err r
      → ([] ≡ handed_out v step which needs sets) × (needs_at ≡ handed_at v step which needs_at sets_at)
  unfolding handed_out handed_at
  handed_none e = rw (answered_err (row_of which) v e) (refl, refl)

  pub handed_needs : answered v (row_of which) ≡ Ok Needs
      → (row 4 step needs ≡ handed_out v step which needs sets) × (◌≡◌ {A = ℕ × ℕ} (needs_at.0, needs_at.1 + 32 * step) (handed_at v step which needs_at sets_at))
  unfolding handed_out handed_at pick
  handed_needs e = go (same which 0) refl
    where
      go : (p : Bool) → same which 0 ≡ p → (row 4 step needs ≡ handed_out v step which needs sets) × (◌≡◌ {A = ℕ × ℕ} (needs_at.0, needs_at.1 + 32 * step) (handed_at v step which needs_at sets_at))
      go true q = rw ((answered_ok v e).0, q) (refl, refl)
      go false q = absurd (rows_differ (sym (answered_ok v e).1 ∙ rw q refl))

  pub handed_sets : answered v (row_of which) ≡ Ok Sets
      → (row 4 step sets ≡ handed_out v step which needs sets) × (◌≡◌ {A = ℕ × ℕ} (sets_at.0, sets_at.1 + 32 * step) (handed_at v step which needs_at sets_at))
  unfolding handed_out handed_at pick
  handed_sets e = go (same which 0) refl
    where
      go : (p : Bool) → same which 0 ≡ p → (row 4 step sets ≡ handed_out v step which needs sets) × (◌≡◌ {A = ℕ × ℕ} (sets_at.0, sets_at.1 + 32 * step) (handed_at v step which needs_at sets_at))
      go false q = rw ((answered_ok v e).0, q) (refl, refl)
      go true q = absurd (rows_differ (sym (rw q refl) ∙ (answered_ok v e).1))
