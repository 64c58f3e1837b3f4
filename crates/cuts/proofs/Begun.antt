-- What the rounds begin from: the copied costs, their distances, and the steps that count of the reached set.
use Prim.Native.Nat.{ℕ}
use mathlib.Core.Path.{◌≡◌, refl, sym, ap, ◌∙◌}
use mathlib.Core.List.{List}
use native.Mathlib.Omega.{arith}
use lib.ListN.{length}
use Rattle.sets.specs.Tests.{pick}
use Rattle.sets.specs.Sets.{none}
use Rattle.sets.specs.Words.{has, words_of, row}
use Rattle.sets.proofs.Words.{has_made, words_of_same, none_read}
use Rattle.task.specs.Limits.{limits}
use Rattle.task.specs.Rows.{rows_task}
use Rattle.task.specs.Tables.{Tables, view}
use Rattle.task.specs.Checked.{Checked}
use Rattle.task.proofs.RowsRead.{start_read}
use Rattle.reach.specs.Reach.{reach}
use Rattle.distance.specs.Distance.{list_of, entry}
use Rattle.distance.specs.Relaxing.{LargestStill}
use Rattle.distance.proofs.Relaxing.{begun_distances}
use Rattle.cuts.specs.Workers.{counted_from}
use Rattle.cuts.specs.Making.{Settled}
use Rattle.cuts.proofs.Joining.{counted_joined}
use Rattle.cuts.proofs.OneRound.{plain_distances}

module _ {t : Tables} (valid : Checked t) where
  -- the steps that count, from the words of what is within reach
  pub counted_begun : {reached counts : List ℕ} → reached ≡ words_of 4 (reach (view t)) → counts ≡ words_of 16 (counted_from (view t) (has reached))
      → counts ≡ words_of 16 (counted_from (view t) (reach (view t)))
  counted_begun {reached} reached_is counted =
      counted
      ∙ words_of_same 16 _ _
      (λ s l. counted_joined (view t) valid.few_facts valid.needs_facts (has reached) (λ f k. has_made 4 reached _ reached_is f (omega (arith, valid.few_facts))) s
      ∙ sym (counted_joined (view t) valid.few_facts valid.needs_facts (reach (view t)) (λ f k. refl) s))

  -- the distances under the task's costs
  pub settled_begun : {first off left table₁ table₂ : List ℕ} {size : ℕ} → size ≡ t.facts → first ≡ words_of 4 (has (row 4 0 t.start)) → off ≡ words_of 16 none
      → left ≡ t.costs → table₁ ≡ list_of size (λ f. pick (has first f) 0 limits.mark)
      → LargestStill (rows_task (length table₁) (length left) t.needs t.sets (has off) none) (entry left) table₁ table₂ → Settled (view t) left table₂
  settled_begun {left = left} {table₁ = table₁} {table₂ = table₂} long read all_on copied begun settled =
      begun_distances t.steps t.needs t.sets none (entry left) limits.mark t.facts (has t.start) table₁ table₂
      (rw (long, start_read t valid read) at begun)
      (rw (none_read 16 all_on, ap length copied ∙ valid.costs_length) at settled)
      ∙ sym (plain_distances t valid (entry left) limits.mark)
