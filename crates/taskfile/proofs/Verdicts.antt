-- When a record is refused, each by its own law: 6, 13, 14 and 15.
use Prim.Native.Nat.{ℕ, ◌<◌, ◌≤◌}
use mathlib.Core.Path.{◌≡◌, sym, ◌∙◌}
use mathlib.Core.Bool.{Bool, true, not}
use borrow.Author.Tests.{not-true}
use Rattle.std.specs.Prelude.{Ok, Err}
use Rattle.sets.specs.Tests.{below}
use Rattle.sets.proofs.Tests.{either_false, below_true, below_false, below_at, same_false, no_true}
use Rattle.task.specs.declared.refusal.Fault.TheVariants.{FactCount, StepCount, StepCost, ShortResult, Misplaced, RecordFact, StepRecords}
use Rattle.task.specs.Refusal.{refusal, or_else}
use Rattle.task.specs.Check.{wrong_facts, wrong_steps}
use Rattle.task.proofs.Refusals.{fine_first, fine_rest}
use Rattle.taskfile.specs.declared.cursor.Cursor.{Cursor}
use Rattle.taskfile.specs.declared.format.Part.{Part}
use Rattle.taskfile.specs.Records.{Record}
use Rattle.taskfile.specs.declared.format.Record.TheVariants.{End, Head, Step, Names}
use Rattle.taskfile.specs.Judging.{refused_at, facts_of, steps_of, in_place, numbers_verdict, record_verdict}
use Rattle.taskfile.specs.Workers.{CanCount}
use Rattle.taskfile.proofs.Refusing.{at_refused, test_at, refuse_at, skip_at, or_second}

-- 13: a byte after the end
pub byte_after : (size at : ℕ) → at < size → Err (refusal Misplaced at) ≡ refused_at at (below at size) Misplaced
byte_after size at h = at_refused at Misplaced (below_true at size h)

module _ (room : ℕ → Bool) (c : Cursor) where
  -- 13 before the numbers
  pub misplaced : (item : Record) {r : Bool} → r ≡ in_place c item → not r ≡ true → Err (refusal Misplaced c.at) ≡ record_verdict room c item
  unfolding record_verdict or_else refused_at
  misplaced item {r} told h = rw (no_true _ (sym told ∙ not-true r h))

  -- 15: an end before all steps
  pub end_early : ¬ (c.begun ≡ steps_of c) → Err (refusal StepRecords c.at) ≡ numbers_verdict room c End
  unfolding numbers_verdict
  end_early h = at_refused _ StepRecords (no_true _ (same_false _ _ h))

  -- 14: a fact that there is not
  pub fact_past : (part : Part) (f : ℕ) → facts_of c ≤ f → Err (refusal RecordFact c.at) ≡ numbers_verdict room c (Names part f)
  unfolding numbers_verdict
  fact_past part f h = at_refused _ RecordFact (no_true _ (below_false _ _ h))

  -- 15: a step too many
  pub step_extra : (cost : ℕ) → cost ≤ 65535 → steps_of c ≤ c.begun → Err (refusal StepRecords c.at) ≡ numbers_verdict room c (Step cost)
  unfolding numbers_verdict
  step_extra cost cheap h = sym (skip_at _ StepCost _ (below_false _ _ cheap) ∙ refuse_at _ StepRecords _ (no_true _ (below_false _ _ h)))

  -- 6: tables without room for the head's steps
  pub head_crowded : (n m : ℕ) → ¬ (n ≡ 0) → n ≤ 256 → m ≤ 1024 → {r : Bool} → r ≡ room m → not r ≡ true
      → Err (refusal ShortResult c.at) ≡ numbers_verdict room c (Head n m)
  unfolding numbers_verdict wrong_facts wrong_steps
  head_crowded n m some few short {r} told h =
      sym
      (skip_at _ FactCount _ (either_false _ _ (same_false _ _ some) (below_false _ _ few))
      ∙ skip_at _ StepCount _ (below_false _ _ short) ∙ refuse_at _ ShortResult _ (no_true _ (sym told ∙ not-true r h)))

  -- a step that is fine is one of the head's
  pub fine_counts : (item : Record) → record_verdict room c item ≡ Ok tt → CanCount c item
  unfolding record_verdict numbers_verdict
  fine_counts (Step cost) e = below_at _ _ (test_at _ _ _ (fine_first _ _ (fine_rest _ _ (or_second _ _ e))))
  fine_counts (Head n m) e = tt
  fine_counts (Names part f) e = tt
  fine_counts End e = tt
