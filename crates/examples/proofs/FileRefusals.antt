-- A file that is refused is refused with one of the reader's numbers, at a place within the file; 16 is given to those that are too long, and to no others.
use Prim.Native.Nat.{ℕ, ◌≤◌}
use mathlib.Core.Path.{◌≡◌, refl, sym, ◌∙◌}
use mathlib.Core.Bool.{Bool}
use mathlib.Core.List.{List}
use mathlib.Core.Logic.{◌⊎◌, inl, inr}
use native.Mathlib.Omega.{arith}
use lib.ListN.{length}
use Rattle.std.specs.Prelude.{Contains, Ok, Err}
use Rattle.sets.specs.Tests.{below}
use Rattle.sets.proofs.Tests.{tell, below_at, below_not}
use Rattle.task.specs.declared.refusal.Fault.{Fault}
use Rattle.task.specs.declared.refusal.Fault.TheVariants.{FileLength}
use Rattle.task.specs.Refusal.{Refusal, Verdict, number_of, refusal}
use Rattle.task.proofs.Refusals.{refused_fine}
use Rattle.taskfile.specs.Records.{longest_file}
use Rattle.taskfile.specs.Judging.{begin, file_verdict}
use Rattle.taskfile.proofs.Places.{Given, OfRecords, records_given, file_given, file_too_long, file_by_records}
use Rattle.examples.specs.Refusals.{file_numbers, FileJudged}

-- the reader's numbers
abbrev Told : Fault → Type 0
Told f = Contains file_numbers (number_of f)

told : OfRecords Told
told = record {
  p1 = (0, omega arith, refl);
  p2 = (1, omega arith, refl);
  p5 = (2, omega arith, refl);
  p6 = (3, omega arith, refl);
  p11 = (4, omega arith, refl);
  p12 = (5, omega arith, refl);
  p13 = (6, omega arith, refl);
  p14 = (7, omega arith, refl);
  p15 = (8, omega arith, refl);
}

-- none of a record's is 16
other : OfRecords (λ f. ¬ (number_of f ≡ 16))
other = record {
  p1 = λ e. omega (arith, e);
  p2 = λ e. omega (arith, e);
  p5 = λ e. omega (arith, e);
  p6 = λ e. omega (arith, e);
  p11 = λ e. omega (arith, e);
  p12 = λ e. omega (arith, e);
  p13 = λ e. omega (arith, e);
  p14 = λ e. omega (arith, e);
  p15 = λ e. omega (arith, e);
}

given_ends : (most : ℕ) (v : Verdict) → Given Told most v
    → (v ≡ Ok tt) ⊎ ((r : Refusal) × Contains file_numbers (number_of r.fault) × (r.place ≤ most) × (v ≡ Err r))
given_ends most (Ok done) h = inl refl
given_ends most (Err r) h = inr (r, h.0, h.1, refl)

never_16 : {A : Type 0} (most place : ℕ) (v : Verdict) → Given (λ f. ¬ (number_of f ≡ 16)) most v → v ≡ Err (refusal FileLength place) → A
never_16 most place (Ok done) h e = refused_fine (sym e)
never_16 most place (Err r) h e = absurd (h.0 cc)

pub file_judged : (room : ℕ → Bool) (file : List ℕ) → FileJudged file (file_verdict room file)
file_judged room file = record {
  ends = given_ends (length file) _ (file_given Told told (9, omega arith, refl) room file);
  long =
      elim (tell (below longest_file (length file))) [
        | inl h ↦ ((λ e. below_at longest_file (length file) h), (λ l. file_too_long room file h))
        | inr h ↦ (
          (λ e. never_16 (length file) _ _ (records_given (λ f. ¬ (number_of f ≡ 16)) other room file _ begin) (sym (file_by_records room file h) ∙ e)),
          (λ l. absurd (omega (arith, l, below_not longest_file (length file) h))),
        )
      ];
}
