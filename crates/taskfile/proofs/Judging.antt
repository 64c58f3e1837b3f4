-- The judge goes from record to record: each turn the verdict on the file is the verdict on what is left, and every record has a byte.
use Prim.Native.Nat.{ℕ, zero, suc, ◌+◌, ◌-◌, ◌<◌, ◌≤◌}
use mathlib.Core.Path.{◌≡◌, refl, sym, ap, ◌∙◌}
use mathlib.Core.Bool.{Bool}
use mathlib.Core.Logic.{inl, inr}
use mathlib.Core.List.{List}
use native.Mathlib.Omega.{arith}
use lib.ListN.{length, get_or}
use Rattle.std.specs.Prelude.{Option, Some, None, Result, Ok, Err}
use Rattle.sets.proofs.Tests.{below_true, below_false, pick_true, pick_false, compare}
use Rattle.task.specs.declared.refusal.Fault.TheVariants.{RecordKind, CutOff, Misplaced, FileLength}
use Rattle.task.specs.Refusal.{Refusal, Verdict, refusal, answered}
use Rattle.taskfile.specs.declared.cursor.Cursor.{Cursor}
use Rattle.taskfile.specs.declared.format.Record.TheVariants.{End, Head, Step, Names}
use Rattle.taskfile.specs.declared.kind.Kind.{Kind}
use Rattle.taskfile.specs.Records.{Record, longest_file, size_of, kind_of, body_length, found_at}
use Rattle.taskfile.specs.Judging.{refused_at, begin, record_verdict, went_on, if_fine, found_judged, judged_at, onward, records_verdict, file_verdict}
use Rattle.taskfile.proofs.Records.{no_ok, kind_past, found_unknown, found_broken}
use Rattle.taskfile.proofs.Bytes.{whole_fits}
use Rattle.taskfile.proofs.Refusing.{at_refused, or_stay}

-- ---- one record

module _ (room : ℕ → Bool) (file : List ℕ) (c : Cursor) where
  pub judged_past : length file ≤ c.at → Err (refusal CutOff (length file)) ≡ judged_at room file c
  unfolding judged_at
  judged_past h = sym (pick_false _ _ (below_false _ _ h))

  module _ (inside : c.at < length file) {found : Result Record Refusal} (told : found ≡ found_at file c.at) where
    judged_found : judged_at room file c ≡ found_judged room (length file) c found
    unfolding judged_at
    judged_found = pick_true _ _ (below_true _ _ inside) ∙ ap (found_judged room (length file) c) (sym told)

    -- what is no record there is the refusal of the file
    pub judged_none : {r : Refusal} → found ≡ Err r → Err r ≡ judged_at room file c
    unfolding found_judged
    judged_none e = sym (judged_found ∙ ap (found_judged room (length file) c) e)

    module _ {r : Record} (is : found ≡ Ok r) {v : Verdict} (judged : v ≡ record_verdict room c r) where
      judged_whole : judged_at room file c ≡ if_fine v (went_on (length file) c r)
      unfolding found_judged
      judged_whole = judged_found ∙ ap (found_judged room (length file) c) is ∙ ap (λ x. if_fine x (went_on (length file) c r)) (sym judged)

      pub judged_refused : {refused : Refusal} → v ≡ Err refused → Err refused ≡ judged_at room file c
      unfolding if_fine
      judged_refused e = sym (judged_whole ∙ ap (λ x. if_fine x (went_on (length file) c r)) e)

      pub judged_fine : v ≡ Ok tt → {j : Result (Option Cursor) Refusal} → j ≡ went_on (length file) c r → j ≡ judged_at room file c
      unfolding if_fine
      judged_fine e went = went ∙ sym (judged_whole ∙ ap (λ x. if_fine x (went_on (length file) c r)) e)

    -- what going on asks
    pub goes_within : {r : Record} → found ≡ Ok r → c.at + size_of r ≤ length file
    goes_within is = whole_fits file c.at _ (sym told ∙ is)

  -- a byte that no kind has is 11 there
  pub judged_unknown : c.at < length file → 8 ≤ get_or file c.at 0 → Err (refusal RecordKind c.at) ≡ judged_at room file c
  judged_unknown inside past = judged_none inside refl (found_unknown file c.at (kind_past (get_or file c.at 0) past))

  -- a record that the file ends inside of is 12 there
  pub judged_broken : c.at < length file → {kind : Kind} → kind_of (get_or file c.at 0) ≡ Ok kind → length file < suc c.at + body_length kind
      → Err (refusal CutOff c.at) ≡ judged_at room file c
  judged_broken inside known short = judged_none inside refl (found_broken file c.at known short)

-- ---- from record to record

on_at : {c next : Cursor} → ◌≡◌ {A = Result (Option Cursor) Refusal} (Ok (Some c)) (Ok (Some next)) → c.at ≡ next.at
on_at e = cc

-- a record that is gone past has at least a byte
went_further : (size : ℕ) (c next : Cursor) (r : Record) → went_on size c r ≡ Ok (Some next) → c.at < next.at
unfolding went_on answered
went_further size c next End e = from (refused_at (c.at + 1) _ Misplaced) e
  where
    from : (v : Verdict) → answered v None ≡ Ok (Some next) → c.at < next.at
    from (Ok done) e = let z : ◌≡◌ {A = ℕ} 0 1 = cc in absurd (omega arith)
    from (Err r) e = no_ok e
went_further size c next (Head n m) e = let at : c.at + 5 ≡ next.at = on_at e in omega arith
went_further size c next (Step cost) e = let at : c.at + 5 ≡ next.at = on_at e in omega arith
went_further size c next (Names part f) e = let at : c.at + 3 ≡ next.at = on_at e in omega arith

fine_further : (size : ℕ) (c next : Cursor) (r : Record) (v : Verdict) → if_fine v (went_on size c r) ≡ Ok (Some next) → c.at < next.at
unfolding if_fine
fine_further size c next r (Ok done) e = went_further size c next r e
fine_further size c next r (Err refused) e = no_ok e

found_further : (room : ℕ → Bool) (size : ℕ) (c next : Cursor) (found : Result Record Refusal) → found_judged room size c found ≡ Ok (Some next) → c.at < next.at
unfolding found_judged
found_further room size c next (Ok r) e = fine_further size c next r (record_verdict room c r) e
found_further room size c next (Err refused) e = no_ok e

module _ (room : ℕ → Bool) (file : List ℕ) where
  -- one record more
  records_next : (k : ℕ) (c : Cursor) → {j : Result (Option Cursor) Refusal} → judged_at room file c ≡ j
      → records_verdict room file (suc k) c ≡ onward (λ next. records_verdict room file k next) j
  unfolding records_verdict
  records_next k c e = ap (onward (λ next. records_verdict room file k next)) e

  records_none : (c : Cursor) → records_verdict room file 0 c ≡ Err (refusal CutOff (length file))
  unfolding records_verdict
  records_none c = refl

  -- one goes on within the file only
  on_within : (c : Cursor) {next : Cursor} → judged_at room file c ≡ Ok (Some next) → c.at < length file
  on_within c e = elim (compare c.at (length file)) [ inl l ↦ l | inr l ↦ no_ok (judged_past room file c l ∙ e) ]

  pub on_further : (c : Cursor) {next : Cursor} → judged_at room file c ≡ Ok (Some next) → c.at < next.at
  on_further c {next} e = found_further room (length file) c next (found_at file c.at) (sym (judged_found room file c (on_within c e) refl) ∙ e)

  -- enough records are left to count, and the verdict on the file is the verdict on what is left
  pub record Going (c : Cursor) : Type 0 where
    pub left : ℕ
    pub enough : length file < c.at + left
    pub same_verdict : records_verdict room file left c ≡ records_verdict room file (length file + 1) begin

  pub going_start : {c : Cursor} → c ≡ begin → Going c
  going_start {c} e = record { left = length file + 1; enough = omega arith; same_verdict = ap (records_verdict room file (length file + 1)) e }

  module _ (c : Cursor) (g : Going c) {j : Result (Option Cursor) Refusal} (told : j ≡ judged_at room file c) where
    pub going_on : {next : Cursor} → j ≡ Ok (Some next) → Going next
    unfolding onward
    going_on {next} is = from g.left g.enough g.same_verdict
      where
        inside : c.at < length file
        inside = on_within c (sym told ∙ is)

        from : (k : ℕ) → length file < c.at + k → records_verdict room file k c ≡ records_verdict room file (length file + 1) begin → Going next
        from zero h e = absurd (omega (arith, h, inside))
        from (suc k) h e = record {
          left = k;
          enough = omega (arith, h, on_further c (sym told ∙ is));
          same_verdict = sym (records_next k c (sym told ∙ is)) ∙ e;
        }

    pub going_less : {next : Cursor} → j ≡ Ok (Some next) → length file - next.at < length file - c.at
    going_less is = omega (arith, on_further c (sym told ∙ is), on_within c (sym told ∙ is))

    pub going_end : j ≡ Ok None → Ok tt ≡ records_verdict room file (length file + 1) begin
    unfolding onward
    going_end is = from g.left g.enough ∙ g.same_verdict
      where
        from : (k : ℕ) → length file < c.at + k → Ok tt ≡ records_verdict room file k c
        from zero h = no_ok (judged_past room file c (omega (arith, h)) ∙ sym told ∙ is)
        from (suc k) h = sym (records_next k c (sym told ∙ is))

    pub going_over : {r : Refusal} → j ≡ Err r → Err r ≡ records_verdict room file (length file + 1) begin
    unfolding onward
    going_over {r} is = from g.left g.enough ∙ g.same_verdict
      where
        from : (k : ℕ) → length file < c.at + k → Err r ≡ records_verdict room file k c
        from zero h =
            let past = judged_past room file c (omega (arith, h)) ∙ sym told ∙ is in
            let same_refusal : r ≡ refusal CutOff (length file) = cc in ap Err same_refusal ∙ sym (records_none c)
        from (suc k) h = sym (records_next k c (sym told ∙ is))

  -- 16 before the records
  pub file_long : longest_file < length file → Err (refusal FileLength longest_file) ≡ file_verdict room file
  unfolding file_verdict
  file_long h = sym (or_stay _ (sym (at_refused longest_file FileLength (below_true _ _ h))))
