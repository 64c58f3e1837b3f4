-- The records from an offset on: the record that stands there, and those from past it on. A record has a byte at least, so as many records as the file has
-- bytes are all of them.
use Prim.Native.Nat.{ℕ, zero, suc, ◌+◌, ◌≤◌}
use mathlib.Core.Path.{◌≡◌, refl, sym, ap, ◌∙◌}
use mathlib.Core.List.{List, [], ◌∷◌}
use native.Mathlib.Omega.{arith}
use lib.ListN.{length}
use Rattle.std.specs.Prelude.{Some, None, Result, Ok, Err}
use Rattle.std.specs.Result.{result_ok}
use Rattle.task.specs.Refusal.{Refusal}
use Rattle.taskfile.specs.declared.format.Part.{Part}
use Rattle.taskfile.specs.declared.format.Record.TheVariants.{End, Head, Step, Names}
use Rattle.taskfile.specs.Records.{Record, size_of, found_at, after_record, records_on, records_in}
use Rattle.taskfile.specs.Meaning.{first_namings, blocks_in}
use Rattle.taskfile.specs.Workers.{records_from, namings_from, blocks_from, sizes_of}
use Rattle.taskfile.proofs.Records.{no_ok, found_past}
use Rattle.taskfile.proofs.Bytes.{size_some, whole_fits}
use Rattle.taskfile.proofs.Following.{after_record_lem}

-- ---- as many as there may be are all of them

on_same : (rest other : ℕ → List Record) (at : ℕ) (x : Result Record Refusal) → ((r : Record) → rest (at + size_of r) ≡ other (at + size_of r))
    → records_on rest at x ≡ records_on other at x
unfolding records_on
on_same rest other at (Ok r) h = ap (λ (l : List Record). r ∷ after_record l r) (h r)
on_same rest other at (Err refusal) h = refl

enough : (file : List ℕ) (k j at : ℕ) → length file ≤ at + k → length file ≤ at + j → records_in k file at ≡ records_in j file at
unfolding records_in records_on
enough file zero zero at h g = refl
enough file zero (suc j) at h g = sym (ap (records_on (λ next. records_in j file next) at) (found_past file at (omega arith)))
enough file (suc k) zero at h g = ap (records_on (λ next. records_in k file next) at) (found_past file at (omega arith))
enough file (suc k) (suc j) at h g =
    on_same (records_in k file) (records_in j file) at (found_at file at)
    (λ r. enough file k j (at + size_of r) (omega (arith, size_some r)) (omega (arith, size_some r)))

-- the records from an offset on, by what stands there
records_found : (file : List ℕ) (at : ℕ) → records_from file at ≡ records_on (λ next. records_from file next) at (found_at file at)
unfolding records_from records_in
records_found file at = enough file (length file) (suc (length file)) at (omega arith) (omega arith)

-- ---- what follows from what stands at an offset

module _ (file : List ℕ) (at : ℕ) where
  -- a record there, and those from past it on
  record_first : (r : Record) → Ok r ≡ found_at file at → records_from file at ≡ r ∷ after_record (records_from file (at + size_of r)) r
  unfolding records_on
  record_first r e = records_found file at ∙ ap (records_on (λ next. records_from file next) at) (sym e)

  -- none where no record is whole
  pub records_none : (x : Result Record Refusal) → x ≡ found_at file at → ((r : Record) → ¬ (x ≡ Ok r)) → records_from file at ≡ []
  unfolding records_on
  records_none (Ok r) e other = absurd (other r refl)
  records_none (Err r) e other = records_found file at ∙ ap (records_on (λ next. records_from file next) at) (sym e)

  pub namings_none : (x : Result Record Refusal) → x ≡ found_at file at → ((r : Record) → ¬ (x ≡ Ok r)) → namings_from file at ≡ []
  unfolding namings_from first_namings
  namings_none x e other = ap first_namings (records_none x e other)

  pub blocks_none : (x : Result Record Refusal) → x ≡ found_at file at → ((r : Record) → ¬ (x ≡ Ok r)) → blocks_from file at ≡ []
  unfolding blocks_from blocks_in
  blocks_none x e other = ap blocks_in (records_none x e other)

  -- the record names no fact
  pub namings_over : (r : Record) → Ok r ≡ found_at file at → ((part : Part) (f : ℕ) → ¬ (r ≡ Names part f)) → namings_from file at ≡ []
  unfolding namings_from first_namings after_record
  namings_over End e other = ap first_namings (record_first _ e)
  namings_over (Head n m) e other = ap first_namings (record_first _ e)
  namings_over (Step cost) e other = ap first_namings (record_first _ e)
  namings_over (Names part f) e other = absurd (other part f refl)

  -- a record that is no end and no step is passed over
  pub blocks_other : (r : Record) → Ok r ≡ found_at file at → ¬ (r ≡ End) → ((cost : ℕ) → ¬ (r ≡ Step cost)) → blocks_from file at ≡ blocks_from file (at + size_of r)
  unfolding blocks_from blocks_in after_record
  blocks_other (Head n m) e no_end no_step = ap blocks_in (record_first _ e)
  blocks_other (Names part f) e no_end no_step = ap blocks_in (record_first _ e)
  blocks_other End e no_end no_step = absurd (no_end refl)
  blocks_other (Step cost) e no_end no_step = absurd (no_step cost refl)

-- the sizes that a head says, and none where no head stands
pub sizes_none : (x : Result Record Refusal) {y : Result Record Refusal} → x ≡ y → ((r : Record) → ¬ (x ≡ Ok r)) → record { facts = 0; steps = 0 } ≡ sizes_of y
unfolding sizes_of
sizes_none (Ok r) e other = absurd (other r refl)
sizes_none (Err r) e other = ap sizes_of e

pub sizes_other : (r : Record) {y : Result Record Refusal} → Ok r ≡ y → ((n m : ℕ) → ¬ (r ≡ Head n m)) → record { facts = 0; steps = 0 } ≡ sizes_of y
unfolding sizes_of
sizes_other End e other = ap sizes_of e
sizes_other (Step cost) e other = ap sizes_of e
sizes_other (Names part f) e other = ap sizes_of e
sizes_other (Head n m) e other = absurd (other n m refl)

-- ---- as the iterator comes to them

module _ (file : List ℕ) (at : ℕ) {found : Result Record Refusal} (told : found ≡ found_at file at) where
  -- none where no record is whole
  pub none_left : result_ok found ≡ None → records_from file at ≡ []
  none_left e = records_none file at found told (from found e)
    where
      from : (x : Result Record Refusal) → result_ok x ≡ None → (r : Record) → ¬ (x ≡ Ok r)
      from (Ok s) o r is = let z : ◌≡◌ {A = ℕ} 0 1 = cc in omega arith
      from (Err refused) o r is = no_ok is

  module _ {r : Record} (is : result_ok found ≡ Some r) where
    whole : Ok r ≡ found_at file at
    whole = sym (from found is) ∙ told
      where
        from : (x : Result Record Refusal) → result_ok x ≡ Some r → x ≡ Ok r
        from (Ok s) o = cc
        from (Err refused) o = let z : ◌≡◌ {A = ℕ} 0 1 = cc in absurd (omega arith)

    pub record_fits : at + size_of r ≤ length file
    record_fits = whole_fits file at r (sym whole)

    -- an end, and nothing from the file's end on
    pub end_next : r ≡ End → {next : ℕ} → next ≡ length file → records_from file at ≡ r ∷ records_from file next
    unfolding after_record
    end_next e {next} n =
        let nothing : records_from file next ≡ [] = records_none file next _ (sym (found_past file next (omega arith))) (λ r. no_ok) in
        record_first file at r whole ∙ ap (λ l. r ∷ l) (ap (after_record (records_from file (at + size_of r))) e ∙ sym nothing)

    -- another record, and those from past it on
    pub other_next : ¬ (r ≡ End) → {size next : ℕ} → size ≡ size_of r → next ≡ at + size → records_from file at ≡ r ∷ records_from file next
    other_next h {size} {next} s n =
        record_first file at r whole ∙ ap (λ l. r ∷ l) (after_record_lem _ r h ∙ ap (records_from file) (ap (λ k. at + k) (sym s) ∙ sym n))
