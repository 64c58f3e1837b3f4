-- A file is judged fine exactly if it is the bytes of records that follow one another as they should, up to an end: by induction on the records.
use Prim.Native.Nat.{ℕ, zero, suc, ◌+◌, ◌≤◌, ◌<◌}
use mathlib.Core.Path.{◌≡◌, refl, sym, ap, ◌∙◌}
use mathlib.Core.Bool.{Bool}
use mathlib.Core.Logic.{◌⊎◌, inl, inr}
use mathlib.Core.List.{List, [], ◌∷◌, ◌++◌}
use native.Mathlib.Omega.{arith}
use lib.ListN.{length, drop, length-drop, drop_of_length-le}
use Rattle.sets.proofs.Tests.{below_true, below_false, below_not, pick_true, pick_false, compare}
use Rattle.std.specs.Prelude.{Option, Some, None, Result, Ok, Err}
use Rattle.task.specs.declared.refusal.Fault.TheVariants.{Misplaced}
use Rattle.task.specs.Refusal.{Refusal, Verdict, answered}
use Rattle.task.proofs.Refusals.{refused_fine}
use Rattle.taskfile.specs.declared.format.Part.{Part}
use Rattle.taskfile.specs.declared.format.Record.TheVariants.{End, Head, Step, Names}
use Rattle.taskfile.specs.declared.cursor.Cursor.{Cursor}
use Rattle.taskfile.specs.Records.{Record, part_byte, size_of, bytes_by, record_bytes, file_bytes, found_at, after_record, records_on, records_in}
use Rattle.taskfile.specs.Judging.{after, record_verdict, went_on, if_fine, found_judged, judged_at, onward, records_verdict}
use Rattle.taskfile.proofs.Records.{size_is}
use Rattle.taskfile.proofs.Refusing.{at_fine, fine_at}
use Rattle.taskfile.proofs.Bytes.{Bytes, Writable, size_some, found_writable, found_bytes, found_record, whole_fits, stands_next}

-- a record that is sound at the cursor
pub record Goes (room : ℕ → Bool) (c : Cursor) (r : Record) : Type 0 where
  pub written : Writable r
  pub fine : record_verdict room c r ≡ Ok tt

-- records from the cursor on, each sound where it stands; an end is the last, and only the last
pub data Follows (room : ℕ → Bool) : Cursor → List Record → Type 0 where
  last : {c : Cursor} → Goes room c End → Follows room c (End ∷ [])
  next : {c : Cursor} {r : Record} {rs : List Record} → ¬ (r ≡ End) → Goes room c r → Follows room (after c r) rs → Follows room c (r ∷ rs)

-- ---- one record

-- the cursor goes on by the record's size
pub after_at : (c : Cursor) (r : Record) → (after c r).at ≡ c.at + size_of r
after_at c End = refl
after_at c (Head n m) = refl
after_at c (Step cost) = refl
after_at c (Names part f) = refl

-- a record that is no end leads on
went_on_lem : (size : ℕ) (c : Cursor) (r : Record) → ¬ (r ≡ End) → went_on size c r ≡ Ok (Some (after c r))
unfolding went_on
went_on_lem size c End h = absurd (h refl)
went_on_lem size c (Head n m) h = refl
went_on_lem size c (Step cost) h = refl
went_on_lem size c (Names part f) h = refl

-- and records may follow it
pub after_record_lem : (rest : List Record) (r : Record) → ¬ (r ≡ End) → after_record rest r ≡ rest
unfolding after_record
after_record_lem rest End h = absurd (h refl)
after_record_lem rest (Head n m) h = refl
after_record_lem rest (Step cost) h = refl
after_record_lem rest (Names part f) h = refl

-- which records are an end
pub no_end_head : {n m : ℕ} → ¬ (◌≡◌ {A = Record} (Head n m) End)
no_end_head e = let z : ◌≡◌ {A = ℕ} 0 1 = cc in omega arith

pub no_end_step : {cost : ℕ} → ¬ (◌≡◌ {A = Record} (Step cost) End)
no_end_step e = let z : ◌≡◌ {A = ℕ} 0 1 = cc in omega arith

pub no_end_fact : {part : Part} {f : ℕ} → ¬ (Names part f ≡ End)
no_end_fact e = let z : ◌≡◌ {A = ℕ} 0 1 = cc in omega arith

is_end : (r : Record) → (r ≡ End) ⊎ ¬ (r ≡ End)
is_end End = inl refl
is_end (Head n m) = inr no_end_head
is_end (Step cost) = inr no_end_step
is_end (Names part f) = inr no_end_fact

module _ (room : ℕ → Bool) (file : List ℕ) where
  -- what is judged where a sound record is found
  judged_whole : (c : Cursor) (r : Record) → found_at file c.at ≡ Ok r → record_verdict room c r ≡ Ok tt → judged_at room file c ≡ went_on (length file) c r
  unfolding judged_at found_judged if_fine
  judged_whole c r found fine =
      let fits = whole_fits file c.at r found in
      let inside : c.at < length file = omega (arith, size_some r) in
      pick_true _ _ (below_true c.at (length file) inside) ∙ rw (found, fine) refl

  module _ (c : Cursor) (r : Record) (rs : List Record) (stands : drop c.at file ≡ file_bytes (r ∷ rs)) where
    -- the rest stands after it
    next_stands : drop (after c r).at file ≡ file_bytes rs
    unfolding file_bytes
    next_stands =
        let place : (after c r).at ≡ c.at + length (record_bytes r) = omega (arith, after_at c r, size_is part_byte r) in
        ap (λ k. drop k file) place ∙ stands_next file c.at (record_bytes r) (file_bytes rs) stands

    next_found : Writable r → found_at file c.at ≡ Ok r
    unfolding file_bytes
    next_found w = found_record file c.at w (file_bytes rs) stands

  -- an end that is the last ends it well
  end_last : (c : Cursor) → drop c.at file ≡ file_bytes (End ∷ []) → went_on (length file) c End ≡ Ok None
  unfolding went_on answered file_bytes bytes_by
  end_last c stands =
      let stop : length file ≤ c.at + 1 = omega (arith, length-drop c.at file, ap length stands) in
      ap (λ v. answered v None) (at_fine (c.at + 1) Misplaced (below_false (c.at + 1) (length file) stop))

  -- ---- records that follow are judged fine, and found

  pub follows_fine : {c : Cursor} {rs : List Record} → Follows room c rs → drop c.at file ≡ file_bytes rs → (k : ℕ) → length rs ≤ k
      → records_verdict room file k c ≡ Ok tt
  unfolding records_verdict onward
  follows_fine (last g) stands zero l = absurd (omega arith)
  follows_fine (last {c} g) stands (suc k) l =
      rw (judged_whole c End (next_found c End [] stands g.written) g.fine, end_last c stands) refl
  follows_fine (next h g fs) stands zero l = absurd (omega arith)
  follows_fine (next {c} {r} {rs} h g fs) stands (suc k) l =
      rw (judged_whole c r (next_found c r rs stands g.written) g.fine, went_on_lem (length file) c r h)
      (follows_fine fs (next_stands c r rs stands) k (omega arith))

  pub follows_found : {c : Cursor} {rs : List Record} → Follows room c rs → drop c.at file ≡ file_bytes rs → (k : ℕ) → length rs ≤ k
      → records_in k file c.at ≡ rs
  unfolding records_in records_on after_record
  follows_found (last g) stands zero l = absurd (omega arith)
  follows_found (last {c} g) stands (suc k) l = rw (next_found c End [] stands g.written) refl
  follows_found (next h g fs) stands zero l = absurd (omega arith)
  follows_found (next {c} {r} {rs} h g fs) stands (suc k) l =
      let rest = follows_found fs (next_stands c r rs stands) k (omega arith) in
      rw (next_found c r rs stands g.written, after_record_lem (records_in k file (c.at + size_of r)) r h, ← after_at c r, rest) refl

  -- ---- what is judged fine is records that follow

  -- where the file is judged fine, a whole record is found, and it is sound
  module _ (c : Cursor) (rest : Cursor → Verdict) where
    fine_record : (v : Verdict) (j : Result (Option Cursor) Refusal) → onward rest (if_fine v j) ≡ Ok tt → v ≡ Ok tt
    unfolding onward if_fine
    fine_record (Ok done) j e = refl
    fine_record (Err r) j e = e

    fine_found : (x : Result Record Refusal) → onward rest (found_judged room (length file) c x) ≡ Ok tt
        → (r : Record) × (x ≡ Ok r) × (record_verdict room c r ≡ Ok tt)
    unfolding onward found_judged
    fine_found (Ok r) e = (r, refl, fine_record (record_verdict room c r) (went_on (length file) c r) e)
    fine_found (Err r) e = refused_fine e

    judged_fine : onward rest (judged_at room file c) ≡ Ok tt → (r : Record) × (found_at file c.at ≡ Ok r) × (record_verdict room c r ≡ Ok tt)
    unfolding judged_at onward
    judged_fine e =
        elim (compare c.at (length file)) [
          | inl l ↦ fine_found (found_at file c.at) (ap (onward rest) (sym (pick_true _ _ (below_true c.at (length file) l))) ∙ e)
          | inr l ↦ refused_fine (ap (onward rest) (sym (pick_false _ _ (below_false c.at (length file) l))) ∙ e)
        ]

  end_fine : (k : ℕ) (v : Verdict) → onward (λ next. records_verdict room file k next) (answered v None) ≡ Ok tt → v ≡ Ok tt
  unfolding onward answered
  end_fine k (Ok done) e = refl
  end_fine k (Err r) e = e

  pub fine_follows : Bytes file → (k : ℕ) (c : Cursor) → records_verdict room file k c ≡ Ok tt
      → (rs : List Record) × Follows room c rs × (drop c.at file ≡ file_bytes rs)
  unfolding records_verdict onward went_on file_bytes
  fine_follows bytes zero c e = refused_fine e
  fine_follows bytes (suc k) c e =
      let sound = judged_fine c (λ d. records_verdict room file k d) e in
      let r = sound.0 in
      let found = sound.1 in
      let fine = sound.2 in
      let goes : Goes room c r = record { written = found_writable file bytes c.at r found; fine = fine } in
      let bytes_here = found_bytes file bytes c.at r found in
      let judged = judged_whole c r found fine in
      elim (is_end r) [
        | inl end ↦
            let stop : length file ≤ c.at + 1 = below_not (c.at + 1) (length file) (fine_at (c.at + 1) Misplaced _ (end_fine k _ (rw (judged, end) at e))) in
            (End ∷ [], last (rw end at goes), (rw end at bytes_here) ∙ ap (λ l. record_bytes End ++ l) (drop_of_length-le file stop))
        | inr on ↦
            let more = fine_follows bytes k (after c r) (rw (judged, went_on_lem (length file) c r on) at e) in
            let stands : drop (c.at + size_of r) file ≡ file_bytes more.0 = ap (λ k. drop k file) (sym (after_at c r)) ∙ more.2 in
            (r ∷ more.0, next on goes more.1, bytes_here ∙ ap (λ l. record_bytes r ++ l) stands)
      ]
