-- A record's size is the number of its bytes, and its kind fixes what stands after it: by cases.
use Prim.Native.Nat.{ℕ, zero, suc, ◌+◌, ◌-◌, ◌*◌, ◌<◌, ◌≤◌}
use mathlib.Core.Path.{◌≡◌, refl, sym, ap, ap₂, ◌∙◌}
use mathlib.Core.Logic.{inl, inr}
use mathlib.Core.List.{List}
use native.Mathlib.Omega.{arith}
use lib.ListN.{length, get_or, take, drop, get_or-eq_default, length-drop}
use lib.Seq.{get_or-drop, take_all}
use mathlib.Core.Bool.{false}
use borrow.Author.Tests.{ne_eqb}
use Rattle.std.proofs.Common.{nat_eq}
use Rattle.std.specs.Option.{ok_or}
use Rattle.std.specs.Prelude.{Option, Some, None, Result, Ok, Err}
use Rattle.sets.proofs.Tests.{below_true, below_false, pick_true, pick_false, compare}
use Rattle.task.specs.Refusal.{Refusal, refusal}
use Rattle.task.specs.declared.refusal.Fault.TheVariants.{RecordKind, CutOff}
use Rattle.taskfile.specs.declared.format.Record as declared
use Rattle.taskfile.specs.declared.format.Record.TheVariants.{End, Head, Step, Names}
use Rattle.taskfile.specs.declared.format.Part.TheVariants.{Start, Goal, Needs, Sets, Clears}
use Rattle.taskfile.specs.declared.kind.Kind.{Kind}
use Rattle.taskfile.specs.declared.kind.Kind.TheVariants as kinds
use Rattle.taskfile.specs.declared.kind.UnknownKind.{UnknownKind}
use Rattle.taskfile.specs.Records.{Record, part_byte, little_endian, bytes_by, size_of, number_at, kind_of, body_length, record_of, found_as, found_at}
use Rattle.taskfile.specs.Workers.{body_at}

-- whatever byte stands for what a fact is named for
pub size_is : {P : Type 0} (kind : P → ℕ) (r : declared.Record P) → length (bytes_by kind r) ≡ size_of r
unfolding bytes_by little_endian
size_is kind End = refl
size_is kind (Head n m) = refl
size_is kind (Step cost) = refl
size_is kind (Names what f) = refl

-- what is refused is not found
pub no_ok : {A X E : Type 0} {e : E} {x : X} → ◌≡◌ {A = Result X E} (Err e) (Ok x) → A
no_ok {A} e = let z : ◌≡◌ {A = ℕ} 0 1 = cc in absurd (omega arith)

-- ---- kinds and their bytes

abbrev pub kind_byte : Kind → ℕ
kind_byte kinds.End = 0
kind_byte kinds.Head = 1
kind_byte kinds.Step = 4
kind_byte (kinds.Names part) = part_byte part

pub kind_of_byte : (kind : Kind) → kind_of (kind_byte kind) ≡ Ok kind
kind_of_byte kinds.End = refl
kind_of_byte kinds.Head = refl
kind_of_byte kinds.Step = refl
kind_of_byte (kinds.Names Start) = refl
kind_of_byte (kinds.Names Goal) = refl
kind_of_byte (kinds.Names Needs) = refl
kind_of_byte (kinds.Names Sets) = refl
kind_of_byte (kinds.Names Clears) = refl

-- no kind has a byte of 8 or more
pub kind_past : (byte : ℕ) → 8 ≤ byte → kind_of byte ≡ Err (record { 0 = byte })
kind_past byte h =
    let other : (k : ℕ) → k < 8 → nat_eq byte k ≡ false = λ k l. ne_eqb byte k (λ e. omega arith) in
    rw (other 0 (omega arith), other 1 (omega arith), other 2 (omega arith), other 3 (omega arith), other 4 (omega arith), other 5 (omega arith), other 6 (omega arith), other 7 (omega arith))

-- a byte is that of its kind
pub byte_is : (byte : ℕ) (kind : Kind) → kind_of byte ≡ Ok kind → byte ≡ kind_byte kind
byte_is zero kind e = let is : kind ≡ kinds.End = cc in rw is
byte_is (suc zero) kind e = let is : kind ≡ kinds.Head = cc in rw is
byte_is (suc (suc zero)) kind e = let is : kind ≡ kinds.Names Start = cc in rw is
byte_is (suc (suc (suc zero))) kind e = let is : kind ≡ kinds.Names Goal = cc in rw is
byte_is (suc (suc (suc (suc zero)))) kind e = let is : kind ≡ kinds.Step = cc in rw is
byte_is (suc (suc (suc (suc (suc zero))))) kind e = let is : kind ≡ kinds.Names Needs = cc in rw is
byte_is (suc (suc (suc (suc (suc (suc zero)))))) kind e = let is : kind ≡ kinds.Names Sets = cc in rw is
byte_is (suc (suc (suc (suc (suc (suc (suc zero))))))) kind e = let is : kind ≡ kinds.Names Clears = cc in rw is
byte_is (suc (suc (suc (suc (suc (suc (suc (suc byte)))))))) kind e =
    no_ok (sym (kind_past (suc (suc (suc (suc (suc (suc (suc (suc byte)))))))) (omega arith)) ∙ e)

-- ---- numbers

-- a number stands where it stands in what follows
number_after : (k : ℕ) (file : List ℕ) (at n : ℕ) → number_at k (drop at file) n ≡ number_at k file (at + n)
unfolding number_at
number_after zero file at n = refl
number_after (suc k) file at n =
    ap₂ (λ (low high : ℕ). low + 256 * high) (get_or-drop at file n 0) (number_after k file at (suc n) ∙ ap (number_at k file) (omega arith))

record_after : (kind : Kind) (file : List ℕ) (at : ℕ) → record_of kind (drop at file) 0 ≡ record_of kind file at
unfolding record_of
record_after kinds.End file at = refl
record_after kinds.Head file at =
    ap₂ Head (number_after 2 file at 0 ∙ ap (number_at 2 file) (omega arith)) (number_after 2 file at 2)
record_after kinds.Step file at = ap Step (number_after 4 file at 0 ∙ ap (number_at 4 file) (omega arith))
record_after (kinds.Names part) file at = ap (Names part) (number_after 2 file at 0 ∙ ap (number_at 2 file) (omega arith))

-- ---- a body

module _ (kind : Kind) (bytes : List ℕ) where
  pub body_short : length bytes < body_length kind → body_at kind bytes ≡ None
  unfolding body_at
  body_short h = pick_true _ _ (below_true _ _ h)

  pub body_full : body_length kind ≤ length bytes → body_at kind bytes ≡ Some (record_of kind bytes 0)
  unfolding body_at
  body_full h = pick_false _ _ (below_false _ _ h)

-- ---- what stands at an offset whose byte is the kind

module _ (file : List ℕ) (at : ℕ) where
  pub found_unknown : {unknown : UnknownKind} → kind_of (get_or file at 0) ≡ Err unknown → found_at file at ≡ Err (refusal RecordKind at)
  unfolding found_at found_as
  found_unknown k = ap (found_as file at) k

  module _ {kind : Kind} (k : kind_of (get_or file at 0) ≡ Ok kind) where
    pub found_broken : length file < suc at + body_length kind → found_at file at ≡ Err (refusal CutOff at)
    unfolding found_at found_as
    found_broken h = ap (found_as file at) k ∙ pick_true _ _ (below_true _ _ h)

    pub found_whole : suc at + body_length kind ≤ length file → found_at file at ≡ Ok (record_of kind file (suc at))
    unfolding found_at found_as
    found_whole h = ap (found_as file at) k ∙ pick_false _ _ (below_false _ _ h)

  -- past the end of the file a byte is 0, and no record whole
  pub found_past : length file ≤ at → found_at file at ≡ Err (refusal CutOff at)
  unfolding body_length
  found_past h = let none : get_or file at 0 ≡ 0 = get_or-eq_default file 0 h in found_broken (ap kind_of none) (omega arith)

  -- the record that begins what follows the kind, or 12
  pub found_body : {kind : Kind} {body : Option Record} {cut : Refusal} {found : Result Record Refusal} → at < length file → Ok kind ≡ kind_of (get_or file at 0)
      → body ≡ body_at kind (take (length file - (at + 1)) (drop (at + 1) file)) → cut ≡ refusal CutOff at → found ≡ ok_or body cut
      → found ≡ found_at file at
  found_body {kind} {body} {cut} inside named is cut_is answer =
      let rest : length (drop (at + 1) file) ≡ length file - (at + 1) = length-drop (at + 1) file in
      let all : body ≡ body_at kind (drop (at + 1) file) = is ∙ ap (body_at kind) (take_all (length file - (at + 1)) (drop (at + 1) file) (omega arith)) in
      elim (compare (length file) (suc at + body_length kind)) [
        | inl l ↦
            let none : body ≡ None = all ∙ body_short kind (drop (at + 1) file) (omega arith) in
            answer ∙ ap₂ ok_or none cut_is ∙ sym (found_broken (sym named) l)
        | inr l ↦
            let some : body ≡ Some (record_of kind file (suc at)) =
            all ∙ body_full kind (drop (at + 1) file) (omega arith) ∙ ap Some (record_after kind file (at + 1) ∙ ap (record_of kind file) (omega arith)) in
            answer ∙ ap (λ o. ok_or o cut) some ∙ sym (found_whole (sym named) l)
      ]
