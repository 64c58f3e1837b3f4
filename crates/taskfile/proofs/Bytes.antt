-- A record's bytes are found again and a record found has its bytes: a number below 256 ^ k is its k bytes, and the kind fixes how many follow.
use Prim.Native.Nat.{ℕ, zero, suc, ◌+◌, ◌*◌, ◌/◌, ◌%◌, ◌^◌, ◌≤◌, ◌<◌}
use mathlib.Core.Path.{◌≡◌, refl, sym, ap, ap₂, ◌∙◌}
use mathlib.Core.Logic.{inl, inr}
use mathlib.Core.List.{List, [], ◌∷◌, ◌++◌, append_assoc}
use native.Mathlib.Nat.{add-zero, pow-suc}
use native.Mathlib.Numerals.{add-one}
use native.Mathlib.Omega.{arith}
use lib.ListN.{length, get_or, take, drop, take-append-drop, length-append, length-drop}
use lib.Seq.{drop-cons, drop-drop, take-add, get_or-drop}
use Rattle.std.specs.Prelude.{Result, Ok, Err}
use Rattle.sets.proofs.Tests.{compare}
use Rattle.taskfile.specs.declared.format.Part.{Part}
use Rattle.taskfile.specs.declared.format.Record.TheVariants.{End, Head, Step, Names}
use Rattle.taskfile.specs.declared.kind.Kind.{Kind}
use Rattle.taskfile.specs.declared.kind.Kind.TheVariants as kinds
use Rattle.taskfile.specs.declared.kind.UnknownKind.{UnknownKind}
use Rattle.taskfile.specs.Records.{Record, part_byte, little_endian, bytes_by, record_bytes, size_of, number_at, kind_of, body_length, record_of, found_at}
use Rattle.taskfile.proofs.Records.{no_ok, size_is, kind_byte, kind_of_byte, byte_is, found_unknown, found_broken, found_whole}

-- each entry is a byte
abbrev pub Bytes : List ℕ → Type 0
Bytes file = (i : ℕ) → get_or file i 0 < 256

-- ---- what stands at an offset of a list

module _ (file : List ℕ) (at : ℕ) {b : ℕ} {rest : List ℕ} (stands : drop at file ≡ b ∷ rest) where
  first_is : get_or file at 0 ≡ b
  first_is = ap (λ k. get_or file k 0) (sym (add-zero at)) ∙ sym (get_or-drop at file 0 0) ∙ ap (λ l. get_or l 0 0) stands

  rest_is : drop (suc at) file ≡ rest
  rest_is = ap (λ k. drop k file) (sym (add-one at)) ∙ sym (drop-drop 1 at file) ∙ ap (drop 1) stands

-- what follows the bytes that stand there
pub stands_next : (file : List ℕ) (at : ℕ) (front rest : List ℕ) → drop at file ≡ front ++ rest → drop (at + length front) file ≡ rest
stands_next file at [] rest e = ap (λ k. drop k file) (add-zero at) ∙ e
stands_next file at (b ∷ front) rest e =
    let place : at + suc (length front) ≡ suc at + length front = omega arith in
    ap (λ k. drop k file) place ∙ stands_next file (suc at) front rest (rest_is file at e)

-- they lie within the list
pub stands_within : (file : List ℕ) (at : ℕ) (front rest : List ℕ) → 0 < length front → drop at file ≡ front ++ rest → at + length front ≤ length file
stands_within file at front rest some e = omega (arith, sym (length-drop at file) ∙ ap length e ∙ length-append front rest)

-- ---- numbers

-- the number that is written in k bytes is read back
pub number_read : (k x : ℕ) (file : List ℕ) (at : ℕ) (rest : List ℕ) → x < 256 ^ k → drop at file ≡ little_endian k x ++ rest → number_at k file at ≡ x
unfolding number_at little_endian
number_read zero x file at rest l e = omega arith
number_read (suc k) x file at rest l e =
    let low = first_is file at e in
    let high = number_read k (x / 256) file (suc at) rest (omega (arith, pow-suc 256 k)) (rest_is file at e) in
    omega arith

-- the bytes that a number was read from are those that it is written in
pub bytes_read : (k : ℕ) (file : List ℕ) (at : ℕ) → Bytes file → at + k ≤ length file → little_endian k (number_at k file at) ≡ take k (drop at file)
unfolding number_at little_endian
bytes_read zero file at b h = refl
bytes_read (suc k) file at b h =
    let byte = b at in
    let rest = bytes_read k file (suc at) b (omega arith) in
    let low : (get_or file at 0 + 256 * number_at k file (suc at)) % 256 ≡ get_or file at 0 = omega arith in
    let high : (get_or file at 0 + 256 * number_at k file (suc at)) / 256 ≡ number_at k file (suc at) = omega arith in
    rw (low, high, rest, drop-cons file at 0 (omega arith)) refl

pub number_fits : (k : ℕ) (file : List ℕ) (at : ℕ) → Bytes file → number_at k file at < 256 ^ k
unfolding number_at
number_fits zero file at b = omega arith
number_fits (suc k) file at b = omega (arith, b at, number_fits k file (suc at) b, pow-suc 256 k)

-- ---- records

-- the records whose bytes stand for them: those with numbers in the range of their fields
pub data Writable : Record → Type 0 where
  end_writable : Writable End
  head_writable : {n m : ℕ} → n < 65536 → m < 65536 → Writable (Head n m)
  step_writable : {cost : ℕ} → cost < 4294967296 → Writable (Step cost)
  fact_writable : {part : Part} {f : ℕ} → f < 65536 → Writable (Names part f)

size_of_kind : (kind : Kind) (file : List ℕ) (at : ℕ) → size_of (record_of kind file at) ≡ suc (body_length kind)
unfolding record_of body_length
size_of_kind kinds.End file at = refl
size_of_kind kinds.Head file at = refl
size_of_kind kinds.Step file at = refl
size_of_kind (kinds.Names part) file at = refl

-- every record has some bytes
pub size_some : (r : Record) → 0 < size_of r
size_some End = omega arith
size_some (Head n m) = omega arith
size_some (Step cost) = omega arith
size_some (Names part f) = omega arith

-- ---- a record found

-- what is known where a whole record is found
pub record WholeAt (file : List ℕ) (at : ℕ) (r : Record) : Type 0 where
  pub kind : Kind
  pub known : kind_of (get_or file at 0) ≡ Ok kind
  pub room : suc at + body_length kind ≤ length file
  pub is : r ≡ record_of kind file (suc at)

pub whole_at : (file : List ℕ) (at : ℕ) (r : Record) → found_at file at ≡ Ok r → WholeAt file at r
whole_at file at r e = from (kind_of (get_or file at 0)) refl
  where
    from : (k : Result Kind UnknownKind) → kind_of (get_or file at 0) ≡ k → WholeAt file at r
    from (Ok kind) known =
        elim (compare (length file) (suc at + body_length kind)) [
          | inl l ↦ no_ok (sym (found_broken file at known l) ∙ e)
          | inr l ↦ let whole = found_whole file at known l in record { kind = kind; known = known; room = l; is = cc }
        ]
    from (Err byte) unknown = no_ok (sym (found_unknown file at unknown) ∙ e)

-- it has the size that its kind fixes
whole_size : (file : List ℕ) (at : ℕ) (r : Record) (w : WholeAt file at r) → size_of r ≡ suc (body_length w.kind)
whole_size file at r w = ap size_of w.is ∙ size_of_kind w.kind file (suc at)

-- it lies within the file
pub whole_fits : (file : List ℕ) (at : ℕ) (r : Record) → found_at file at ≡ Ok r → at + size_of r ≤ length file
whole_fits file at r e =
    let w = whole_at file at r e in
    omega (arith, w.room, whole_size file at r w)

module _ (file : List ℕ) (bytes : Bytes file) where
  kind_writable : (kind : Kind) (at : ℕ) → Writable (record_of kind file at)
  unfolding record_of
  kind_writable kinds.End at = end_writable
  kind_writable kinds.Head at = head_writable (number_fits 2 file at bytes) (number_fits 2 file (at + 2) bytes)
  kind_writable kinds.Step at = step_writable (number_fits 4 file at bytes)
  kind_writable (kinds.Names part) at = fact_writable (number_fits 2 file at bytes)

  -- its numbers are in range
  pub found_writable : (at : ℕ) (r : Record) → found_at file at ≡ Ok r → Writable r
  found_writable at r e = let w = whole_at file at r e in rw w.is (kind_writable w.kind (suc at))

  -- its body, with the kind before it
  bytes_of_kind : (kind : Kind) (at : ℕ) → at + body_length kind ≤ length file
      → record_bytes (record_of kind file at) ≡ kind_byte kind ∷ take (body_length kind) (drop at file)
  unfolding bytes_by record_of body_length
  bytes_of_kind kinds.End at h = refl
  bytes_of_kind kinds.Head at h =
      rw (bytes_read 2 file at bytes (omega arith), bytes_read 2 file (at + 2) bytes (omega arith), ← drop-drop 2 at file)
      (ap (λ l. 1 ∷ l) (sym (take-add 2 2 (drop at file))))
  bytes_of_kind kinds.Step at h = ap (λ l. 4 ∷ l) (bytes_read 4 file at bytes h)
  bytes_of_kind (kinds.Names part) at h = ap (λ l. part_byte part ∷ l) (bytes_read 2 file at bytes h)

  -- its bytes stand there
  pub found_bytes : (at : ℕ) (r : Record) → found_at file at ≡ Ok r → drop at file ≡ record_bytes r ++ drop (at + size_of r) file
  found_bytes at r e =
      let w = whole_at file at r e in
      let body = take (body_length w.kind) (drop (suc at) file) in
      let written : record_bytes r ≡ kind_byte w.kind ∷ body = ap record_bytes w.is ∙ bytes_of_kind w.kind (suc at) w.room in
      let beyond : suc at + body_length w.kind ≡ at + size_of r = omega (arith, whole_size file at r w) in
      drop-cons file at 0 (omega (arith, w.room))
      ∙ ap₂ (λ b l. b ∷ l) (byte_is _ w.kind w.known) (sym (take-append-drop (body_length w.kind) (drop (suc at) file)))
      ∙ ap (λ l. kind_byte w.kind ∷ body ++ l) (drop-drop (body_length w.kind) (suc at) file ∙ ap (λ k. drop k file) beyond)
      ∙ ap (λ l. l ++ drop (at + size_of r) file) (sym written)

-- ---- a record written

-- a record whose bytes stand at an offset is found there
module _ (file : List ℕ) (at : ℕ) where
  found_of : (kind : Kind) (r : Record) (rest : List ℕ) → drop at file ≡ record_bytes r ++ rest → get_or file at 0 ≡ kind_byte kind
      → record_of kind file (suc at) ≡ r → found_at file at ≡ Ok r
  found_of kind r rest e first is =
      let long = size_is part_byte r in
      let size : size_of r ≡ suc (body_length kind) = ap size_of (sym is) ∙ size_of_kind kind file (suc at) in
      found_whole file at (ap kind_of first ∙ kind_of_byte kind)
      (omega (arith, stands_within file at (record_bytes r) rest (omega arith) e)) ∙ ap Ok is

  pub found_record : {r : Record} → Writable r → (rest : List ℕ) → drop at file ≡ record_bytes r ++ rest → found_at file at ≡ Ok r
  unfolding bytes_by little_endian record_of
  found_record end_writable rest e = found_of kinds.End End rest e (first_is file at e) refl
  found_record (head_writable {n} {m} a b) rest e =
      let body : drop (suc at) file ≡ little_endian 2 n ++ (little_endian 2 m ++ rest) = rest_is file at e ∙ append_assoc (little_endian 2 n) (little_endian 2 m) rest in
      let second : drop (suc at + 2) file ≡ little_endian 2 m ++ rest = stands_next file (suc at) (little_endian 2 n) (little_endian 2 m ++ rest) body in
      found_of kinds.Head (Head n m) rest e (first_is file at e)
      (ap₂ Head (number_read 2 n file (suc at) _ a body) (number_read 2 m file (suc at + 2) rest b second))
  found_record (step_writable {cost} a) rest e =
      found_of kinds.Step (Step cost) rest e (first_is file at e) (ap Step (number_read 4 cost file (suc at) rest a (rest_is file at e)))
  found_record (fact_writable {part} {f} a) rest e =
      found_of (kinds.Names part) (Names part f) rest e (first_is file at e) (ap (Names part) (number_read 2 f file (suc at) rest a (rest_is file at e)))
