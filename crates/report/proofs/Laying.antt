-- A text written from the beginning on is laid over the buffer: each byte takes the place of one, up to the buffer's end.
use Prim.Native.Nat.{ℕ, suc, ◌+◌, ◌-◌, ◌≤◌, min}
use mathlib.Core.Path.{◌≡◌, refl, sym, ap, ap₂, ◌∙◌}
use mathlib.Core.List.{List, [], ◌∷◌, ◌++◌, append_assoc}
use native.Mathlib.Nat.{zero-min, min-zero, suc-min-suc, min-le_right, sub-add-min_cancel}
use native.Mathlib.Omega.{arith}
use lib.ListN.{length, take, drop, length-append, length-take, length-drop}
use lib.Seq.{length-take-le, take-nil, drop-drop, append_snoc, set-append_seam}
use borrow.Rule.Slice.PartMut.{put_mid}
use Rattle.std.proofs.lemmas.List.{take-append-drop, take_min, drop_min}
use Rattle.std.proofs.lemmas.Slice.{take-put_mid, drop-put_mid}
use Rattle.sets.proofs.Tests.{below_true, below_false, pick_true, pick_false}
use Rattle.report.specs.declared.text.Page.{Page as Lent}
use Rattle.report.specs.Writing.{held, Writes}
use Rattle.report.specs.Page.{Page, page, putting, written, laid, Counts}

-- past the end nothing is written
full_page : (text bytes : List ℕ) (at : ℕ) → length bytes ≤ at → written text (page bytes at) ≡ page bytes at
unfolding written putting
full_page [] bytes at full = refl
full_page (b ∷ text) bytes at full = rw (below_false at (length bytes) full, pick_false _ (page bytes at) refl) (full_page text bytes at full)

-- the first byte, behind a front of the buffer
first_laid : (b x : ℕ) (front rest : List ℕ) → putting b (page (front ++ x ∷ rest) (length front)) ≡ page (front ++ b ∷ [] ++ rest) (length (front ++ b ∷ []))
unfolding putting
first_laid b x front rest =
    pick_true _ _ (below_true (length front) (length (front ++ x ∷ rest)) (omega (arith, length-append front (x ∷ rest))))
    ∙ ap (λ (l : List ℕ). page l (length front + 1)) (set-append_seam front x rest b ∙ sym (append_snoc front b rest))
    ∙ ap (page (front ++ b ∷ [] ++ rest)) (omega (arith, length-append front (b ∷ [])))

laid_behind : (text front rest : List ℕ)
    → written text (page (front ++ rest) (length front)) ≡ page (front ++ laid text rest) (length front + min (length text) (length rest))
unfolding written laid
laid_behind [] front rest = rw (take-nil (length rest), zero-min (length rest)) (ap (page (front ++ rest)) (omega arith))
laid_behind (b ∷ text) front [] =
    full_page (b ∷ text) (front ++ []) (length front) (omega (arith, length-append front []))
    ∙ ap (page (front ++ [])) (omega (arith, min-zero (suc (length text))))
laid_behind (b ∷ text) front (x ∷ rest) =
    ap (written text) (first_laid b x front rest) ∙ laid_behind text (front ++ b ∷ []) rest
    ∙ ap (λ (l : List ℕ). page l (length (front ++ b ∷ []) + min (length text) (length rest))) (append_snoc front b (laid text rest))
    ∙ ap (page (front ++ b ∷ laid text rest))
    (omega (arith, length-append front (b ∷ []), suc-min-suc (length text) (length rest)))

-- as much of a text as there is room for, put in place of the bytes from the position on
pub text_put : (text bytes part : List ℕ) (at count size : ℕ) → at ≤ length bytes → count ≡ min (length text) (length bytes - at) → size ≡ count → part ≡ take count text
    → page (put_mid at size bytes part) (at + count) ≡ written text (page bytes at)
unfolding laid
text_put text bytes part at count size within long same made =
    let rest = drop at bytes in
    let room : length rest ≡ length bytes - at = length-drop at bytes in
    let few : length part ≡ count = ap length made ∙ length-take count text ∙ omega arith in
    let put : put_mid at size bytes part ≡ (take at bytes ++ part) ++ drop (at + count) bytes =
    sym (take-append-drop (at + count) (put_mid at size bytes part))
    ∙ ap₂ ◌++◌ (take-put_mid at size bytes part (at + count) (omega arith) within) (drop-put_mid at size bytes part (at + count) (omega arith) within (omega arith)) in
    let first : part ≡ take (length rest) text = made ∙ ap (λ (n : ℕ). take n text) (omega arith) ∙ take_min (length rest) text in
    let last : drop (at + count) bytes ≡ drop (length text) rest = sym (drop-drop count at bytes) ∙ ap (λ (n : ℕ). drop n rest) (omega arith) ∙ drop_min (length text) rest in
    let all = rw (take-append-drop at bytes, length-take-le at bytes within) at (laid_behind text (take at bytes) rest) in
    ap (λ (l : List ℕ). page l (at + count)) (put ∙ ap₂ (λ (a b : List ℕ). (take at bytes ++ a) ++ b) first last ∙ append_assoc (take at bytes) (take (length rest) text) (drop (length text) rest))
    ∙ ap (page (take at bytes ++ (take (length rest) text ++ drop (length text) rest))) (omega arith) ∙ sym all

laid_room : (text before : List ℕ) → length (laid text before) ≡ length before
unfolding laid
laid_room text before =
    omega (
      arith,
      length-append (take (length before) text) (drop (length text) before),
      length-take (length before) text,
      length-drop (length text) before,
      sub-add-min_cancel (length before) (length text),
    )

-- what `report` answers, and leaves in the buffer
pub laid_answer : (told before after : List ℕ) (p q : Lent) → held p ≡ page before 0 → Writes told p q → after ≡ q.out.now
    → record { text : after ≡ laid told before; answer : q.at ≡ min (length told) (length before); count : Counts q.at after }
laid_answer told before after p q start put kept =
    let all : held q ≡ page (laid told before) (0 + min (length told) (length before)) = put.wrote ∙ ap (written told) start ∙ laid_behind told [] before in
    let bytes : after ≡ laid told before = kept ∙ ap (λ (r : Page). r.bytes) all in
    let count : q.at ≡ min (length told) (length before) = ap (λ (r : Page). r.at) all ∙ omega arith in
    let within : q.at ≤ length after = rw (bytes, laid_room told before, count) (min-le_right (length told) (length before)) in
    record { text = bytes; answer = count; count = (within, sym (length-take-le q.at after within)) }
