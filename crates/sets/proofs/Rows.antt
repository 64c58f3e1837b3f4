-- Laws of a table's rows as they are written: row i stands in k words from i * k on, so a row written is read back, and no other word changes.
-- A table made of its rows has them by recursion on their number, and is the only one that has them.
use Prim.Native.Nat.{ℕ, zero, suc, ◌+◌, ◌-◌, ◌*◌, ◌≤◌, ◌<◌, min}
use mathlib.Core.Path.{◌≡◌, refl, sym, ap, ap₂, ◌∙◌}
use mathlib.Core.Logic.{inl, inr}
use mathlib.Core.List.{List, ◌++◌, append_assoc}
use native.Mathlib.Nat.{zero-mul, mul-zero, suc-mul, mul-le-mul_right}
use native.Mathlib.Numerals.{add-one}
use native.Mathlib.Omega.{arith}
use lib.Dec.{lit<}
use lib.ListN.{length, get_or, take, drop, set, take-append-drop, length-append, length-take, length-drop, length-set, get_or-eq_default, get_or-append}
use lib.Seq.{take_all, take_at, drop_at, take-append-le, drop-append-le, drop-append-add, drop-drop, take-add, get_or-append-add, get_or-take, get_or-drop, paste, paste-suc}
use Rattle.sets.specs.Sets.{Set}
use Rattle.sets.specs.Words.{has, words_of, row, with_row, table_of, Words}
use Rattle.sets.proofs.Tests.{below_true, below_false, pick_true, pick_false, compare}
use Rattle.sets.proofs.Words.{length_words_of, words_of_fit, words_only, words_of_same, row_whole, row_fit}

-- ---- words of a part, and of two lists, one after the other

take_fit : (n : ℕ) (t : List ℕ) → Words t → Words (take n t)
take_fit n t v j =
    elim (compare j n) [
      | inl l ↦ rw (get_or-take n t j 0 l) (v j)
      | inr l ↦ rw (get_or-eq_default (take n t) 0 {n = j} (omega (arith, length-take n t))) (lit< tt)
    ]

drop_fit : (n : ℕ) (t : List ℕ) → Words t → Words (drop n t)
drop_fit n t v j = rw (get_or-drop n t j 0) (v (n + j))

append_fit : (s t : List ℕ) → Words s → Words t → Words (s ++ t)
append_fit s t u v j =
    elim (compare j (length s)) [
      | inl l ↦ rw (get_or-append s t 0 j l) (u j)
      | inr l ↦
          let e : j ≡ length s + (j - length s) = omega arith in
          rw (e, get_or-append-add s t (j - length s) 0) (v (j - length s))
    ]

-- ---- a row written: the table where the row lies within it, and where it does not

with_row_inside : (k i : ℕ) (w t : List ℕ) → i * k + k ≤ length t → with_row k i w t ≡ take (i * k) t ++ w ++ drop (i * k + k) t
unfolding with_row
with_row_inside k i w t h = pick_false _ _ (below_false (length t) (i * k + k) h)

with_row_outside : (k i : ℕ) (w t : List ℕ) → length t < i * k + k → with_row k i w t ≡ t
unfolding with_row
with_row_outside k i w t h = pick_true _ _ (below_true (length t) (i * k + k) h)

-- the words up to the row's end are as many as before
length_head : (k s : ℕ) (w t : List ℕ) → s + k ≤ length t → length w ≡ k → length (take s t ++ w) ≡ s + k
length_head k s w t h e = length-append (take s t) w ∙ ap₂ (λ (x y : ℕ). x + y) (length-take s t ∙ omega arith) e

-- the table keeps its length
pub length_with_row : (k i : ℕ) (w t : List ℕ) → length w ≡ k → length (with_row k i w t) ≡ length t
length_with_row k i w t e =
    elim (compare (length t) (i * k + k)) [
      | inl l ↦ ap length (with_row_outside k i w t l)
      | inr l ↦
          ap length (with_row_inside k i w t l)
          ∙ length-append (take (i * k) t ++ w) (drop (i * k + k) t)
          ∙ ap₂ (λ (x y : ℕ). x + y) (length_head k (i * k) w t l e) (length-drop (i * k + k) t)
          ∙ omega arith
    ]

-- the row written is read back
pub row_with_row : (k i : ℕ) (w t : List ℕ) → i * k + k ≤ length t → length w ≡ k → row k i (with_row k i w t) ≡ w
unfolding row
row_with_row k i w t h e =
    ap (λ (l : List ℕ). take k (drop (i * k) l)) (with_row_inside k i w t h ∙ append_assoc (take (i * k) t) w (drop (i * k + k) t))
    ∙ ap (take k) (drop_at (take (i * k) t) (w ++ drop (i * k + k) t) (i * k) (length-take (i * k) t ∙ omega arith))
    ∙ take_at w (drop (i * k + k) t) k e

-- the words beyond the row stay
pub with_row_beyond : (k i : ℕ) (w t : List ℕ) (p : ℕ) → length w ≡ k → i * k + k ≤ p → drop p (with_row k i w t) ≡ drop p t
with_row_beyond k i w t p e h =
    elim (compare (length t) (i * k + k)) [
      | inl l ↦ ap (drop p) (with_row_outside k i w t l)
      | inr l ↦
          let q : p ≡ length (take (i * k) t ++ w) + (p - (i * k + k)) = omega (arith, length_head k (i * k) w t l e) in
          let r : i * k + k + (p - (i * k + k)) ≡ p = omega arith in
          ap (drop p) (with_row_inside k i w t l)
          ∙ ap (λ (n : ℕ). drop n (take (i * k) t ++ w ++ drop (i * k + k) t)) q
          ∙ drop-append-add (take (i * k) t ++ w) (drop (i * k + k) t) (p - (i * k + k))
          ∙ drop-drop (p - (i * k + k)) (i * k + k) t
          ∙ ap (λ (n : ℕ). drop n t) r
    ]

-- a row ends before a later one begins
rows_apart : (k i j : ℕ) → i < j → i * k + k ≤ j * k
rows_apart k i j l = omega (arith, suc-mul i k, mul-le-mul_right {m = suc i} {n = j} k (omega arith))

-- a row of the words in front
row_front : (k i : ℕ) (s t : List ℕ) → i * k + k ≤ length s → row k i (s ++ t) ≡ row k i s
unfolding row
row_front k i s t h =
    ap (take k) (drop-append-le (i * k) s t (omega arith)) ∙ take-append-le k (drop (i * k) s) t (omega (arith, length-drop (i * k) s))

-- a row is what the rest of the table begins with
row_rest : (k i : ℕ) (s t : List ℕ) → drop (i * k) s ≡ drop (i * k) t → row k i s ≡ row k i t
unfolding row
row_rest k i s t e = ap (take k) e

-- another row stays
pub row_with_other : (k i j : ℕ) (w t : List ℕ) → length w ≡ k → ¬ (j ≡ i) → row k j (with_row k i w t) ≡ row k j t
row_with_other k i j w t e d =
    elim (compare (length t) (i * k + k)) [
      | inl l ↦ ap (row k j) (with_row_outside k i w t l)
      | inr l ↦ elim (compare j i) [
        | inl b ↦
            let h : j * k + k ≤ length (take (i * k) t) = omega (arith, rows_apart k j i b, length-take (i * k) t) in
            ap (row k j) (with_row_inside k i w t l ∙ append_assoc (take (i * k) t) w (drop (i * k + k) t))
            ∙ row_front k j (take (i * k) t) (w ++ drop (i * k + k) t) h
            ∙ sym (row_front k j (take (i * k) t) (drop (i * k) t) h)
            ∙ ap (row k j) (take-append-drop (i * k) t)
        | inr b ↦ row_rest k j (with_row k i w t) t (with_row_beyond k i w t (j * k) e (rows_apart k i j (omega arith)))
      ]
    ]

-- ---- a table made of its rows

-- it has as many words as its rows have
pub length_table_of : (k n : ℕ) (R : ℕ → Set) → length (table_of k n R) ≡ n * k
unfolding table_of
length_table_of k zero R = sym (zero-mul k)
length_table_of k (suc n) R =
    length-append (table_of k n R) (words_of k (R n))
    ∙ ap₂ (λ (x y : ℕ). x + y) (length_table_of k n R) (length_words_of k (R n))
    ∙ sym (suc-mul n k)

-- each fits a word
pub table_of_fit : (k n : ℕ) (R : ℕ → Set) → Words (table_of k n R)
unfolding table_of
table_of_fit k zero R = λ i. lit< tt
table_of_fit k (suc n) R = append_fit (table_of k n R) (words_of k (R n)) (table_of_fit k n R) (words_of_fit k (R n))

-- the row after as many as s has
row_last : (k i : ℕ) (s w : List ℕ) → length s ≡ i * k → length w ≡ k → row k i (s ++ w) ≡ w
unfolding row
row_last k i s w d e = ap (take k) (drop_at s w (i * k) d) ∙ take_all k w (omega arith)

-- its row i stands for R i
pub row_table_of : (k n : ℕ) (R : ℕ → Set) (i : ℕ) → i < n → row k i (table_of k n R) ≡ words_of k (R i)
unfolding table_of
row_table_of k zero R i l = absurd (omega arith)
row_table_of k (suc n) R i l =
    elim (compare i n) [
      | inl b ↦
          row_front k i (table_of k n R) (words_of k (R n)) (omega (arith, length_table_of k n R, rows_apart k i n b))
          ∙ row_table_of k n R i b
      | inr b ↦
          let e : i ≡ n = omega arith in
          rw e (row_last k n (table_of k n R) (words_of k (R n)) (length_table_of k n R) (length_words_of k (R n)))
    ]

-- tables of the same sets are the same
pub table_of_same : (k n : ℕ) (R S : ℕ → Set) → ((i f : ℕ) → i < n → f < k * 64 → R i f ≡ S i f) → table_of k n R ≡ table_of k n S
unfolding table_of
table_of_same k zero R S h = refl
table_of_same k (suc n) R S h =
    ap₂ (λ (s t : List ℕ). s ++ t) (table_of_same k n R S (λ i f l. h i f (omega arith))) (words_of_same k (R n) (S n) (λ f. h n f (omega arith)))

-- the first n rows of a table that are the words of the sets R 0 .. R (n - 1) are their table
front_of_rows : (k n : ℕ) (ws : List ℕ) (R : ℕ → Set) → ((i : ℕ) → i < n → row k i ws ≡ words_of k (R i)) → take (n * k) ws ≡ table_of k n R
unfolding table_of row
front_of_rows k zero ws R q = ap (λ (m : ℕ). take m ws) (zero-mul k)
front_of_rows k (suc n) ws R q =
    ap (λ (m : ℕ). take m ws) (suc-mul n k)
    ∙ take-add (n * k) k ws
    ∙ ap₂ (λ (s t : List ℕ). s ++ t) (front_of_rows k n ws R (λ i l. q i (omega arith))) (q n (omega arith))

-- so are rows that stand for those sets
pub table_front : (k n : ℕ) (ws : List ℕ) (R : ℕ → Set) → n * k ≤ length ws → Words ws
    → ((i f : ℕ) → i < n → f < k * 64 → has (row k i ws) f ≡ R i f) → take (n * k) ws ≡ table_of k n R
table_front k n ws R h v q =
    front_of_rows k n ws R (λ i l.
    words_only k (row k i ws) (R i) (row_whole k i ws (omega (arith, rows_apart k i n l))) (row_fit k i ws v) (λ f. q i f l))

-- ---- a table whose first n rows are written, and the words that follow them

-- it is one that has those rows and those words
pub table_with_rest : (k n : ℕ) (table rest : List ℕ) (R : ℕ → Set) → ((i : ℕ) → i < n → row k i table ≡ words_of k (R i))
    → drop (n * k) table ≡ rest → table ≡ table_of k n R ++ rest
table_with_rest k n table rest R h e =
    sym (take-append-drop (n * k) table) ∙ ap₂ (λ (s t : List ℕ). s ++ t) (front_of_rows k n table R h) e

-- its rows are read back
pub row_of_written : (k n : ℕ) (R : ℕ → Set) (rest : List ℕ) {table : List ℕ} → table ≡ table_of k n R ++ rest → (i : ℕ) → i < n
    → row k i table ≡ words_of k (R i)
row_of_written k n R rest e i l =
    ap (row k i) e ∙ row_front k i (table_of k n R) rest (omega (arith, length_table_of k n R, rows_apart k i n l)) ∙ row_table_of k n R i l

-- and so are the words that follow
pub rest_of_written : (k n : ℕ) (R : ℕ → Set) (rest : List ℕ) {table : List ℕ} → table ≡ table_of k n R ++ rest → drop (n * k) table ≡ rest
rest_of_written k n R rest e = ap (drop (n * k)) e ∙ drop_at (table_of k n R) rest (n * k) (length_table_of k n R)

-- ---- the loop that writes a row over the words of start from at on, word by word: the first i are written

pub record Overwritten (words start table : List ℕ) (at i : ℕ) : Type 0 where
  pub most : i ≤ length words
  pub long : length table ≡ length start
  pub part : table ≡ paste start at words i

pub overwrite_next : (words start table : List ℕ) (at i : ℕ) → length words ≤ length start - at → i < length words → Overwritten words start table at i
    → Overwritten words start (set table (at + i) (get_or words i 0)) at (i + 1)
overwrite_next words start table at i h l v = record {
  most = omega arith;
  long = length-set table (at + i) (get_or words i 0) ∙ v.long;
  part =
      ap (λ (t : List ℕ). set t (at + i) (get_or words i 0)) v.part
      ∙ paste-suc start at words i 0 (omega arith) l
      ∙ ap (paste start at words) (sym (add-one i));
}

-- where k words are left from at on, the row begins there: at is not only the table's end
begins : (number k n at : ℕ) → at ≡ min (number * k) n → k ≤ n - at → at ≡ number * k
begins number k n at e h =
    elim (compare n (number * k)) [
      | inl l ↦
          let z : k ≡ 0 = omega arith in
          absurd (omega (arith, ap (λ (x : ℕ). number * x) z ∙ mul-zero number))
      | inr l ↦ omega arith
    ]

module _ (words start : List ℕ) (number at : ℕ) (e : at ≡ min (number * length words) (length start)) where
  -- the row lies within the table: the words are copied there, from at on
  pub row_written : (n : ℕ) {copied : List ℕ} → n ≡ length words → copied ≡ words → length words ≤ length start - at
      → take at start ++ (copied ++ drop n (drop at start)) ≡ with_row (length words) number words start
  row_written n size copy h =
      let d : at ≡ number * length words = begins number (length words) (length start) at e h in
      ap₂ (λ (w r : List ℕ). take at start ++ (w ++ r)) copy (ap (λ (n : ℕ). drop n (drop at start)) size ∙ drop-drop (length words) at start)
      ∙ sym (append_assoc (take at start) words (drop (at + length words) start))
      ∙ ap (λ (a : ℕ). take a start ++ words ++ drop (a + length words) start) d
      ∙ sym (with_row_inside (length words) number words start (omega arith))

  -- the row does not lie within the table
  pub no_such_row : length start - at < length words → start ≡ with_row (length words) number words start
  no_such_row h = sym (with_row_outside (length words) number words start (omega arith))
