-- Laws of sets as lists of words, of any length: a word's bits are laws of Bits, and number f stands in word f / 64 as bit f % 64.
use Prim.Native.Nat.{ℕ, zero, suc, ◌+◌, ◌-◌, ◌*◌, ◌/◌, ◌%◌, ◌^◌, ◌≤◌, ◌<◌, min}
use mathlib.Core.Path.{◌≡◌, refl, sym, ap, ap₂, ◌∙◌, subst, fun_ext}
use mathlib.Core.Bool.{Bool, false}
use mathlib.Core.Logic.{inl, inr}
use mathlib.Core.List.{List, [], ◌∷◌}
use native.Mathlib.Nat.{zero-mul, mod-eq_of_lt, div-eq_of_lt, add-div_left, add-mod_left}
use native.Mathlib.Numerals.{add-one}
use native.Mathlib.Omega.{arith}
use mir.Syntax.{w64}
use mir.Val.{Fits}
use lib.Dec.{lit<}
use lib.Arith.{digits_div, digits_mod}
use lib.Count.{ones}
use lib.ListN.{length, get_or, take, drop, length-take, length-drop, get_or-eq_default}
use lib.Seq.{take_all, ext_get_or, get_or-take, get_or-drop}
use Rattle.std.specs.Prelude.{map}
use Rattle.std.specs.List.{sum, sum_by, slice_range}
use Rattle.std.proofs.lemmas.List.{drop_min}
use Rattle.std.proofs.lemmas.List.Sums.{sum-map, sum_by_more}
use Rattle.sets.specs.Tests.{Is, both, below}
use Rattle.sets.specs.Sets.{Set, none, within, count}
use Rattle.sets.specs.Words.{bit, has, word_of, words_of, row, Words}
use Rattle.sets.proofs.Tests.{not_is, fails, not_both_ways, both_r, below_true, below_false, below_iff, compare}
use Rattle.sets.proofs.Sets.{within_same, count_same, count_add}
use Rattle.sets.proofs.OneWord.{bit_of_zero, word_ext, bit_word_of, word_of_lt, ones_count}

-- ---- a set's members, word by word

-- word i, bit j
pub has_at : (ws : List ℕ) (i j : ℕ) → j < 64 → has ws (i * 64 + j) ≡ bit (get_or ws i 0) j
unfolding has
has_at ws i j l = ap₂ (λ (x y : ℕ). bit (get_or ws x 0) y) (digits_div i l) (digits_mod i l)

-- number f stands in word i
pub has_in : (ws : List ℕ) (i f : ℕ) → f / 64 ≡ i → has ws f ≡ bit (get_or ws i 0) (f % 64)
unfolding has
has_in ws i f e = ap (λ (x : ℕ). bit (get_or ws x 0) (f % 64)) e

-- the words' members: those of the first word, and 64 further on those of the words after it
pub has_first : (w : ℕ) (ws : List ℕ) (f : ℕ) → f < 64 → has (w ∷ ws) f ≡ bit w f
unfolding has
has_first w ws f l = ap₂ (λ (x y : ℕ). bit (get_or (w ∷ ws) x 0) y) (div-eq_of_lt l) (mod-eq_of_lt l)

pub has_next : (w : ℕ) (ws : List ℕ) (f : ℕ) → has (w ∷ ws) (64 + f) ≡ has ws f
unfolding has
has_next w ws f = ap₂ (λ (x y : ℕ). bit (get_or (w ∷ ws) x 0) y) (add-div_left f (lit< tt) ∙ add-one (f / 64)) (add-mod_left 64 f)

-- past the last word there is no member
pub has_past : (ws : List ℕ) (f : ℕ) → length ws * 64 ≤ f → has ws f ≡ false
unfolding has
has_past ws f h = ap (λ (x : ℕ). bit x (f % 64)) (get_or-eq_default ws 0 {n = f / 64} (omega arith)) ∙ bit_of_zero (f % 64)

pub has_lt : (ws : List ℕ) (f : ℕ) → Is (has ws f) → f < length ws * 64
has_lt ws f h = elim (compare f (length ws * 64)) [ inl l ↦ l | inr g ↦ not_both_ways h (has_past ws f g) ]

-- as many words with the same members are the same words
pub set_ext : (a b : List ℕ) → length a ≡ length b → Words a → Words b → ((f : ℕ) → f < length a * 64 → has a f ≡ has b f) → a ≡ b
set_ext a b e wa wb h =
    ext_get_or 0 a b e (λ i l. word_ext 64 (get_or a i 0) (get_or b i 0) (wa i) (wb i)
    (λ j lj. sym (has_at a i j lj) ∙ h (i * 64 + j) (omega arith) ∙ has_at b i j lj))

-- ---- the words of a set

pub length_words_of : (k : ℕ) (X : Set) → length (words_of k X) ≡ k
unfolding words_of
length_words_of zero X = refl
length_words_of (suc k) X = ap suc (length_words_of k (λ f. X (64 + f)))

pub words_of_fit : (k : ℕ) (X : Set) → Words (words_of k X)
unfolding words_of
words_of_fit zero X i = lit< tt
words_of_fit (suc k) X zero = word_of_lt 64 X
words_of_fit (suc k) X (suc i) = words_of_fit k (λ f. X (64 + f)) i

-- the k words of X have its members below k * 64
pub has_words_of : (k : ℕ) (X : Set) (f : ℕ) → has (words_of k X) f ≡ both (below f (k * 64)) (X f)
unfolding words_of both
has_words_of zero X f = has_past [] f (omega arith) ∙ ap (λ (p : Bool). both p (X f)) (sym (below_false f (0 * 64) (omega arith)))
has_words_of (suc k) X f =
    elim (compare f 64) [
      | inl l ↦
          has_first (word_of 64 X) (words_of k (λ g. X (64 + g))) f l ∙ bit_word_of 64 X f
          ∙ ap (λ (p : Bool). both p (X f)) (below_iff f 64 f (suc k * 64) (λ _. omega arith) (λ _. l))
      | inr l ↦
          let e : 64 + (f - 64) ≡ f = omega arith in
          subst (λ (g : ℕ). has (word_of 64 X ∷ words_of k (λ g. X (64 + g))) g ≡ both (below g (suc k * 64)) (X g)) e
          (has_next (word_of 64 X) (words_of k (λ g. X (64 + g))) (f - 64)
          ∙ has_words_of k (λ g. X (64 + g)) (f - 64)
          ∙ ap (λ (p : Bool). both p (X (64 + (f - 64))))
          (below_iff (f - 64) (k * 64) (64 + (f - 64)) (suc k * 64) (λ b. omega arith) (λ b. omega arith)))
    ]

pub has_of : (k : ℕ) (X : Set) (f : ℕ) → f < k * 64 → has (words_of k X) f ≡ X f
unfolding both
has_of k X f l = has_words_of k X f ∙ ap (λ (p : Bool). both p (X f)) (below_true f (k * 64) l)

pub has_of_past : (k : ℕ) (X : Set) (f : ℕ) → k * 64 ≤ f → has (words_of k X) f ≡ false
unfolding both
has_of_past k X f l = has_words_of k X f ∙ ap (λ (p : Bool). both p (X f)) (below_false f (k * 64) l)

-- k words with the members of X are its words
pub words_only : (k : ℕ) (ws : List ℕ) (X : Set) → length ws ≡ k → Words ws → ((f : ℕ) → f < k * 64 → has ws f ≡ X f) → ws ≡ words_of k X
words_only k ws X e w h =
    set_ext ws (words_of k X) (e ∙ sym (length_words_of k X)) w (words_of_fit k X)
    (λ f l. let b : f < k * 64 = omega arith in h f b ∙ sym (has_of k X f b))

pub words_of_same : (k : ℕ) (X Y : Set) → ((f : ℕ) → f < k * 64 → X f ≡ Y f) → words_of k X ≡ words_of k Y
words_of_same k X Y h = words_only k (words_of k X) Y (length_words_of k X) (words_of_fit k X) (λ f l. has_of k X f l ∙ h f l)

-- what a contract `ws ≡ words_of k X` says of one number
pub has_made : (k : ℕ) (ws : List ℕ) (X : Set) → ws ≡ words_of k X → (f : ℕ) → f < k * 64 → has ws f ≡ X f
has_made k ws X e f l = ap (λ (l : List ℕ). has l f) e ∙ has_of k X f l

pub made_has : (k : ℕ) (ws : List ℕ) (X : Set) → ws ≡ words_of k X → (f : ℕ) → Is (has ws f) → Is (X f)
made_has k ws X e f h = both_r (below f (k * 64)) (X f) (sym (has_words_of k X f) ∙ ap (λ (l : List ℕ). has l f) (sym e) ∙ h)

-- words made of a set are those of their own members
pub whole_made : (k : ℕ) (ws : List ℕ) (X : Set) → ws ≡ words_of k X → ws ≡ words_of k (has ws)
whole_made k ws X e = e ∙ words_of_same k X (has ws) (λ f l. sym (has_made k ws X e f l))

-- words made of a set that has no member past them have its members and no others
pub set_made : (k : ℕ) (ws : List ℕ) (X : Set) → ws ≡ words_of k X → ((f : ℕ) → Is (X f) → f < k * 64) → has ws ≡ X
set_made k ws X e only =
    fun_ext (λ f. elim (compare f (k * 64)) [
      | inl l ↦ has_made k ws X e f l
      | inr l ↦ ap (λ (l : List ℕ). has l f) e ∙ has_of_past k X f l ∙ sym (fails (X f) (λ h. omega (arith, only f h)))
    ])

pub none_read : (k : ℕ) {ws : List ℕ} → ws ≡ words_of k none → has ws ≡ none
unfolding none
none_read k {ws} e = set_made k ws none e (λ f h. not_is h)

-- a question asked of words is asked of the sets that they were made of
pub within_made : (k : ℕ) (a b : List ℕ) (X Y : Set) → a ≡ words_of k X → b ≡ words_of k Y → within (k * 64) (has a) (has b) ≡ within (k * 64) X Y
within_made k a b X Y d e = within_same (k * 64) (has a) (has b) X Y (has_made k a X d) (has_made k b Y e)

pub within_made_l : (k : ℕ) (a : List ℕ) (X Y : Set) → a ≡ words_of k X → within (k * 64) (has a) Y ≡ within (k * 64) X Y
within_made_l k a X Y d = within_same (k * 64) (has a) Y X Y (has_made k a X d) (λ f l. refl)

-- words are those of their own members
pub own_words : (k : ℕ) (ws : List ℕ) → length ws ≡ k → ((i : ℕ) → Fits w64 (get_or ws i 0)) → ws ≡ words_of k (has ws)
own_words k ws e w = words_only k ws (has ws) e (λ i. (w i).fits) (λ f l. refl)

-- ---- the rows of a table

pub row_whole : (k i : ℕ) (t : List ℕ) → i * k + k ≤ length t → length (row k i t) ≡ k
unfolding row
row_whole k i t h = simp (length-take, length-drop) (omega arith)

pub row_most : (k i : ℕ) (t : List ℕ) → length (row k i t) ≤ k
unfolding row
row_most k i t = simp (length-take, length-drop) (omega arith)

-- a whole row, copied from where it starts in the table
pub row_copied : (k i at : ℕ) (t whole ws : List ℕ) → at ≡ min (i * k) (length t) → whole ≡ slice_range (take (length t - at) (drop at t)) 0 k → ws ≡ whole
    → length ws ≡ k → ((j : ℕ) → Fits w64 (get_or ws j 0)) → ws ≡ words_of k (has (row k i t))
unfolding row
row_copied k i at t whole ws e part same long fit = own_words k ws long fit ∙ ap (λ (r : List ℕ). words_of k (has r)) (same ∙ part ∙ from_at)
  where
    first : (xs : List ℕ) → slice_range xs 0 k ≡ take k xs
    first xs = let same : k - 0 ≡ k = omega arith in ap (λ (n : ℕ). take n xs) same

    from_at : slice_range (take (length t - at) (drop at t)) 0 k ≡ take k (drop (i * k) t)
    from_at =
        first (take (length t - at) (drop at t)) ∙ ap (take k) (take_all (length t - at) (drop at t) (omega (arith, length-drop at t)))
        ∙ ap (λ (n : ℕ). take k (drop n t)) e ∙ ap (take k) (drop_min (i * k) t)

-- a row's words are the table's
pub row_word : (k i : ℕ) (t : List ℕ) (j : ℕ) → j < k → get_or (row k i t) j 0 ≡ get_or t (i * k + j) 0
unfolding row
row_word k i t j l = get_or-take k (drop (i * k) t) j 0 l ∙ get_or-drop (i * k) t j 0

pub has_row : (k i : ℕ) (t : List ℕ) (f : ℕ) → f < k * 64 → has (row k i t) f ≡ has t (i * k * 64 + f)
unfolding has
has_row k i t f l =
    ap₂ bit (row_word k i t (f / 64) (omega arith) ∙ ap (λ (x : ℕ). get_or t x 0) (quotient (i * k))) (remainder (i * k))
  where
    quotient : (b : ℕ) → b + f / 64 ≡ (b * 64 + f) / 64
    quotient b = omega arith

    remainder : (b : ℕ) → f % 64 ≡ (b * 64 + f) % 64
    remainder b = omega arith

-- a member of a row stands below k * 64
pub row_lt : (k i : ℕ) (t : List ℕ) (f : ℕ) → Is (has (row k i t) f) → f < k * 64
row_lt k i t f h = omega (arith, has_lt (row k i t) f h, row_most k i t)

-- a row that was read is the row
pub row_read : (k i : ℕ) (t : List ℕ) {read : List ℕ} → read ≡ words_of k (has (row k i t)) → has read ≡ has (row k i t)
row_read k i t {read} e = set_made k read _ e (row_lt k i t)

-- a table of k words is its one row
pub set_read : (k : ℕ) (ws : List ℕ) {read : List ℕ} → length ws ≡ k → read ≡ words_of k (has (row k 0 ws)) → has read ≡ has ws
unfolding row
set_read k ws size e =
    row_read k 0 ws e ∙ ap has (ap (λ (m : ℕ). take k (drop m ws)) (zero-mul k) ∙ take_all k ws (omega arith))

pub row_fit : (k i : ℕ) (t : List ℕ) → Words t → Words (row k i t)
row_fit k i t w j =
    elim (compare j k) [
      | inl l ↦ rw (row_word k i t j l) (w (i * k + j))
      | inr l ↦ rw (get_or-eq_default (row k i t) 0 {n = j} (omega (arith, row_most k i t))) (lit< tt)
    ]

-- ---- one word more

-- the members among the first i + 1 words are those among the first i, and the ones of word i
pub count_words : (ws : List ℕ) (i : ℕ) → get_or ws i 0 < 2 ^ 64 → count ((i + 1) * 64) (has ws) ≡ count (i * 64) (has ws) + ones (get_or ws i 0)
count_words ws i l =
    ap (λ (n : ℕ). count n (has ws)) next
    ∙ count_add (i * 64) 64 (has ws)
    ∙ ap (λ (n : ℕ). count (i * 64) (has ws) + n)
    (count_same 64 (λ f. has ws (i * 64 + f)) (bit (get_or ws i 0)) (λ f b. has_at ws i f b)
    ∙ sym (ones_count (get_or ws i 0) 64) ∙ ap ones (mod-eq_of_lt l))
  where
    next : (i + 1) * 64 ≡ i * 64 + 64
    next = omega arith

-- so the members of words are as many as their ones
pub count_ones : (ws : List ℕ) → ((i : ℕ) → Fits w64 (get_or ws i 0)) → sum (map ones ws) ≡ count (length ws * 64) (has ws)
unfolding count
count_ones ws fits = sum-map ones ws ∙ ap (sum_by ones) (sym (take_all (length ws) ws (omega arith))) ∙ first (length ws) (omega arith)
  where
    first : (i : ℕ) → i ≤ length ws → sum_by ones (take i ws) ≡ count (i * 64) (has ws)
    first zero h = refl
    first (suc i) h =
        rw (sym (add-one i))
        (sum_by_more ones ws i 0 h ∙ ap (λ (n : ℕ). n + ones (get_or ws i 0)) (first i (omega arith)) ∙ sym (count_words ws i (fits i).fits))
