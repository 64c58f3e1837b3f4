-- Laws of the loops over words: what a turn adds to the loop's invariant, and what the invariant says at the end. Each is by the words' laws at word i.
use Prim.Native.Nat.{ℕ, ◌+◌, ◌-◌, ◌*◌, ◌/◌, ◌%◌, ◌^◌, ◌≤◌, ◌<◌, min}
use mathlib.Core.Path.{◌≡◌, refl, sym, ap, ap₂, ◌∙◌}
use mathlib.Core.Bool.{Bool, false, ◌&&◌}
use mathlib.Core.Logic.{inl, inr}
use mathlib.Core.List.{List}
use native.Mathlib.Nat.{not-suc-le-zero, mod-lt, lt_of_le_of_lt, one-mul}
use native.Mathlib.Omega.{arith}
use borrow.Author.Rules.{rules}
use mir.Syntax.{w64}
use mir.Val.{Fits}
use lib.Dec.{lit<, eqb}
use lib.Pow.{shl_exact}
use lib.Bits.{bit_and, bit_or, and_le_l, or_lt}
use lib.Count.{count_trailing_zeros}
use lib.ListN.{length, get_or, take, drop, set, length-set, length-drop, get_or-eq_default}
use lib.Seq.{take_all, get_or-drop, get_or-set_same, get_or-set_other}
use Rattle.std.specs.Prelude.{Some, None}
use Rattle.sets.specs.Tests.{Is, no, both, either, same}
use Rattle.sets.specs.Sets.{Set, up_to, joined, met, removed, within, lowest_if_any}
use Rattle.sets.specs.Words.{bit, has, words_of, row}
use Rattle.sets.proofs.Tests.{not_both_ways, equal_tests, both_is, same_is, same_at, same_not, both_l, both_r, both_true, no_true, no_false, tell, below_true, below_iff, compare}
use Rattle.sets.proofs.Sets.{some_lowest, no_lowest, within_at, within_true, within_fails}
use Rattle.sets.proofs.OneWord.{bit_of_zero, bit_of_or, bit_of_and, bit_less, bit_mask, trailing}
use Rattle.sets.proofs.Words.{has_at, has_in, words_only, row_word}

-- ---- a loop that writes the words of a set X over those of start, word by word: the first i are written

pub record Written (X : Set) (start words : List ℕ) (i : ℕ) : Type 0 where
  pub long : length words ≡ length start
  pub fit : (k : ℕ) → k < i → get_or words k 0 < 2 ^ 64
  pub done : (f : ℕ) → f < i * 64 → has words f ≡ X f
  pub rest : (k : ℕ) → i ≤ k → get_or words k 0 ≡ get_or start k 0

module _ (X : Set) (start : List ℕ) where
  pub write_start : Written X start start 0
  write_start = record { long = refl; fit = λ k l. absurd (not-suc-le-zero l); done = λ f l. absurd (omega arith); rest = λ k l. refl }

  -- word i is written: its bits are the members of X from i * 64 on
  pub write_next : (words : List ℕ) (i w : ℕ) → i < length words → w < 2 ^ 64 → ((j : ℕ) → j < 64 → bit w j ≡ X (i * 64 + j))
      → Written X start words i → Written X start (set words i w) (i + 1)
  write_next words i w h fits bits v = record {
    long = length-set words i w ∙ v.long;
    fit = λ k l. elim (compare k i) [
      | inl b ↦ rw (get_or-set_other words i k w 0 (λ e. omega arith)) (v.fit k b)
      | inr b ↦ let e : k ≡ i = omega arith in rw (e, get_or-set_same words i w 0 h) fits
    ];
    done = λ f l. elim (compare f (i * 64)) [
      | inl b ↦
          has_in (set words i w) (f / 64) f refl
          ∙ ap (λ (x : ℕ). bit x (f % 64)) (get_or-set_other words i (f / 64) w 0 (λ e. omega arith))
          ∙ sym (has_in words (f / 64) f refl) ∙ v.done f b
      | inr b ↦
          has_in (set words i w) i f (omega arith)
          ∙ ap (λ (x : ℕ). bit x (f % 64)) (get_or-set_same words i w 0 h)
          ∙ bits (f % 64) (omega arith) ∙ ap X (omega arith)
    ];
    rest = λ k l. get_or-set_other words i k w 0 (λ e. omega arith) ∙ v.rest k (omega arith);
  }

  pub write_end : (words : List ℕ) (i : ℕ) → length start ≤ i → Written X start words i → words ≡ words_of (length start) X
  write_end words i h v =
      words_only (length start) words X v.long
      (λ k. elim (compare k i) [
        | inl l ↦ v.fit k l
        | inr l ↦ rw (get_or-eq_default words 0 {n = k} (omega (arith, v.long))) (lit< tt)
      ])
      (λ f l. v.done f (omega (arith, v.long)))

-- ---- two sets, word by word: word i of words, which is still that of start, becomes its join, meet or difference with w, word i of others

module _ (start others words : List ℕ) (i w : ℕ) (e : w ≡ get_or others i 0) where
  own_bit : {X : Set} → Written X start words i → (j : ℕ) → j < 64 → bit (get_or words i 0) j ≡ has start (i * 64 + j)
  own_bit v j l = ap (λ (x : ℕ). bit x j) (v.rest i (omega arith)) ∙ sym (has_at start i j l)

  other_bit : (j : ℕ) → j < 64 → bit w j ≡ has others (i * 64 + j)
  other_bit j l = ap (λ (x : ℕ). bit x j) e ∙ sym (has_at others i j l)

  pub join_next : i < length words → Fits w64 (get_or words i 0) → Fits w64 w → Written (joined (has start) (has others)) start words i
      → Written (joined (has start) (has others)) start (set words i (bit_or (get_or words i 0) w)) (i + 1)
  unfolding joined
  join_next h f g v =
      write_next (joined (has start) (has others)) start words i (bit_or (get_or words i 0) w) h (or_lt 64 (get_or words i 0) w f.fits g.fits)
      (λ j l. bit_of_or (get_or words i 0) w j ∙ ap₂ either (own_bit v j l) (other_bit j l)) v

  pub meet_next : i < length words → Fits w64 (get_or words i 0) → Written (met (has start) (has others)) start words i
      → Written (met (has start) (has others)) start (set words i (bit_and (get_or words i 0) w)) (i + 1)
  unfolding met
  meet_next h f v =
      write_next (met (has start) (has others)) start words i (bit_and (get_or words i 0) w) h (lt_of_le_of_lt (and_le_l (get_or words i 0) w) f.fits)
      (λ j l. bit_of_and (get_or words i 0) w j ∙ ap₂ both (own_bit v j l) (other_bit j l)) v

  pub remove_next : i < length words → Fits w64 (get_or words i 0) → Fits w64 w → Written (removed (has start) (has others)) start words i
      → Written (removed (has start) (has others)) start (set words i (bit_and (get_or words i 0) ((2 ^ 64 - 1) - w))) (i + 1)
  unfolding removed
  remove_next h f g v =
      write_next (removed (has start) (has others)) start words i (bit_and (get_or words i 0) ((2 ^ 64 - 1) - w)) h
      (lt_of_le_of_lt (and_le_l (get_or words i 0) ((2 ^ 64 - 1) - w)) f.fits)
      (λ j l. bit_less (get_or words i 0) w j l g.fits ∙ ap₂ (λ (p q : Bool). both (no p) q) (other_bit j l) (own_bit v j l)) v

-- ---- the numbers below n: a word of ones while 64 or more are left, then one of ones below what is left

-- `1 << k`
pub shifted_one : (k : ℕ) → k < 64 → 1 * 2 ^ k % 2 ^ 64 ≡ 2 ^ k
shifted_one k l = shl_exact 1 k 64 (lit< tt) (omega arith) ∙ one-mul (2 ^ k)

pub fill_full : (n : ℕ) (start words : List ℕ) (i left : ℕ) → i < length words → 64 ≤ left → left ≡ n - i * 64 → Written (up_to n) start words i
    → Written (up_to n) start (set words i (2 ^ 64 - 1)) (i + 1)
unfolding up_to
fill_full n start words i left h g e v =
    write_next (up_to n) start words i (2 ^ 64 - 1) h (lit< tt)
    (λ j l. bit_mask 64 j ∙ below_true j 64 l ∙ sym (below_true (i * 64 + j) n (omega arith))) v

pub fill_part : (n : ℕ) (start words : List ℕ) (i left : ℕ) → i < length words → left < 64 → left ≡ n - i * 64 → Written (up_to n) start words i
    → Written (up_to n) start (set words i (1 * 2 ^ left % 2 ^ 64 - 1)) (i + 1)
unfolding up_to
fill_part n start words i left h g e v =
    rw (shifted_one left g)
    (write_next (up_to n) start words i (2 ^ left - 1) h (omega (arith, pow_lt left g))
    (λ j l. bit_mask left j ∙ below_iff j left (i * 64 + j) n (λ b. omega arith) (λ b. omega arith)) v)
  where
    pow_lt : (k : ℕ) → k < 64 → 2 ^ k < 2 ^ 64
    pow_lt k l = rw (sym (shifted_one k l)) (mod-lt (1 * 2 ^ k) (lit< tt))

-- ---- row number of a table, copied word by word: w is word i of what the table has from at on, where the row starts

pub copy_next : (table start words : List ℕ) (number at i w : ℕ) → at ≡ min (number * length start) (length table)
    → w ≡ get_or (take (length table - at) (drop at table)) i 0 → i < length words → Fits w64 w
    → Written (has (row (length start) number table)) start words i → Written (has (row (length start) number table)) start (set words i w) (i + 1)
copy_next table start words number at i w a e h g v =
    write_next (has (row (length start) number table)) start words i w h g.fits
    (λ j l. ap (λ (x : ℕ). bit x j) (e ∙ from_at ∙ same_word (number * length start) a ∙ sym (row_word (length start) number table i (omega (arith, v.long))))
    ∙ sym (has_at (row (length start) number table) i j l)) v
  where
    from_at : get_or (take (length table - at) (drop at table)) i 0 ≡ get_or table (at + i) 0
    from_at = ap (λ (l : List ℕ). get_or l i 0) (take_all (length table - at) (drop at table) (omega (arith, length-drop at table))) ∙ get_or-drop at table i 0

    -- past the table's end both are 0
    same_word : (s : ℕ) → at ≡ min s (length table) → get_or table (at + i) 0 ≡ get_or table (s + i) 0
    same_word s q =
        elim (compare (length table) s) [
          | inl b ↦ get_or-eq_default table 0 {n = at + i} (omega arith) ∙ sym (get_or-eq_default table 0 {n = s + i} (omega arith))
          | inr b ↦ ap (λ (n : ℕ). get_or table (n + i) 0) (omega arith)
        ]

-- ---- whether every member of a is one of b: those below i * 64 are

module _ (a b : List ℕ) (i w : ℕ) (e : w ≡ get_or b i 0) where
  -- bit j of what a's word i has and b's has not
  left_over : Fits w64 w → (j : ℕ) → j < 64 → bit (bit_and (get_or a i 0) ((2 ^ 64 - 1) - w)) j ≡ both (no (has b (i * 64 + j))) (has a (i * 64 + j))
  left_over g j l =
      bit_less (get_or a i 0) w j l g.fits
      ∙ ap₂ (λ (p q : Bool). both (no p) q) (ap (λ (x : ℕ). bit x j) e ∙ sym (has_at b i j l)) (sym (has_at a i j l))

  pub within_next : Fits w64 w → bit_and (get_or a i 0) ((2 ^ 64 - 1) - w) ≡ 0 → Is (within (i * 64) (has a) (has b))
      → Is (within ((i + 1) * 64) (has a) (has b))
  within_next g z v = within_true ((i + 1) * 64) (has a) (has b) (λ f l x. elim (compare f (i * 64)) [
    | inl k ↦ within_at (i * 64) (has a) (has b) v f k x
    | inr k ↦
        let s : i * 64 + f % 64 ≡ f = omega arith in
        rw s at (covered (f % 64) (omega arith) (ap (has a) s ∙ x))
  ])
    where
      covered : (j : ℕ) → j < 64 → Is (has a (i * 64 + j)) → Is (has b (i * 64 + j))
      covered j l x =
          elim (tell (has b (i * 64 + j))) [
            | inl y ↦ y
            | inr y ↦ not_both_ways (left_over g j l ∙ both_true _ _ (no_true _ y) x) (ap (λ (n : ℕ). bit n j) z ∙ bit_of_zero j)
          ]

  -- one word more decides by what of it is left over
  pub within_more : Fits w64 (get_or a i 0) → Fits w64 w → both (within (i * 64) (has a) (has b)) (same (bit_and (get_or a i 0) ((2 ^ 64 - 1) - w)) 0)
      ≡ within ((i + 1) * 64) (has a) (has b)
  within_more f g =
      equal_tests _ _ (λ h. within_next g (same_at _ 0 (both_r _ _ h)) (both_l _ _ h)) (λ h. both_true _ _
      (within_true (i * 64) (has a) (has b) (λ k l x. within_at ((i + 1) * 64) (has a) (has b) h k (omega arith) x))
      (elim (tell (same (bit_and (get_or a i 0) ((2 ^ 64 - 1) - w)) 0)) [ inl z ↦ z | inr d ↦ not_both_ways h (stops (same_not _ 0 d)) ]))
    where
      stops : ¬ (bit_and (get_or a i 0) ((2 ^ 64 - 1) - w) ≡ 0) → within ((i + 1) * 64) (has a) (has b) ≡ false
      stops d =
          let t = trailing _ (lt_of_le_of_lt (and_le_l (get_or a i 0) ((2 ^ 64 - 1) - w)) f.fits) d in
          let s = sym (left_over g _ t.small) ∙ t.set in
          within_fails ((i + 1) * 64) (has a) (has b) _ (omega (arith, t.small)) (both_r _ _ s) (no_false _ (both_l _ _ s))

  pub within_word : {r : Bool} → Fits w64 (get_or a i 0) → Fits w64 w → r ≡ within (i * 64) (has a) (has b)
      → (r && eqb (bit_and (get_or a i 0) ((2 ^ 64 - 1) - w)) 0) ≡ within ((i + 1) * 64) (has a) (has b)
  within_word {r} f g v =
      ap₂ ◌&&◌ v (sym (same_is (bit_and (get_or a i 0) ((2 ^ 64 - 1) - w)) 0)) ∙ sym (both_is _ _) ∙ within_more f g

-- ---- the lowest member: those below i * 64 are none

pub lowest_next : (ws : List ℕ) (i : ℕ) → get_or ws i 0 ≡ 0 → ((f : ℕ) → f < i * 64 → has ws f ≡ false)
    → (f : ℕ) → f < (i + 1) * 64 → has ws f ≡ false
lowest_next ws i e v f l =
    elim (compare f (i * 64)) [
      | inl k ↦ v f k
      | inr k ↦ has_in ws i f (omega arith) ∙ ap (λ (x : ℕ). bit x (f % 64)) e ∙ bit_of_zero (f % 64)
    ]

pub lowest_found : (ws : List ℕ) (i : ℕ) → i < length ws → Fits w64 (get_or ws i 0) → ¬ (get_or ws i 0 ≡ 0) → ((f : ℕ) → f < i * 64 → has ws f ≡ false)
    → Some (i * 64 + count_trailing_zeros 64 (get_or ws i 0)) ≡ lowest_if_any (length ws * 64) (has ws)
lowest_found ws i h fits d v =
    let t = trailing (get_or ws i 0) fits.fits d in
    some_lowest (length ws * 64) (has ws) _ record {
      least = λ f l. elim (compare f (i * 64)) [
        | inl k ↦ v f k
        | inr k ↦ has_in ws i f (omega (arith, t.small)) ∙ t.least (f % 64) (omega (arith, t.small))
      ];
      member = λ l. has_at ws i (count_trailing_zeros 64 (get_or ws i 0)) t.small ∙ t.set;
      most = omega (arith, t.small);
    } (omega (arith, t.small))

pub lowest_missing : (ws : List ℕ) (i : ℕ) → length ws ≤ i → ((f : ℕ) → f < i * 64 → has ws f ≡ false) → None ≡ lowest_if_any (length ws * 64) (has ws)
lowest_missing ws i g v = no_lowest (length ws * 64) (has ws) (λ f l. v f (omega arith))

-- ---- what the needs of the loops that write are found from

pub ruleset loops = (rules, write_start, write_end, join_next, meet_next, remove_next, copy_next)
