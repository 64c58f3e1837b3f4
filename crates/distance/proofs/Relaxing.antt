-- Why relaxing until nothing changes ends in the largest table that no step relaxes, and when that is the distances: no relaxation passes below such a table,
-- and each change lowers the sum.
use Prim.Native.Nat.{ℕ, ◌+◌, ◌≤◌, ◌<◌}
use mathlib.Core.Path.{◌≡◌, refl, sym, ap, ◌∙◌, subst}
use mathlib.Core.Bool.{Bool, true, false, ◌||◌, true≢false}
use mathlib.Core.List.{List}
use mathlib.Core.Logic.{inl, inr}
use native.Mathlib.Nat.{le_antisymm}
use native.Mathlib.Omega.{arith}
use lib.ListN.{length}
use lib.Seq.{ext_get_or}
use Rattle.sets.specs.Tests.{Is, no, pick}
use Rattle.sets.specs.Sets.{Set, none}
use Rattle.sets.specs.Words.{has, row}
use Rattle.sets.proofs.Tests.{tell, not_both_ways, no_true, no_of, compare, pick_true, pick_false}
use Rattle.sets.proofs.Words.{row_lt}
use Rattle.task.specs.Task.{Task}
use Rattle.distance.specs.Distance.{largest, list_of, entry, through_step, distance, distances}
use Rattle.task.specs.Rows.{rows_task}
use Rattle.distance.specs.Relaxing.{Under, Still, Reduced, Relaxed, Lowered, LargestStill}
use Rattle.distance.proofs.Extremes.{largest_mono, largest_inside}
use Rattle.distance.proofs.Lists.{length_made, entry_list, sum_le}
use Rattle.distance.proofs.Equation.{through_up, distance_start, distance_mark, distance_step, relaxed_is, distances_only}
use Rattle.distance.proofs.Members.{lowered_le}

-- ---- one relaxation after the other

module _ (t : Task) (c : ℕ → ℕ) where
  pub reduced_then : (d z u : List ℕ) → Reduced t c d z → Reduced t c z u → Reduced t c d u
  reduced_then d z u p q =
      record {
        size = q.size ∙ p.size;
        less = λ f l. omega (arith, q.less f l, p.less f l);
        above = λ e still under. q.above e still (p.above e still under);
      }

  still_then : (a b e : ℕ) (d : ℕ → ℕ) → Still t c a b d → Still t c b e d → Still t c a e d
  still_then a b e d p q s f l m = elim (compare s b) [ inl k ↦ p s f l k | inr k ↦ q s f k m ]

  -- steps a to b, and then b to e: the table changed if either changed it
  pub relaxed_then : (a b e : ℕ) (d z u : List ℕ) (r q : Bool) → Relaxed t c a b d z r → Relaxed t c b e z u q → Relaxed t c a e d u (r || q)
  relaxed_then a b e d z u true q before now =
      record {
        reduced = reduced_then d z u before.reduced now.reduced;
        kept = λ no. absurd (true≢false no);
        still = λ no. absurd (true≢false no);
        fell = λ yes. omega (arith, before.fell refl, sum_le t.facts (entry u) (entry z) now.reduced.less);
      }
  relaxed_then a b e d z u false q before now =
      record {
        reduced = reduced_then d z u before.reduced now.reduced;
        kept = λ no. now.kept no ∙ before.kept refl;
        still = λ no.
            still_then a b e (entry d) (before.still refl) (subst (λ (z : List ℕ). Still t c b e (entry z)) (before.kept refl) (now.still no));
        fell = λ yes. omega (arith, now.fell yes, sum_le t.facts (entry z) (entry d) before.reduced.less);
      }

-- there is one largest table under d that no step relaxes
pub still_only : (t : Task) (c : ℕ → ℕ) (d z u : List ℕ) → LargestStill t c d z → LargestStill t c d u → t.facts ≡ length d → z ≡ u
still_only t c d z u p q e =
    ext_get_or 0 z u (p.size ∙ sym q.size)
    (λ f l.
    let b : f < t.facts = omega (arith, p.size) in
    le_antisymm (q.largest (entry z) p.still p.less f b) (p.largest (entry u) q.still q.less f b))

-- ---- over rows

module _ (steps : ℕ) (needs sets : List ℕ) (off : Set) (c : ℕ → ℕ) where
  abbrev of_rows : ℕ → Task
  of_rows facts = rows_task facts steps needs sets off none

  -- a step that is off changes nothing
  pub relax_off : {d z : List ℕ} {i : ℕ} {r : Bool} → off i ≡ true → Relaxed (of_rows (length d)) c 0 i d z r → Relaxed (of_rows (length d)) c 0 (i + 1) d z r
  relax_off {d = d} {i = i} h before =
      record {
        reduced = before.reduced;
        kept = before.kept;
        still = λ e. still_then (of_rows (length d)) c 0 i (i + 1) (entry d) (before.still e)
            (λ a f l m b on. let k : a ≡ i = omega arith in not_both_ways on (ap (λ (a : ℕ). no (off a)) k ∙ no_of (off i) h));
        fell = before.fell;
      }

  -- what is added up is the step's cost and the farthest of its needs
  through : (s : ℕ) (d : List ℕ) → through_step (of_rows (length d)) c (entry d) s ≡ c s + largest 256 (has (row 4 s needs)) (entry d)
  unfolding through_step
  through s d =
      ap (λ (x : ℕ). c s + x)
      (le_antisymm
      (largest_mono (length d) 256 (has (row 4 s needs)) (has (row 4 s needs)) (entry d) (entry d) (λ f l x. (row_lt 4 s needs f x, x, omega arith)))
      (largest_inside 256 (has (row 4 s needs)) (has (row 4 s needs)) d (λ f x. x)))

  -- a step that is on relaxes the table by lowering what it sets
  relax_one : (s : ℕ) (d z : List ℕ) (r : Bool) → s < steps → off s ≡ false
      → Lowered (has (row 4 s sets)) (c s + largest 256 (has (row 4 s needs)) (entry d)) d z r → Relaxed (of_rows (length d)) c s (s + 1) d z r
  relax_one s d z r l h low =
      record {
        reduced = record {
          size = low.size;
          less = λ f b. lowered_le (has (row 4 s sets)) (c s + largest 256 (has (row 4 s needs)) (entry d)) d z f (low.each f);
          above = λ e still under f b. elim (low.each f) [
            | inl k ↦ omega (arith, under f b)
            | inr k ↦
                omega (
                  arith,
                  k.1,
                  through s d,
                  through_up (of_rows (length d)) c e (entry d) under s,
                  still s f (omega arith) l b (no_true (off s) h) k.0,
                )
          ];
        };
        kept = low.kept;
        still = λ e a f k m b on_a set_a.
            subst (λ (a : ℕ). Is (has (row 4 a sets) f) → entry d f ≤ through_step (of_rows (length d)) c (entry d) a) (only a k m) (here e f) set_a;
        fell = low.fell;
      }
    where
      only : (a : ℕ) → s ≤ a → a < s + 1 → s ≡ a
      only a k m = omega arith

      here : r ≡ false → (f : ℕ) → Is (has (row 4 s sets) f) → entry d f ≤ through_step (of_rows (length d)) c (entry d) s
      here e f m = omega (arith, through s d, low.still e f (row_lt 4 s sets f m) m)

  -- a turn of the loop over all steps
  pub relax_on : {d z u : List ℕ} {i : ℕ} {r q : Bool} → i < steps → off i ≡ false → Relaxed (of_rows (length d)) c 0 i d z r
      → Lowered (has (row 4 i sets)) (c i + largest 256 (has (row 4 i needs)) (entry z)) z u q → Relaxed (of_rows (length d)) c 0 (i + 1) d u (r || q)
  relax_on {d} {z} {u} {i} {r} {q} l h before low =
      relaxed_then (of_rows (length d)) c 0 i (i + 1) d z u r q before
      (subst (λ (n : ℕ). Relaxed (of_rows n) c i (i + 1) z u q) before.reduced.size (relax_one i z u q l h low))

  -- a turn of the loop until nothing changes, and the last one
  module _ (d z u : List ℕ) (r : Bool) (before : Reduced (of_rows (length d)) c d z) (now : Relaxed (of_rows (length z)) c 0 steps z u r) where
    relaxed : Relaxed (of_rows (length d)) c 0 steps z u r
    relaxed = subst (λ (n : ℕ). Relaxed (of_rows n) c 0 steps z u r) before.size now

    pub settle_next : Reduced (of_rows (length d)) c d u
    settle_next = reduced_then (of_rows (length d)) c d z u before relaxed.reduced

    pub settle_end : r ≡ false → LargestStill (of_rows (length d)) c d u
    settle_end h =
        record {
          size = settle_next.size;
          less = settle_next.less;
          still = subst (λ (u : List ℕ). Still (of_rows (length d)) c 0 steps (entry u)) (sym (relaxed.kept h)) (relaxed.still h);
          largest = settle_next.above;
        }

  -- ---- when what it ends in is the distances

  -- whatever is to hold at first: the table was 0 there, the mark at most elsewhere and nowhere below the distances
  pub settled_distances : (mark n : ℕ) (start : Set) (d z : List ℕ) → length d ≡ n → LargestStill (of_rows n) c d z
      → let t = rows_task n steps needs sets off start in
      Under n (distance t c mark) (entry d) → Under n (entry d) (λ f. mark) → ((f : ℕ) → f < n → Is (start f) → entry d f ≡ 0) → z ≡ distances t c mark
  unfolding through_step
  settled_distances mark n start d z size settled above most first =
      let t = rows_task n steps needs sets off start in
      distances_only t c mark z (settled.size ∙ size)
      (relaxed_is t c mark (entry z) (settled.largest (distance t c mark) (distance_step t c mark) above)
      (λ f l. omega (arith, settled.less f l, most f l)) (λ f l s. omega (arith, settled.less f l, first f l s)) settled.still)

  -- it was 0 for what holds at first and the mark for everything else
  pub begun_distances : (mark n : ℕ) (start : Set) (d z : List ℕ) → d ≡ list_of n (λ f. pick (start f) 0 mark) → LargestStill (of_rows (length d)) c d z
      → z ≡ distances (rows_task n steps needs sets off start) c mark
  begun_distances mark n start d z begun settled =
      let e = length_made n d _ begun in
      settled_distances mark n start d z e (subst (λ (k : ℕ). LargestStill (of_rows k) c d z) e settled) above most in_start
    where
      t : Task
      t = rows_task n steps needs sets off start

      in_start : (f : ℕ) → f < n → Is (start f) → entry d f ≡ 0
      in_start f l h = ap (λ (d : List ℕ). entry d f) begun ∙ entry_list n _ f l ∙ pick_true 0 mark h

      elsewhere : (f : ℕ) → f < n → start f ≡ false → entry d f ≡ mark
      elsewhere f l h = ap (λ (d : List ℕ). entry d f) begun ∙ entry_list n _ f l ∙ pick_false 0 mark h

      above : Under n (distance t c mark) (entry d)
      above f l =
          elim (tell (start f)) [
            | inl h ↦ omega (arith, distance_start t c mark f l h)
            | inr h ↦ omega (arith, distance_mark t c mark f l, elsewhere f l h)
          ]

      most : Under n (entry d) (λ f. mark)
      most f l = elim (tell (start f)) [ inl h ↦ omega (arith, in_start f l h) | inr h ↦ omega (arith, elsewhere f l h) ]
