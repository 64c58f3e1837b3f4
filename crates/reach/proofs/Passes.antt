-- The code's passes are document 01's: a pass has added what the steps that it has gone through make, and the passes counted with those still to come
-- are all passes.
use Prim.Native.Nat.{ℕ, suc, ◌+◌}
use mathlib.Core.Path.{◌≡◌, refl, sym, ap, ap₂, ◌∙◌, subst, fun_ext}
use mathlib.Core.Bool.{Bool, true, false, not}
use mathlib.Core.List.{List}
use mathlib.Core.Logic.{inl, inr}
use native.Mathlib.Numerals.{add-one}
use native.Mathlib.Omega.{arith}
use mir.Syntax.{w64}
use mir.Val.{Fits}
use lib.ListN.{length, get_or}
use borrow.Author.Tests.{not-true, not-false}
use Rattle.sets.specs.Tests.{Is, no, both, either}
use Rattle.sets.specs.Sets.{Set, joined, any, within}
use Rattle.sets.specs.Words.{has, words_of, row}
use Rattle.sets.proofs.Tests.{not_both_ways, equal_tests, both_true, both_false_l, both_false_r, either_l, either_cases, no_true, no_of, compare}
use Rattle.sets.proofs.Sets.{within_past}
use Rattle.sets.proofs.Words.{has_made, made_has, words_only, words_of_same, row_lt, row_read}
use Rattle.task.specs.Task.{Task}
use Rattle.task.specs.Walks.{possible}
use Rattle.reach.specs.Closing.{Facts, Closes}
use Rattle.reach.specs.declared.Reached.{Reached}
use Rattle.reach.specs.Reach.{made, closure, reach, passes}
use Rattle.reach.specs.Answer.{reached_by}
use Rattle.task.specs.Rows.{rows_task, RowsBelow, Bounded}
use Rattle.reach.specs.OneStep.{added_by}
use Rattle.reach.proofs.ClosedSets.{FactsBelow, Gives, Growing, growing_next, closes_rule}
use Rattle.reach.proofs.Ways.{made_at, made_rising}

-- ---- one step of a pass

-- what it adds
module _ (needs sets off : List ℕ) (X : Set) (s : ℕ) {r : Bool} where
  -- nothing where it is off
  pub added_off : r ≡ has off s → Is r → (f : ℕ) → added_by needs sets (has off) X s f ≡ false
  unfolding added_by
  added_off e h f = both_false_l _ (has (row 4 s sets) f) (both_false_l (no (has off s)) _ (no_of (has off s) (sym e ∙ h)))

  -- nothing where its needs do not all hold
  pub added_idle : r ≡ within 256 (has (row 4 s needs)) X → not r ≡ true → (f : ℕ) → added_by needs sets (has off) X s f ≡ false
  unfolding added_by
  added_idle e h f = both_false_l _ (has (row 4 s sets) f) (both_false_r (no (has off s)) _ (sym e ∙ not-true r h))

  -- what it sets where it is taken
  pub added_all : {p : Bool} → p ≡ has off s → p ≡ false → r ≡ within 256 (has (row 4 s needs)) X → not r ≡ false
      → added_by needs sets (has off) X s ≡ has (row 4 s sets)
  unfolding added_by both
  added_all o on e holds =
      fun_ext (λ f. ap (λ (q : Bool). both q (has (row 4 s sets) f))
      (both_true (no (has off s)) _ (no_true (has off s) (sym o ∙ on)) (sym e ∙ not-false r holds)))

-- a set to which nothing is added stays as it is
added_none : (ws : List ℕ) (Y : Set) → length ws ≡ 4 → ((i : ℕ) → Fits w64 (get_or ws i 0)) → ((f : ℕ) → Y f ≡ false) → ws ≡ words_of 4 (joined (has ws) Y)
unfolding joined
added_none ws Y e fits out =
    words_only 4 ws (joined (has ws) Y) e (λ i. (fits i).fits)
    (λ f l. equal_tests (has ws f) (either (has ws f) (Y f)) (either_l (has ws f) (Y f))
    (λ h. elim (either_cases (has ws f) (Y f) h) [ inl x ↦ x | inr y ↦ not_both_ways y (out f) ]))

module _ (needs sets off next : List ℕ) (X : Set) (s : ℕ) {r : Bool} where
  -- it is off
  pub step_off : r ≡ has off s → Is r → length next ≡ 4 → ((i : ℕ) → Fits w64 (get_or next i 0))
      → next ≡ words_of 4 (joined (has next) (added_by needs sets (has off) X s))
  step_off e h size fits = added_none next _ size fits (added_off needs sets off X s e h)

  -- its needs do not all hold
  pub step_idle : r ≡ within 256 (has (row 4 s needs)) X → not r ≡ true → length next ≡ 4 → ((i : ℕ) → Fits w64 (get_or next i 0))
      → next ≡ words_of 4 (joined (has next) (added_by needs sets (has off) X s))
  step_idle e h size fits = added_none next _ size fits (added_idle needs sets off X s e h)

  -- it is taken
  pub step_adds : {p : Bool} {after read : List ℕ} → p ≡ has off s → p ≡ false → r ≡ within 256 (has (row 4 s needs)) X → not r ≡ false
      → read ≡ words_of 4 (has (row 4 s sets)) → after ≡ words_of 4 (joined (has next) (has read))
      → after ≡ words_of 4 (joined (has next) (added_by needs sets (has off) X s))
  step_adds o on e holds read a =
      a ∙ ap (λ (Y : Set). words_of 4 (joined (has next) Y)) (row_read 4 s sets read ∙ sym (added_all needs sets off X s o on e holds))

-- ---- one pass: before step s, what is made by the steps below s has been added

either_assoc : (p q r : Bool) → either (either p q) r ≡ either p (either q r)
unfolding either
either_assoc true q r = refl
either_assoc false q r = refl

module _ (n : ℕ) (needs sets : List ℕ) (off start X : Set) where
  -- the test of four words is the test of the facts below n
  needs_within : RowsBelow n needs → (s : ℕ) → within 256 (has (row 4 s needs)) X ≡ within n (has (row 4 s needs)) X
  needs_within below_n s =
      elim (compare 256 n) [
        | inl l ↦ sym (within_past 256 n (has (row 4 s needs)) X (omega arith) (row_lt 4 s needs))
        | inr l ↦ within_past n 256 (has (row 4 s needs)) X l (below_n s)
      ]

  -- one step more
  made_more : RowsBelow n needs → (s f : ℕ)
      → made (rows_task n (s + 1) needs sets off start) X f ≡ either (made (rows_task n s needs sets off start) X f) (added_by needs sets off X s f)
  unfolding made any possible added_by
  made_more below_n s f = rw (add-one, needs_within below_n s)

  pub pass_next : (s : ℕ) {next after : List ℕ} → RowsBelow n needs → next ≡ words_of 4 (joined X (made (rows_task n s needs sets off start) X))
      → after ≡ words_of 4 (joined (has next) (added_by needs sets off X s))
      → after ≡ words_of 4 (joined X (made (rows_task n (s + 1) needs sets off start) X))
  unfolding joined
  pass_next s {next} {after} below_n e a =
      a ∙ words_of_same 4 _ _ (λ f l.
      ap (λ (p : Bool). either p (added_by needs sets off X s f)) (has_made 4 next _ e f l)
      ∙ either_assoc (X f) (made (rows_task n s needs sets off start) X f) (added_by needs sets off X s f)
      ∙ ap (either (X f)) (sym (made_more below_n s f)))

pub pass_start : (n : ℕ) (needs sets ws : List ℕ) (off start : Set) → length ws ≡ 4 → ((i : ℕ) → Fits w64 (get_or ws i 0))
    → ws ≡ words_of 4 (joined (has ws) (made (rows_task n 0 needs sets off start) (has ws)))
unfolding made any
pass_start n needs sets ws off start size fits = added_none ws _ size fits (λ f. refl)

-- ---- passes until one adds nothing, over the tables

either_again : (p q : Bool) → either p (either p q) ≡ either p q
unfolding either
either_again true q = refl
either_again false q = refl

-- a pass gives the set with what the steps make of it
abbrev pub Passed : Task → Facts → Facts → Type 0
Passed t X Y = Y.words ≡ words_of 4 (joined (has X.words) (made t (has X.words)))

module _ (n m : ℕ) (needs sets : List ℕ) (off : Set) (first : Facts) (bounded : Bounded n needs sets (has first.words)) where
  abbrev task_of : Task
  task_of = rows_task n m needs sets off (has first.words)

  pass_gives : (X Y : Facts) → FactsBelow n X → Passed task_of X Y → Gives n (made task_of) X Y
  unfolding joined
  pass_gives X Y facts e = record {
    below_n =
        λ f h.
        elim (either_cases (has X.words f) (made task_of (has X.words) f) (made_has 4 Y.words _ e f h)) [
          | inl x ↦ facts.below_n f x
          | inr y ↦ let s = made_at task_of (has X.words) f y in bounded.sets_below s.0 f s.3
        ];
    made =
        λ f l.
        ap (either (has X.words f)) (has_made 4 Y.words (joined (has X.words) (made task_of (has X.words))) e f (omega (arith, bounded.few)))
        ∙ either_again (has X.words f) (made task_of (has X.words) f);
  }

  -- what a pass gives has all that held
  both_given : (X Y : Facts) → Passed task_of X Y → Y.words ≡ words_of 4 (joined (has X.words) (has Y.words))
  unfolding joined
  both_given X Y e =
      e ∙ words_of_same 4 _ _ (λ f l. sym (either_again (has X.words f) _) ∙ ap (either (has X.words f)) (sym (has_made 4 Y.words _ e f l)))

  -- pass i begins with `words`, gives `next` and, as r tells, adds something: pass i + 1 begins with `next`
  pub grow_next : (words next : Facts) (i : ℕ) {r : Bool} → Growing n (made task_of) first words i → Passed task_of words next
      → r ≡ within 256 (has next.words) (has words.words) → r ≡ false → Growing n (made task_of) first next (i + 1)
  grow_next words next i growing passed tested new =
      rw add-one (subst (λ (ws : List ℕ). Growing n (made task_of) first (record { words = ws }) (suc i)) (sym (both_given words next passed))
      (growing_next n (made task_of) bounded.few (made_rising task_of) first words next i (pass_gives words next growing.facts passed) growing (sym tested ∙ new)))

  -- so passes until one adds nothing give the answer
  pub grown : first.words ≡ words_of 4 (has first.words) → (gives : Facts → Facts → Type 0) → ((X Y : Facts) → gives X Y → Passed task_of X Y)
      → {answer : Reached} → Closes gives answer.passes first answer.set → answer ≡ reached_by task_of
  unfolding reached_by reach passes closure
  grown whole gives passed closes =
      let end =
      closes_rule n (made task_of) bounded.few (made_rising task_of) first gives (λ X Y facts g. pass_gives X Y facts (passed X Y g))
      (record { whole = whole; below_n = bounded.start_below }) closes in
      ap₂ (λ (ws : List ℕ) (p : ℕ). record { set = record { words = ws }; passes = p }) end.0 end.1
