-- Each answer of `distances` from the tests that lead to it; and why what it writes are the distances of the task that the tables stand for: no step is off,
-- and the row of the start is the start.
use Prim.Native.Nat.{ℕ, ◌≤◌, ◌<◌}
use mathlib.Core.Path.{◌≡◌, refl, sym, ap, ap₂, ◌∙◌}
use mathlib.Core.List.{List, [], ◌++◌}
use native.Mathlib.Omega.{arith}
use native.Mathlib.Nat.{le_antisymm}
use lib.ListN.{length, take, drop, length-take, get_or-append}
use Rattle.sets.specs.Tests.{Is, no}
use Rattle.sets.specs.Sets.{Set, none}
use Rattle.sets.specs.Words.{has, words_of, row}
use Rattle.sets.proofs.Tests.{below_true, below_false}
use Rattle.std.specs.Prelude.{Ok, Err}
use Rattle.task.specs.declared.refusal.Fault.TheVariants.{ShortResult}
use Rattle.task.specs.Limits.{limits}
use Rattle.task.specs.Task.{Task}
use Rattle.task.specs.Tables.{Tables, view}
use Rattle.task.specs.Refusal.{Refusal, Verdict, refusal}
use Rattle.task.specs.Check.{verdict_of}
use Rattle.task.proofs.Refusals.{refuse, skip, none_left, skip_fine, stay}
use Rattle.task.specs.Checked.{Checked}
use Rattle.task.proofs.Checking.{checked}
use Rattle.task.proofs.RowsRead.{plain, rows_plain}
use Rattle.distance.specs.Distance.{largest, entry, distances, distance, set_distance}
use Rattle.task.specs.Rows.{rows_task}
use Rattle.distance.specs.Answer.{distances_verdict, written_by, distances_written}
use Rattle.distance.proofs.Extremes.{largest_mono}
use Rattle.distance.proofs.Equation.{length_distances, distances_same}

-- ---- the task that the workers are given

module _ (t : Tables) (c : Checked t) (n : ℕ) (facts : n ≡ t.facts) (off start : List ℕ) (all_on : off ≡ words_of 16 none)
    (row_read : start ≡ words_of 4 (has (row 4 0 t.start))) where
  abbrev given : Task
  given = rows_task n (length t.costs) t.needs t.sets (has off) (has start)

  -- it has the distances of the task that the tables stand for
  pub given_distances : (mark : ℕ) → distances given (entry t.costs) mark ≡ distances (view t) (view t).cost mark
  unfolding none no
  given_distances mark =
      ap (λ (u : Task). distances u (entry t.costs) mark)
      (ap₂ (λ (facts steps : ℕ). rows_task facts steps t.needs t.sets (has off) (has start)) facts c.costs_length ∙ rows_plain t c all_on row_read)
      ∙ distances_same mark (plain t) (view t) (entry t.costs)
      record {
        facts = refl;
        steps = refl;
        start = λ f l h. h;
        on = λ s l h. refl;
        sets = λ s f l b h. h;
        needs = λ s f l b h. h;
        cost = λ s l. omega arith;
      }
      record {
        facts = refl;
        steps = refl;
        start = λ f l h. h;
        on = λ s l h. refl;
        sets = λ s f l b h. h;
        needs = λ s f l b h. h;
        cost = λ s l. omega arith;
      }

-- ---- each answer, and what then stands in the result table

module _ (t : Tables) (out : List ℕ) where
  untouched : {r : Refusal} → distances_verdict t (length out) ≡ Err r → out ≡ distances_written t out
  unfolding distances_written written_by
  untouched e = sym (ap (λ (v : Verdict). written_by v t out) e)

  module _ {v : Verdict} (checks : v ≡ verdict_of t) where
    -- refused by checking
    pub answer_refused : {r : Refusal} → v ≡ Err r → v ≡ distances_verdict t (length out)
    unfolding distances_verdict
    answer_refused e = checks ∙ sym (stay _ (sym checks ∙ e))

    pub table_refused : {r : Refusal} → v ≡ Err r → out ≡ distances_written t out
    table_refused e = untouched (sym (answer_refused e) ∙ e)

    module _ (fine : v ≡ Ok tt) where
      -- a result table that is too short
      pub answer_short : length out < t.facts → ◌≡◌ {A = Verdict} (Err (refusal ShortResult 0)) (distances_verdict t (length out))
      unfolding distances_verdict
      answer_short l = sym (skip_fine _ (sym checks ∙ fine) ∙ refuse ShortResult [] (below_true _ _ l))

      pub table_short : length out < t.facts → out ≡ distances_written t out
      table_short l = untouched (sym (answer_short l))

      -- one with room for all facts
      module _ (room : t.facts ≤ length out) where
        pub answer_fine : ◌≡◌ {A = Verdict} (Ok tt) (distances_verdict t (length out))
        unfolding distances_verdict
        answer_fine = sym (skip_fine _ (sym checks ∙ fine) ∙ skip ShortResult [] (below_false _ _ room) ∙ none_left)

        pub table_fine : (off start new : List ℕ) → off ≡ words_of 16 none → start ≡ words_of 4 (has (row 4 0 t.start))
            → new ≡ distances (rows_task (length (take t.facts out)) (length t.costs) t.needs t.sets (has off) (has start)) (entry t.costs)
            limits.mark
            → new ++ drop t.facts out ≡ distances_written t out
        unfolding distances_written written_by
        table_fine off start new all_on row_read made =
            let c = checked t (sym checks ∙ fine) in
            let e = given_distances t c _ (simp length-take (omega arith)) off start all_on row_read limits.mark in
            ap (λ (l : List ℕ). l ++ drop t.facts out) (made ∙ e) ∙ ap (λ (v : Verdict). written_by v t out) answer_fine

-- ---- the distance of a set, read from such a table

pub set_distance_is : (t : Task) (c : ℕ → ℕ) (mark : ℕ) → t.facts ≤ 256 → (X : Set) → ((f : ℕ) → Is (X f) → f < t.facts) → (rest : List ℕ)
    → largest 256 X (entry (distances t c mark ++ rest)) ≡ set_distance t c mark X
unfolding set_distance distance
set_distance_is t c mark few X below rest =
    le_antisymm
    (largest_mono 256 t.facts X X (entry (distances t c mark ++ rest)) (entry (distances t c mark)) (λ f l x. (below f x, x, omega (arith, here f x))))
    (largest_mono t.facts 256 X X (entry (distances t c mark)) (entry (distances t c mark ++ rest)) (λ f l x. (omega arith, x, omega (arith, here f x))))
  where
    here : (f : ℕ) → Is (X f) → entry (distances t c mark ++ rest) f ≡ entry (distances t c mark) f
    here f x = get_or-append (distances t c mark) rest 0 f (omega (arith, below f x, length_distances t c mark))
