-- Why following a walk answers as it should: at every turn what is left of the walk, from the set that holds there, makes up the rest of the whole answer.
use Prim.Native.Nat.{ℕ, ◌+◌, ◌*◌, ◌≤◌, ◌<◌}
use mathlib.Core.Path.{◌≡◌, sym, ap, ◌∙◌}
use mathlib.Core.Bool.{Bool, true, false, not}
use mathlib.Core.List.{List, ◌∷◌}
use mathlib.Core.Logic.{inl, inr}
use native.Mathlib.Numerals.{add-one}
use native.Mathlib.Omega.{arith}
use lib.ListN.{length, get_or, drop, drop_of_length-le}
use lib.Seq.{drop-cons}
use borrow.Author.Tests.{not-true, not-false}
use Rattle.sets.specs.Tests.{Is, no, both}
use Rattle.sets.specs.Sets.{Set, none, within}
use Rattle.sets.proofs.Sets.{within_past}
use Rattle.sets.specs.Words.{has, words_of, row}
use Rattle.sets.proofs.Words.{has_lt, set_made, row_lt, none_read}
use Rattle.task.specs.Task.{Task}
use Rattle.task.specs.Walks.{taken, possible, taking, after, goal_holds, walk_cost}
use Rattle.task.proofs.Walks.{taken_cases, walk_cost_most}
use Rattle.replay.specs.declared.Replayed.TheVariants.{Done, Stuck, Short}
use Rattle.replay.specs.Replay.{taken_before, walked}
use Rattle.task.specs.Tables.{Tables, view}
use Rattle.task.specs.Checked.{Checked}
use Rattle.task.proofs.RowsRead.{needs_view, start_read, goal_read}
use Rattle.replay.specs.Rows.{task_without}
use Rattle.replay.proofs.Walked.{taken_next, taken_stop, answers_stuck, answers_done, answers_short}

-- ---- over any task: i entries are taken, X holds, and so much is paid

-- what is left of the walk, from X on, makes up the rest of what can be taken, of what holds in the end and of the cost
pub record Followed (t : Task) (w : List ℕ) (X : Set) (cost i : ℕ) : Type 0 where
  pub taken : taken_before t t.start w ≡ i + taken_before t X (drop i w)
  pub ends : after t t.start w ≡ after t X (drop i w)
  pub paid : walk_cost t w ≡ cost + walk_cost t (drop i w)

module _ (t : Task) (w : List ℕ) where
  -- before the first entry the start holds and nothing is paid
  pub followed_first : (X : Set) → X ≡ t.start → Followed t w X 0 0
  followed_first X e =
      let same_taken = ap (λ (Y : Set). taken_before t Y w) e in
      record { taken = omega arith; ends = ap (λ (Y : Set). after t Y w) (sym e); paid = omega arith }

  module _ (X : Set) (cost i : ℕ) (f : Followed t w X cost i) where
    -- what is left begins with entry i
    rest : i < length w → drop i w ≡ get_or w i 0 ∷ drop (i + 1) w
    rest l = rw add-one (drop-cons w i 0 l)

    -- entry i can be taken: one entry more
    pub followed_next : i < length w → Is (possible t X (get_or w i 0)) → Followed t w (taking t X (get_or w i 0)) (cost + t.cost (get_or w i 0)) (i + 1)
    unfolding after walk_cost
    followed_next l p =
        let one_more = ap (taken_before t X) (rest l) ∙ taken_next t X (get_or w i 0) (drop (i + 1) w) p in
        let same_cost = ap (walk_cost t) (rest l) in
        record {
          taken = omega (arith, f.taken, one_more);
          ends = f.ends ∙ ap (after t X) (rest l);
          paid = omega (arith, f.paid, same_cost);
        }

    -- entry i cannot be taken: the walk is stuck there
    pub followed_stuck : i < length w → possible t X (get_or w i 0) ≡ false → walked t w ≡ Stuck i
    followed_stuck l p =
        let none_more = ap (taken_before t X) (rest l) ∙ taken_stop t X (get_or w i 0) (drop (i + 1) w) p in
        answers_stuck t w i l (omega (arith, f.taken, none_more))

    -- what is paid and what the next entry costs is no more than the whole walk
    pub followed_cost : i < length w → cost + t.cost (get_or w i 0) ≤ walk_cost t w
    unfolding walk_cost
    followed_cost l = omega (arith, f.paid, ap (walk_cost t) (rest l))

    module _ (l : length w ≤ i) where
      -- no entry is left: all are taken, X holds in the end, and what is paid is the cost
      all_taken : length w ≤ taken_before t t.start w
      all_taken = omega (arith, f.taken)

      at_end : after t t.start w ≡ X
      unfolding after
      at_end = f.ends ∙ ap (after t X) (drop_of_length-le w l)

      -- and the goal holds, or it does not
      pub followed_done : Is (goal_holds t X) → walked t w ≡ Done cost
      unfolding walk_cost
      followed_done g =
          answers_done t w all_taken (ap (goal_holds t) at_end ∙ g)
          ∙ ap Done (omega (arith, f.paid, ap (walk_cost t) (drop_of_length-le w l)))

      pub followed_short : goal_holds t X ≡ false → walked t w ≡ Short
      followed_short g = answers_short t w all_taken (ap (goal_holds t) at_end ∙ g)

-- ---- over the tables, in the terms of the code

module _ (t : Tables) (valid : Checked t) (off walk : List ℕ) where
  abbrev followed : Task
  followed = task_without t (has off)

  -- the loop begins with the start
  pub follow_first : (held : List ℕ) → held ≡ words_of 4 (has (row 4 0 t.start)) → Followed followed walk (has held) 0 0
  follow_first held e = followed_first followed walk (has held) (start_read t valid e)

  module _ (held : List ℕ) (cost i : ℕ) (f : Followed followed walk (has held) cost i) where
    module _ (l : i < length walk) {step : ℕ} (read : step ≡ get_or walk i 0) where
      -- the sum of the costs fits 64 bits
      pub follow_cost : length walk ≤ 65535 → {more : ℕ} → more ≡ get_or t.costs step 0 → cost + more ≤ 65535 * 65535
      follow_cost short e =
          omega (
            arith,
            followed_cost followed walk (has held) cost i f l,
            walk_cost_most followed 65535 valid.costs_most walk,
            ap (λ (s : ℕ). get_or t.costs s 0) read,
          )

      module _ {r : Bool} (told : r ≡ both (no (has off step)) (within 256 (has (row 4 step t.needs)) (has held))) where
        -- what `can_take` tells is whether the step is possible
        asked : r ≡ possible followed (has held) (get_or walk i 0)
        unfolding possible
        asked = rw (← read) (told ∙ ap (both (no (has off step))) (needs_view t valid step (has held)))

        -- it is not: stuck at i
        pub follow_stuck : not r ≡ true → Stuck i ≡ walked followed walk
        follow_stuck h = sym (followed_stuck followed walk (has held) cost i f l (sym asked ∙ not-true r h))

        -- it is: a turn of the loop, with the set that `take_step` makes
        pub follow_next : not r ≡ false → length held ≡ 4 → {next : List ℕ} {more : ℕ}
            → next ≡ words_of 4 (taken (has held) (has (row 4 step t.clears)) (has (row 4 step t.sets))) → more ≡ get_or t.costs step 0
            → Followed followed walk (has next) (cost + more) (i + 1)
        unfolding taking
        follow_next h long {next} made e =
            rw (set_made 4 next _ made short, e, read) (followed_next followed walk (has held) cost i f l (sym asked ∙ not-false r h))
          where
            short : (g : ℕ) → Is (taken (has held) (has (row 4 step t.clears)) (has (row 4 step t.sets)) g) → g < 256
            short g h =
                elim (taken_cases (has held) (has (row 4 step t.clears)) (has (row 4 step t.sets)) g h) [
                  | inl x ↦ omega (arith, has_lt held g x)
                  | inr x ↦ row_lt 4 step t.sets g x
                ]

    module _ (l : length walk ≤ i) {wanted : List ℕ} (made : wanted ≡ words_of 4 (has (row 4 0 t.goal))) {r : Bool} (told : r ≡ within 256 (has wanted) (has held)) where
      -- whether the goal is within what holds is whether the goal holds
      reached : r ≡ goal_holds followed (has held)
      unfolding goal_holds
      reached =
          told ∙ ap (λ (X : Set). within 256 X (has held)) (goal_read t valid made)
          ∙ within_past t.facts 256 (has t.goal) (has held) valid.few_facts valid.goal_facts

      -- the two answers after the loop
      pub follow_done : r ≡ true → Done cost ≡ walked followed walk
      follow_done h = sym (followed_done followed walk (has held) cost i f l (sym reached ∙ h))

      pub follow_short : r ≡ false → Short ≡ walked followed walk
      follow_short h = sym (followed_short followed walk (has held) cost i f l (sym reached ∙ h))

-- with no step off it is the tables' task that is followed
pub all_followed : (t : Tables) {off : List ℕ} → off ≡ words_of 16 none → (walk : List ℕ) → walked (task_without t (has off)) walk ≡ walked (view t) walk
unfolding none no
all_followed t e walk = ap (λ (off : Set). walked (task_without t off) walk) (none_read 16 e)
