-- The loop that looks for the farthest member, lowest first: what it has found is the lowest of the farthest among the members that are not left. A member
-- that is as far as one found before does not replace it.
use Prim.Native.Nat.{ℕ, ◌≤◌, ◌<◌}
use mathlib.Core.Path.{◌≡◌, refl, sym, ap, ◌∙◌, subst, fun_ext}
use mathlib.Core.Bool.{false}
use mathlib.Core.List.{List, [], ◌∷◌}
use mathlib.Core.Logic.{◌⊎◌, inl, inr}
use native.Mathlib.Omega.{arith}
use lib.ListN.{length}
use Rattle.sets.specs.Tests.{Is}
use Rattle.sets.specs.Sets.{Set, dropped, lowest, members}
use Rattle.sets.specs.Words.{has, words_of, row}
use Rattle.sets.proofs.Tests.{fails, equal_tests, compare}
use Rattle.sets.proofs.Sets.{lowest_is}
use Rattle.sets.proofs.Words.{has_made, made_has, row_lt}
use Rattle.sets.proofs.Visiting.{visits_member, turn_lowest, turn_rest, turn_none}
use Rattle.task.specs.Task.{Task}
use Rattle.task.specs.Tables.{Tables, view}
use Rattle.task.specs.Checked.{Checked}
use Rattle.distance.specs.Distance.{entry}
use Rattle.distance.proofs.Lists.{list_only}
use Rattle.distance.proofs.Members.{first_in, rest_left, left_rest}
use Rattle.cuts.specs.Cut.{lowest_farthest}
use Rattle.cuts.specs.Workers.{chosen_from}
use Rattle.cuts.proofs.Choice.{lowest_farthest_only, lowest_farthest_none}

-- what is left of X has not been looked at yet; `most` is the distance of what was found, which is n as long as nothing was
pub record Looked (n : ℕ) (X L : Set) (d : ℕ → ℕ) (found most : ℕ) : Type 0 where
  pub bound : found ≤ n
  pub part : (g : ℕ) → Is (L g) → Is (X g)
  pub member : found < n → Is (X found) × (most ≡ d found)
  pub top : (g : ℕ) → Is (X g) → L g ≡ false → (found < n) × (d g ≤ most)
  pub first : found < n → (g : ℕ) → g < found → Is (X g) → d g < most

module _ (n : ℕ) (X : Set) (d : ℕ → ℕ) (few : n ≤ 256) (below_n : (f : ℕ) → Is (X f) → f < n) (left : List ℕ) (found most : ℕ)
    (s : Looked n X (has left) d found most) where
  -- nothing is left
  pub looked_end : members 256 (has left) ≡ [] → found ≡ lowest_farthest n X d
  looked_end none =
      elim (compare found n) [
        | inl l ↦
            let m = s.member l in
            sym (lowest_farthest_only n X d found l m.0 (λ g k x. omega (arith, m.1, (s.top g x (out g k)).1)) (λ g k x. omega (arith, m.1, s.first l g k x)))
        | inr l ↦
            let e : found ≡ n = omega (arith, s.bound) in
            e ∙ sym (lowest_farthest_none n X d (λ g k. fails (X g) (λ x. omega (arith, (s.top g x (out g k)).0))))
      ]
    where
      out : (g : ℕ) → g < n → has left g ≡ false
      out g k = (lowest_is 256 (has left)).least g (omega (arith, turn_none 4 left none))

  -- a turn of the loop: f is the first member, is farther than those before, or is not
  module _ (f : ℕ) (rest : List ℕ) (turn : members 256 (has left) ≡ f ∷ members 256 (has rest)) (whole : rest ≡ words_of 4 (has rest))
      (here : ℕ) (read : here ≡ d f) where
    low : f ≡ lowest 256 (has left)
    low = turn_lowest 4 left rest f turn

    made : rest ≡ words_of 4 (dropped (has left) f)
    made = turn_rest 4 left rest f turn whole

    inside : f < 256
    inside = (visits_member 256 (has left) [] (members 256 (has left)) refl turn).0

    member_here : Is (X f)
    member_here = s.part f (first_in left f low inside)

    still_part : (g : ℕ) → Is (has rest g) → Is (X g)
    still_part g x = s.part g (rest_left left f low inside rest made g x).0

    -- what is not left now was not left before, or is f
    was_out : (g : ℕ) → Is (X g) → has rest g ≡ false → (g ≡ f) ⊎ (has left g ≡ false)
    was_out g x out = left_rest left f low inside rest made g (omega (arith, below_n g x)) out

    pub looked_farther : (found ≡ n) ⊎ (most < here) → Looked n X (has rest) d f here
    looked_farther why = record {
      bound = omega (arith, below_n f member_here);
      part = still_part;
      member = λ l. (member_here, read);
      top = λ g x out. elim (was_out g x out) [
        | inl p ↦ (below_n f member_here, subst (λ (g : ℕ). d g ≤ here) (sym p) (omega arith))
        | inr p ↦ (below_n f member_here, omega (arith, nearer g x p))
      ];
      first = λ l g k x. nearer g x ((lowest_is 256 (has left)).least g (omega (arith, low)));
    }
      where
        nearer : (g : ℕ) → Is (X g) → has left g ≡ false → d g < here
        nearer g x out = elim why [ inl p ↦ absurd (omega (arith, (s.top g x out).0)) | inr p ↦ omega (arith, (s.top g x out).1) ]

    pub looked_nearer : ¬ (found ≡ n) → here ≤ most → Looked n X (has rest) d found most
    looked_nearer h k = record {
      bound = s.bound;
      part = still_part;
      member = s.member;
      top = λ g x out. elim (was_out g x out) [
        | inl p ↦ (omega (arith, s.bound), subst (λ (g : ℕ). d g ≤ most) (sym p) (omega arith))
        | inr p ↦ s.top g x p
      ];
      first = s.first;
    }

-- ---- the choices of all steps

-- what the loop writes for a step
abbrev pub choice_of : Task → List ℕ → ℕ → ℕ
choice_of t table s = lowest_farthest t.facts (t.needs s) (entry table)

module _ (t : Tables) (valid : Checked t) (s : ℕ) (read : List ℕ) (made : read ≡ words_of 4 (has (row 4 s t.needs))) where
  -- the words read hold only facts of the task
  pub read_below : (f : ℕ) → Is (has read f) → f < t.facts
  read_below f x = valid.needs_facts s f (made_has 4 read (has (row 4 s t.needs)) made f x)

  -- and are the row's
  read_row : has read ≡ has (row 4 s t.needs)
  read_row =
      fun_ext (λ f. equal_tests (has read f) (has (row 4 s t.needs) f) (made_has 4 read (has (row 4 s t.needs)) made f)
      (λ x. has_made 4 read (has (row 4 s t.needs)) made f (row_lt 4 s t.needs f x) ∙ x))

  -- so the choice among them is the step's
  pub choice_read : (table : List ℕ) (r : ℕ) → r ≡ lowest_farthest t.facts (has read) (entry table) → r ≡ choice_of (view t) table s
  choice_read table r e = e ∙ ap (λ (X : Set). lowest_farthest t.facts X (entry table)) read_row

pub choices_written : (t : Task) (table z : List ℕ) → length z ≡ t.steps → ((s : ℕ) → s < length z → entry z s ≡ choice_of t table s) → z ≡ chosen_from t table
unfolding chosen_from
choices_written t table z size done = list_only t.steps (choice_of t table) z size (λ s l. done s (omega arith))
