-- Why rounds are due: once checking and the room for results are in order, the verdict hangs on whether the goal is within reach, and that is what is tested;
-- and tables that are not refused have the room, and a way, that the rounds ask for.
use Prim.Native.Nat.{ℕ, ◌*◌, ◌≤◌}
use mathlib.Core.Path.{◌≡◌, refl, sym, ap, ◌∙◌}
use mathlib.Core.Bool.{Bool, true, false, not}
use mathlib.Core.List.{List, [], ◌∷◌}
use native.Mathlib.Omega.{arith}
use lib.ListN.{length}
use Rattle.sets.specs.Tests.{Is, no, either, below}
use Rattle.sets.specs.Sets.{Set, none, within}
use Rattle.sets.specs.Words.{has, words_of, row}
use Rattle.sets.proofs.Tests.{below_not, either_not}
use Rattle.sets.proofs.Sets.{within_past, within_same}
use Rattle.sets.proofs.Words.{has_made}
use Rattle.std.specs.Prelude.{Ok, Err}
use Rattle.task.specs.declared.refusal.Fault.TheVariants.{ShortResult, NoWay}
use Rattle.task.specs.Refusal.{Verdict, refused_if, or_else, first_refusal}
use Rattle.task.specs.Check.{verdict_of}
use Rattle.task.specs.Tables.{Tables, view}
use Rattle.task.specs.Checked.{Checked}
use Rattle.task.specs.Walks.{goal_holds}
use Rattle.task.proofs.Refusals.{skip, skip_fine, fine_first, fine_rest, fine_if, fine_test}
use Rattle.task.proofs.RowsRead.{goal_read}
use Rattle.reach.specs.declared.Reached.{Reached}
use Rattle.reach.specs.Reach.{reach, without}
use Rattle.reach.specs.Answer.{reached_by}
use Rattle.reach.proofs.Answers.{reached_all}
use Rattle.cuts.specs.Answer.{cuts_verdict}
use Rattle.cuts.specs.Making.{RoundsDue}

pub not_no : (p : Bool) → not (no p) ≡ p
unfolding no
not_no true = refl
not_no false = refl

no_not : (p : Bool) → no p ≡ not p
unfolding no
no_not true = refl
no_not false = refl

last_one : (v : Verdict) → first_refusal (v ∷ []) ≡ v
unfolding first_refusal or_else
last_one (Ok done) = refl
last_one (Err r) = refl

-- where neither checking nor the room for results is in the way, the verdict is whether there is no way
verdict_last : (t : Tables) (words prices left : ℕ) → verdict_of t ≡ Ok tt → {b q : Bool}
    → b ≡ no (either (below words (16 * t.steps)) (either (below prices t.steps) (below left t.steps))) → refused_if (not b) ShortResult ≡ Ok tt
    → q ≡ goal_holds (view t) (reach (view t)) → cuts_verdict t words prices left ≡ refused_if (not q) NoWay
unfolding cuts_verdict
verdict_last t words prices left fine {b} {q} room enough way =
    skip_fine _ fine
    ∙ skip ShortResult _ (sym (not_no _) ∙ ap not (sym room) ∙ fine_if (not b) ShortResult enough)
    ∙ last_one (refused_if (no (goal_holds (view t) (reach (view t)))) NoWay)
    ∙ ap (λ (p : Bool). refused_if p NoWay) (no_not _ ∙ ap not (sym way))

module _ {t : Tables} (valid : Checked t) {off : List ℕ} (all_on : off ≡ words_of 16 none) {found : Reached} (reached : found ≡ reached_by (without (view t) (has off))) where
  -- the set is what is within reach
  pub reach_read : found.set.words ≡ words_of 4 (reach (view t))
  unfolding reached_by
  reach_read = ap (λ (r : Reached). r.set.words) (reached ∙ reached_all t all_on)

  -- and the test is whether the goal is
  way_told : {goals : List ℕ} → goals ≡ words_of 4 (has (row 4 0 t.goal)) → {q : Bool} → q ≡ within 256 (has goals) (has found.set.words)
      → q ≡ goal_holds (view t) (reach (view t))
  unfolding goal_holds
  way_told goal_set tested =
      tested ∙ ap (λ (X : Set). within 256 X (has found.set.words)) (goal_read t valid goal_set)
      ∙ within_past t.facts 256 (has t.goal) (has found.set.words) valid.few_facts valid.goal_facts
      ∙ within_same t.facts _ _ _ _ (λ f l. refl) (λ f l. has_made 4 found.set.words _ reach_read f (omega (arith, valid.few_facts)))

  -- so the verdict hangs on that test, where there is room for results
  pub verdict_told : verdict_of t ≡ Ok tt → {goals : List ℕ} → goals ≡ words_of 4 (has (row 4 0 t.goal)) → {q : Bool} → q ≡ within 256 (has goals) (has found.set.words)
      → (words prices left : ℕ) {b : Bool} → b ≡ no (either (below words (16 * t.steps)) (either (below prices t.steps) (below left t.steps)))
      → refused_if (not b) ShortResult ≡ Ok tt → cuts_verdict t words prices left ≡ refused_if (not q) NoWay
  verdict_told fine goal_set tested words prices left room enough = verdict_last t words prices left fine room enough (way_told goal_set tested)

-- tables that are not refused have room for as many rounds as steps, and some way leads to the goal
pub fine_room : (t : Tables) (words prices left : ℕ) → cuts_verdict t words prices left ≡ Ok tt
    → (16 * t.steps ≤ words) × (t.steps ≤ prices) × (t.steps ≤ left) × Is (goal_holds (view t) (reach (view t)))
unfolding cuts_verdict
fine_room t words prices left fine =
    let rest = fine_rest _ _ fine in
    let long = fine_if _ ShortResult (fine_first _ _ rest) in
    let some = either_not _ _ long in
    let two = either_not _ _ some.1 in
    (below_not _ _ some.0, below_not _ _ two.0, below_not _ _ two.1, fine_test _ NoWay (fine_first _ _ (fine_rest _ _ rest)))

pub rounds_due : (t : Tables) (rows prices left : List ℕ) → cuts_verdict t (length rows) (length prices) (length left) ≡ Ok tt → RoundsDue (view t) rows prices
rounds_due t rows prices left fine =
    let room = fine_room t (length rows) (length prices) (length left) fine in record { room = room.0; prices_room = room.1; some_way = room.3 }
