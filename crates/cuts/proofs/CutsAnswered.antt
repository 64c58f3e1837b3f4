-- What `cuts` answers and leaves in the three lent tables, case by case: as the verdict of checking, the room for results and the way to the goal decide.
use Prim.Native.Nat.{ℕ, ◌*◌}
use mathlib.Core.Path.{◌≡◌, refl, ap, ◌∙◌}
use mathlib.Core.Bool.{Bool, false}
use mathlib.Core.List.{List, ◌++◌}
use lib.ListN.{length, drop}
use Rattle.std.specs.Prelude.{Result, Ok, Err}
use Rattle.sets.specs.Tests.{Is, either, below}
use Rattle.sets.proofs.Tests.{no_true}
use Rattle.task.specs.declared.refusal.Fault.TheVariants.{ShortResult, NoWay}
use Rattle.task.specs.Refusal.{Refusal, refusal, answered}
use Rattle.task.specs.Tables.{Tables, view}
use Rattle.task.specs.Check.{verdict_of}
use Rattle.task.specs.Walks.{goal_holds}
use Rattle.task.proofs.Refusals.{refuse, skip, skip_fine, stay}
use Rattle.reach.specs.Reach.{reach}
use Rattle.cuts.specs.declared.Cutting.{Cutting}
use Rattle.cuts.specs.Answer.{cuts_verdict, cutting_by, cuts_written, prices_written, left_written}
use Rattle.cuts.specs.Making.{RoundsDone}

-- the answer and the three tables after the call are what the contract says of them
abbrev pub Answered : Tables → List ℕ → List ℕ → List ℕ → Result Cutting Refusal → List ℕ → List ℕ → List ℕ → Type 0
Answered t rows prices left answer rows₁ prices₁ left₁ =
    let v = cuts_verdict t (length rows) (length prices) (length left) in
    (answer ≡ cutting_by v (view t)) × ((rows₁ ≡ cuts_written v (view t) rows) × ((prices₁ ≡ prices_written v (view t) prices) × (left₁ ≡ left_written v (view t) left)))

-- some result table is too short
abbrev pub short : Tables → List ℕ → List ℕ → List ℕ → Bool
short t rows prices left =
    either (below (length rows) (16 * t.steps)) (either (below (length prices) t.steps) (below (length left) t.steps))

module _ (t : Tables) (rows prices left : List ℕ) where
  refuses : {answer : Result Cutting Refusal} {r : Refusal} → cuts_verdict t (length rows) (length prices) (length left) ≡ Err r → answer ≡ Err r
      → Answered t rows prices left answer rows prices left
  unfolding cutting_by answered cuts_written prices_written left_written
  refuses e is = rw e (is, (refl, (refl, refl)))

  -- 1 to 5
  pub cuts_refused : {answer : Result Cutting Refusal} {r : Refusal} → verdict_of t ≡ Err r → answer ≡ Err r → Answered t rows prices left answer rows prices left
  unfolding cuts_verdict
  cuts_refused e is = refuses (stay _ e ∙ e) is

  module _ (fine : verdict_of t ≡ Ok tt) where
    -- 6
    pub cuts_short : {answer : Result Cutting Refusal} → Is (short t rows prices left) → answer ≡ Err (refusal ShortResult 0)
        → Answered t rows prices left answer rows prices left
    unfolding cuts_verdict
    cuts_short h is = refuses (skip_fine _ fine ∙ refuse ShortResult _ h) is

    -- 7
    pub cuts_wayless : {answer : Result Cutting Refusal} → short t rows prices left ≡ false → goal_holds (view t) (reach (view t)) ≡ false
        → answer ≡ Err (refusal NoWay 0) → Answered t rows prices left answer rows prices left
    unfolding cuts_verdict
    cuts_wayless long h is = refuses (skip_fine _ fine ∙ skip ShortResult _ long ∙ refuse NoWay _ (no_true _ h)) is

-- all rounds, where nothing is refused
pub cuts_made : (t : Tables) (rows prices left : List ℕ) {rows₁ prices₁ left₁ : List ℕ} {answer : Cutting}
    → cuts_verdict t (length rows) (length prices) (length left) ≡ Ok tt → RoundsDone (view t) rows prices rows₁ prices₁ left₁ answer
    → Answered t rows prices left (Ok answer) rows₁ prices₁ (left₁ ++ drop (length left₁) left)
unfolding cutting_by answered cuts_written prices_written left_written
cuts_made t rows prices left fine done =
    rw fine (ap Ok done.answer_is, (done.rows_are, (done.prices_are, ap (λ (l : List ℕ). l ++ drop (length l) left) done.left_are)))
