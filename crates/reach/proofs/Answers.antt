-- What passes over the rows of checked tables find is what the tables' task has within reach, because reach looks at nothing else of a task.
use Prim.Native.Nat.{ℕ}
use mathlib.Core.Path.{◌≡◌, refl, ap, ◌∙◌, fun_ext}
use mathlib.Core.Bool.{true}
use mathlib.Core.List.{List}
use Rattle.std.specs.Prelude.{Ok}
use Rattle.sets.specs.Tests.{no, both}
use Rattle.sets.specs.Sets.{Set, none, removed}
use Rattle.sets.specs.Words.{has, words_of, row}
use Rattle.sets.proofs.Tests.{both_comm}
use Rattle.sets.proofs.Words.{none_read, whole_made}
use Rattle.task.specs.Task.{Task}
use Rattle.task.specs.Walks.{possible}
use Rattle.task.specs.Tables.{Tables, view}
use Rattle.task.specs.Rows.{rows_task, rows_without}
use Rattle.task.specs.Refusal.{answered}
use Rattle.task.specs.Check.{verdict_of}
use Rattle.task.specs.Checked.{Checked}
use Rattle.task.proofs.RowsRead.{plain, start_read, bounded}
use Rattle.reach.specs.declared.Reached.{Reached}
use Rattle.reach.specs.Least.{Closure}
use Rattle.reach.specs.Closing.{Facts, Closes}
use Rattle.reach.specs.Reach.{made, closure, reach, passes, without}
use Rattle.reach.specs.Answer.{reached_by, reached_of}
use Rattle.reach.proofs.Passes.{Passed, grown}

-- the rows without the steps that are off are the task without them, its clears, costs and goal apart
pub closure_without : (t : Tables) (off : Set) → closure (rows_without t off) ≡ closure (without (view t) off)
unfolding closure made possible removed both
closure_without t off = ap (λ (on : Set). closure (with_on on)) (fun_ext (λ s. both_comm true (no (off s))))
  where
    with_on : Set → Task
    with_on on = record {
      facts = t.facts;
      steps = t.steps;
      needs = (view t).needs;
      sets = (view t).sets;
      clears = λ s. none;
      cost = λ s. 0;
      start = (view t).start;
      goal = none;
      on = on;
    }

-- reach looks at nothing that is not passed on
pub plain_reach : (t : Tables) → reach (plain t) ≡ reach (view t)
unfolding reach closure made possible none no
plain_reach t = refl

-- and no step is off where the set of those that are is empty
pub reached_all : (t : Tables) {off : List ℕ} → off ≡ words_of 16 none → reached_by (without (view t) (has off)) ≡ reached_by (view t)
unfolding reached_by reach passes closure made possible removed both none no
reached_all t e = ap (λ (off : Set). reached_by (without (view t) off)) (none_read 16 e)

-- passes from the start of checked tables give the answer
pub found : (t : Tables) → Checked t → (off : Set) (first : Facts) → first.words ≡ words_of 4 (has (row 4 0 t.start)) → (gives : Facts → Facts → Type 0)
    → ((X Y : Facts) → gives X Y → Passed (rows_without t off) X Y) → {answer : Reached} → Closes gives answer.passes first answer.set
    → answer ≡ reached_by (without (view t) off)
unfolding reached_by reach passes
found t valid off first read gives passed closes =
    let start = start_read t valid read in
    grown t.facts t.steps t.needs t.sets off first (rw start (bounded t valid)) (whole_made 4 first.words _ read) gives (λ X Y g. rw start (passed X Y g)) closes
    ∙ ap (λ (X : Set). reached_by (rows_task t.facts t.steps t.needs t.sets off X)) start
    ∙ ap (λ (c : Closure). record { set = record { words = words_of 4 c.set }; passes = c.passes }) (closure_without t off)

-- with no step off it is the answer for the tables
pub all_found : (t : Tables) → verdict_of t ≡ Ok tt → {off : List ℕ} → off ≡ words_of 16 none → {answer : Reached} → answer ≡ reached_by (without (view t) (has off))
    → Ok answer ≡ reached_of t
unfolding reached_of answered
all_found t fine e a = rw fine (ap Ok (a ∙ reached_all t e))
