-- The lines of a task are those of document 01: each operation answers the set that the line names, where none refuses the task. A refusal by any of them is the
-- report's.
use Prim.Native.Nat.{ℕ, ◌*◌, ◌≤◌}
use mathlib.Core.Path.{◌≡◌, sym, ap, ◌∙◌}
use mathlib.Core.List.{List, [], ◌++◌, append-nil}
use native.Mathlib.Omega.{arith}
use lib.ListN.{length, take, drop, length-append}
use lib.Seq.{take_at}
use Rattle.std.specs.Prelude.{Ok, Err}
use Rattle.sets.specs.declared.bits.Bits.{Bits}
use Rattle.sets.specs.Tests.{Is, no}
use Rattle.sets.specs.Words.{has, words_of}
use Rattle.sets.proofs.Tests.{below_false, either_false}
use Rattle.task.specs.declared.refusal.Fault.TheVariants.{NoWay}
use Rattle.task.specs.Tables.{Tables, view}
use Rattle.task.specs.Refusal.{Refusal, refused_if, or_else, first_refusal, Verdict}
use Rattle.task.specs.Check.{verdict_of}
use Rattle.task.specs.Checked.{Checked}
use Rattle.task.proofs.Refusals.{refused_fine, answered_ok, answered_err, stay, fine_first, fine_rest, fine_test}
use Rattle.task.proofs.Checking.{checked}
use Rattle.task.specs.Walks.{goal_holds}
use Rattle.reach.specs.declared.Reached.{Reached}
use Rattle.reach.specs.Reach.{reach}
use Rattle.reach.specs.Answer.{reached_by, reached_of}
use Rattle.must.specs.Must.{must_facts, must_steps}
use Rattle.must.specs.Answer.{pass_verdict, passed_of, taken_of}
use Rattle.cuts.specs.declared.Cutting.{Cutting}
use Rattle.cuts.specs.Rounds.{floor_of}
use Rattle.cuts.specs.Answer.{cuts_verdict, rounds_of, cutting_by, cut_costs, cuts_written, prices_written}
use Rattle.report.specs.declared.text.Page.{Page as Lent}
use Rattle.report.specs.Text.{task_line, reach_line, must_line, take_line, floor_line}
use Rattle.report.specs.Report.{set_lines, cut_lines, round_lines}
use Rattle.report.specs.Writing.{Writes}
use Rattle.report.specs.Workers.{table_cuts}
use Rattle.report.proofs.Writing.{writes_on, writes_as}
use Rattle.report.proofs.Fields.{members_read}
use Rattle.report.proofs.Bounds.{reach_below, must_pass_below, must_take_below, cuts_below}
use Rattle.report.proofs.TableOfCuts.{costs_long, table_read}

pub pass_checked : (t : Tables) → pass_verdict t ≡ Ok tt → verdict_of t ≡ Ok tt
unfolding pass_verdict
pass_checked t fine = fine_first (verdict_of t) _ fine

-- ---- a refusal

module _ (t : Tables) (r : Refusal) where
  pub reach_refused : reached_of t ≡ Err r → pass_verdict t ≡ Err r
  unfolding reached_of pass_verdict
  reach_refused told = let bad : verdict_of t ≡ Err r = answered_err _ _ told in stay _ bad ∙ bad

  pub pass_refused : passed_of t ≡ Err r → pass_verdict t ≡ Err r
  unfolding passed_of
  pass_refused told = answered_err _ _ told

  pub take_refused : taken_of t ≡ Err r → pass_verdict t ≡ Err r
  unfolding taken_of
  take_refused told = answered_err _ _ told

  -- with room for 256 rounds, nothing is refused that must-pass does not refuse
  pub cuts_refused : (words prices left : ℕ) → t.steps ≤ 256 → 4096 ≤ words → 256 ≤ prices → 256 ≤ left → pass_verdict t ≡ Ok tt
      → cutting_by (cuts_verdict t words prices left) (view t) ≡ Err r → ⊥
  unfolding cutting_by cuts_verdict pass_verdict first_refusal or_else refused_if
  cuts_refused words prices left few a b c fine refused =
      let bad = answered_err _ _ refused in
      refused_fine (sym bad ∙ rw (either_false _ _ (below_false words (16 * t.steps) (omega arith)) (either_false _ _ (below_false prices t.steps (omega arith)) (below_false left t.steps (omega arith)))) fine)

-- ---- the lines

module _ (t : Tables) where
  pub take_fine : (taken : Bits 16) → taken_of t ≡ Ok taken → pass_verdict t ≡ Ok tt
  unfolding taken_of
  take_fine taken told = (answered_ok _ told).0

  reach_made : (reached : Reached) → reached_of t ≡ Ok reached → reached.set.words ≡ words_of 4 (reach (view t))
  unfolding reached_of reached_by
  reach_made reached told = ap (λ (a : Reached). a.set.words) (sym (answered_ok _ told).1)

  pass_made : (passed : Bits 4) → passed_of t ≡ Ok passed → passed.words ≡ words_of 4 (must_facts (view t))
  unfolding passed_of
  pass_made passed told = ap (λ (a : Bits 4). a.words) (sym (answered_ok _ told).1)

  take_made : (taken : Bits 16) → taken_of t ≡ Ok taken → taken.words ≡ words_of 16 (must_steps (view t))
  unfolding taken_of
  take_made taken told = ap (λ (a : Bits 16). a.words) (sym (answered_ok _ told).1)

  some_way : pass_verdict t ≡ Ok tt → Is (goal_holds (view t) (reach (view t)))
  unfolding pass_verdict
  some_way fine = fine_test _ NoWay (fine_first (refused_if (no (goal_holds (view t) (reach (view t)))) NoWay) [] (fine_rest (verdict_of t) _ fine))

  lines_made : (reached : Reached) (passed : Bits 4) (taken : Bits 16) → reached_of t ≡ Ok reached → passed_of t ≡ Ok passed → taken_of t ≡ Ok taken
      → task_line t.facts t.steps ++ reach_line 256 (has reached.set.words) ++ must_line 256 (has passed.words) ++ take_line 1024 (has taken.words) ≡ set_lines t
  unfolding set_lines
  lines_made reached passed taken reach_told pass_told take_told =
      let fine = take_fine taken take_told in
      let fit : Checked t = checked t (pass_checked t fine) in
      rw (
        members_read 4 t.facts reached.set.words (reach (view t)) (reach_made reached reach_told) fit.few_facts (reach_below (view t)),
        members_read 4 t.facts passed.words (must_facts (view t)) (pass_made passed pass_told) fit.few_facts (must_pass_below (view t)),
        members_read 16 t.steps taken.words (must_steps (view t)) (take_made taken take_told) fit.few_steps (must_take_below (view t) (some_way fine)),
      )

-- ---- the rounds

module _ (t : Tables) (words prices left : ℕ) (cutting : Cutting) (cut : cutting_by (cuts_verdict t words prices left) (view t) ≡ Ok cutting) where
  cuts_fine : cuts_verdict t words prices left ≡ Ok tt
  unfolding cutting_by
  cuts_fine = (answered_ok _ cut).0

  rounds_are : cutting.rounds ≡ length (rounds_of (view t)).list
  unfolding cutting_by
  rounds_are = ap (λ (a : Cutting). a.rounds) (sym (answered_ok _ cut).1)

  floor_is : cutting.floor ≡ floor_of (rounds_of (view t)).list
  unfolding cutting_by
  floor_is = ap (λ (a : Cutting). a.floor) (sym (answered_ok _ cut).1)

  module _ (paid₀ paid : List ℕ) (priced : paid ≡ prices_written (cuts_verdict t words prices left) (view t) paid₀) where
    paid_is : paid ≡ cut_costs (rounds_of (view t)).list ++ drop (length (cut_costs (rounds_of (view t)).list)) paid₀
    unfolding prices_written
    paid_is = priced ∙ ap (λ (v : Verdict). prices_written v (view t) paid₀) cuts_fine

    pub rounds_room : cutting.rounds ≤ length paid
    rounds_room =
        let rs = (rounds_of (view t)).list in
        omega (arith, rounds_are, ap length paid_is, length-append (cut_costs rs) (drop (length (cut_costs rs)) paid₀), costs_long rs)

    first_paid : take cutting.rounds paid ≡ cut_costs (rounds_of (view t)).list
    first_paid =
        let rs = (rounds_of (view t)).list in
        ap (take cutting.rounds) paid_is ∙ take_at (cut_costs rs) (drop (length (cut_costs rs)) paid₀) cutting.rounds (costs_long rs ∙ sym rounds_are)

    table_made : (rows₀ rows : List ℕ) → t.steps ≤ 256 → rows ≡ cuts_written (cuts_verdict t words prices left) (view t) rows₀
        → table_cuts (length (take cutting.rounds paid)) 0 rows (take cutting.rounds paid) ≡ cut_lines t.steps (rounds_of (view t)).list
    unfolding cuts_written
    table_made rows₀ rows few made =
        let rs = (rounds_of (view t)).list in
        let costs : take cutting.rounds paid ≡ cut_costs rs ++ [] = first_paid ∙ sym (append-nil (cut_costs rs)) in
        ap (λ (n : ℕ). table_cuts n 0 rows (take cutting.rounds paid)) (ap length first_paid ∙ costs_long rs)
        ∙ table_read t.steps rs 0 rows (take cutting.rounds paid) _ _ (omega arith) (cuts_below (view t)) (made ∙ ap (λ (v : Verdict). cuts_written v (view t) rows₀) cuts_fine) costs

    -- the line of each round, and then the floor
    pub rounds_written : (rows₀ rows : List ℕ) (q r s : Lent) → t.steps ≤ 256 → rows ≡ cuts_written (cuts_verdict t words prices left) (view t) rows₀
        → Writes (table_cuts (length (take cutting.rounds paid)) 0 rows (take cutting.rounds paid)) q r → Writes (floor_line cutting.floor) r s
        → Writes (round_lines t) q s
    unfolding round_lines
    rounds_written rows₀ rows q r s few made next last =
        let rs = (rounds_of (view t)).list in
        writes_on (cut_lines t.steps rs) (floor_line (floor_of rs)) q r s
        (writes_as _ (cut_lines t.steps rs) q r (table_made rows₀ rows few made) next)
        (writes_as _ (floor_line (floor_of rs)) r s (ap floor_line floor_is) last)

-- ---- the whole

-- the sets' lines, and then the rounds
pub task_written : (t : Tables) (reached : Reached) (passed : Bits 4) (taken : Bits 16) (p q s : Lent) → reached_of t ≡ Ok reached → passed_of t ≡ Ok passed
    → taken_of t ≡ Ok taken
    → Writes (task_line t.facts t.steps ++ reach_line 256 (has reached.set.words) ++ must_line 256 (has passed.words) ++ take_line 1024 (has taken.words)) p q
    → Writes (round_lines t) q s → Writes (set_lines t ++ round_lines t) p s
task_written t reached passed taken p q s reach_told pass_told take_told first next =
    writes_on (set_lines t) (round_lines t) p q s (writes_as _ (set_lines t) p q (lines_made t reached passed taken reach_told pass_told take_told) first) next
