-- Document 01's tasks and two small ones, with their distances computed, and wrong answers told from them.
use Prim.Native.Nat.{ℕ}
use mathlib.Core.Path.{◌≡◌, refl, sym, ap, ◌∙◌}
use mathlib.Core.List.{List, [], ◌∷◌}
use native.Mathlib.Omega.{arith}
use Rattle.sets.specs.Tests.{no, both, either, implies, below, same, pick}
use Rattle.sets.specs.Sets.{all, within, up_to}
use Rattle.sets.specs.Words.{bit, has, row}
use Rattle.std.specs.Prelude.{Err}
use Rattle.task.specs.declared.refusal.Fault.TheVariants.{ShortResult}
use Rattle.task.specs.Limits.{limits}
use Rattle.task.specs.Tables.{Tables, tables, view}
use Rattle.task.specs.Refusal.{refusal, refused_if, or_else, first_refusal}
use Rattle.task.specs.Check.{wrong_facts, wrong_steps, right_lengths, only_facts, right_sets, right_costs, sizes_verdict, verdict_of}
use Rattle.distance.specs.Distance.{largest, least, list_of, entry, through_step, right_side, rounds, distances, distance, set_distance, goal_distance}
use Rattle.distance.specs.Answer.{distances_verdict, written_by, distances_written}

-- a table of sets of facts below 64
abbrev rows_of : List ℕ → List ℕ
rows_of [] = []
rows_of (w ∷ ws) = w ∷ 0 ∷ 0 ∷ 0 ∷ rows_of ws

abbrev of : Tables → List ℕ
of t = distances (view t) (view t).cost limits.mark

-- ---- the task of the report (P1 to P4)

abbrev report : Tables
report =
    tables 5 5 (rows_of (0 ∷ 1 ∷ 1 ∷ 1 ∷ 12 ∷ [])) (rows_of (1 ∷ 6 ∷ 4 ∷ 8 ∷ 16 ∷ [])) (rows_of (0 ∷ 0 ∷ 0 ∷ 0 ∷ 0 ∷ []))
    (1 ∷ 3 ∷ 1 ∷ 2 ∷ 1 ∷ []) (rows_of (0 ∷ [])) (rows_of (16 ∷ []))

pub report_distances : of report ≡ 1 ∷ 4 ∷ 2 ∷ 3 ∷ 4 ∷ []
unfolding distances rounds list_of right_side through_step largest least pick both has bit same row
report_distances = refl

-- ---- the task of 001 (P5, P6): step 3 costs nothing and needs facts 3, 3 and 4 away, so that the goal is 4 away

abbrev of001 : Tables
of001 =
    tables 5 4 (rows_of (1 ∷ 1 ∷ 1 ∷ 14 ∷ [])) (rows_of (6 ∷ 10 ∷ 12 ∷ 16 ∷ [])) (rows_of (0 ∷ 0 ∷ 0 ∷ 0 ∷ [])) (3 ∷ 4 ∷ 5 ∷ 0 ∷ []) (rows_of (1 ∷ []))
    (rows_of (16 ∷ []))

pub of001_distances : of of001 ≡ 0 ∷ 3 ∷ 3 ∷ 4 ∷ 4 ∷ []
unfolding distances rounds list_of right_side through_step largest least pick both has bit same row
of001_distances = refl

pub of001_goal : goal_distance (view of001) (view of001).cost limits.mark ≡ 4
unfolding goal_distance set_distance distance distances rounds list_of right_side through_step largest least pick both has bit same row
of001_goal = refl

-- adding up the needs' distances would make it 10
pub not_added_up : ¬ (of of001 ≡ 0 ∷ 3 ∷ 3 ∷ 4 ∷ 10 ∷ [])
not_added_up e = let z : ◌≡◌ {A = ℕ} 4 10 = ap (λ (l : List ℕ). entry l 4) (sym of001_distances ∙ e) in omega arith

-- ---- two facts, each of which is set for nothing where the other holds, and neither holds at first: beginning from 0 would leave them at 0

abbrev circle : Tables
circle = tables 2 2 (rows_of (1 ∷ 2 ∷ [])) (rows_of (2 ∷ 1 ∷ [])) (rows_of (0 ∷ 0 ∷ [])) (0 ∷ 0 ∷ []) (rows_of (0 ∷ [])) (rows_of (0 ∷ []))

pub circle_distances : of circle ≡ limits.mark ∷ limits.mark ∷ []
unfolding distances rounds list_of right_side through_step largest least pick both has bit same row
circle_distances = refl

-- ---- the result table: numbers beyond the facts stay, and one that is too short stays as it was

pub report_written : distances_written report (9 ∷ 9 ∷ 9 ∷ 9 ∷ 9 ∷ 8 ∷ 7 ∷ []) ≡ 1 ∷ 4 ∷ 2 ∷ 3 ∷ 4 ∷ 8 ∷ 7 ∷ []
unfolding distances_written written_by distances_verdict verdict_of sizes_verdict wrong_facts wrong_steps right_lengths only_facts right_sets right_costs refused_if
    first_refusal or_else all within up_to implies below no either distances rounds list_of right_side through_step largest least pick both has bit same row
report_written = refl

pub too_short : distances_verdict report 4 ≡ Err (refusal ShortResult 0)
unfolding distances_verdict verdict_of sizes_verdict wrong_facts wrong_steps right_lengths only_facts right_sets right_costs refused_if first_refusal or_else all within
    up_to implies below no either both has bit same row
too_short = refl

pub too_short_written : distances_written report (9 ∷ 9 ∷ 9 ∷ 9 ∷ []) ≡ 9 ∷ 9 ∷ 9 ∷ 9 ∷ []
unfolding distances_written written_by distances_verdict verdict_of sizes_verdict wrong_facts wrong_steps right_lengths only_facts right_sets right_costs refused_if
    first_refusal or_else all within up_to implies below no either both has bit same row
too_short_written = refl
