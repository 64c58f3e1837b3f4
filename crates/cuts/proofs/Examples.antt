-- Document 01's tasks and small ones with their cuts computed, and wrong answers told from them.
use Prim.Native.Nat.{ℕ, zero, suc}
use mathlib.Core.Path.{◌≡◌, refl, sym, ap, ◌∙◌}
use mathlib.Core.List.{List, [], ◌∷◌}
use native.Mathlib.Omega.{arith}
use Rattle.sets.specs.Tests.{no, both, either, implies, below, same, pick}
use Rattle.sets.specs.Sets.{Set, joined, removed, all, any, within, one, lowest, members}
use Rattle.sets.specs.Words.{bit, word_of, has, row}
use Rattle.task.specs.Limits.{limits}
use Rattle.task.specs.Task.{Task}
use Rattle.task.specs.Walks.{possible}
use Rattle.task.specs.Tables.{Tables, tables, view}
use Rattle.reach.specs.Least.{held, pass, quiet, repeated, least}
use Rattle.reach.specs.Reach.{made, closure, reach, without}
use Rattle.distance.specs.Distance.{largest, least as least_of, list_of, through_step, right_side, rounds, distances, distance, set_distance, goal_distance}
use Rattle.cuts.specs.Cut.{Choice, lowest_farthest, counted, arc_into, free_tails, zone, heads_outside, region, cut, chosen_needs, goal_choice, cut_of, cut_cost}
use Rattle.cuts.specs.Rounds.{Round, given_costs, goal_away, lowered, round_of, rounds_from, all_rounds, floor_of, round_count}

-- a table of sets of facts below 64
abbrev rows_of : List ℕ → List ℕ
rows_of [] = []
rows_of (w ∷ ws) = w ∷ 0 ∷ 0 ∷ 0 ∷ rows_of ws

-- the cuts as lists of their steps, each with its cost
unfoldable pub listed : ℕ → List Round → List (List ℕ × ℕ)
listed m [] = []
listed m (r ∷ rs) = (members m r.cut, r.cost) ∷ listed m rs

-- an answer as one sees it: the cuts, the costs left, the floor, the number of rounds
pub record Shown : Type 0 where
  pub cuts : List (List ℕ × ℕ)
  pub left : List ℕ
  pub floor : ℕ
  pub rounds : ℕ

unfoldable pub shown : Choice → Task → Shown
shown choose t =
    let r = all_rounds choose limits.mark t in
    record { cuts = listed t.steps r.list; left = r.left; floor = floor_of r.list; rounds = round_count r.list }

-- of equals the highest number, which is not document 01's choice
unfoldable pub highest_in : ℕ → ℕ → Set → ℕ
highest_in begin zero X = begin
highest_in begin (suc n) X = pick (X n) n (highest_in begin n X)

unfoldable pub highest_farthest : Choice
highest_farthest n X d = let most = largest n X d in highest_in n n (λ f. both (X f) (same (d f) most))

-- ---- the task of the report (P1 to P4)

abbrev report : Tables
report =
    tables 5 5 (rows_of (0 ∷ 1 ∷ 1 ∷ 1 ∷ 12 ∷ [])) (rows_of (1 ∷ 6 ∷ 4 ∷ 8 ∷ 16 ∷ [])) (rows_of (0 ∷ 0 ∷ 0 ∷ 0 ∷ 0 ∷ []))
    (1 ∷ 3 ∷ 1 ∷ 2 ∷ 1 ∷ []) (rows_of (0 ∷ [])) (rows_of (16 ∷ []))

pub report_cuts : shown lowest_farthest (view report)
    ≡ record {
      cuts = (4 ∷ [], 1) ∷ (3 ∷ [], 2) ∷ (1 ∷ 2 ∷ [], 1) ∷ (0 ∷ [], 1) ∷ [];
      left = 0 ∷ 2 ∷ 0 ∷ 0 ∷ 0 ∷ [];
      floor = 5;
      rounds = 4;
    }
unfolding shown listed members floor_of all_rounds rounds_from round_of lowered goal_away given_costs cut_of cut_cost goal_choice chosen_needs cut region heads_outside zone
    free_tails arc_into counted lowest_farthest least repeated quiet pass held reach closure made possible within all any lowest joined word_of one goal_distance
    set_distance distance distances rounds list_of right_side through_step largest least_of pick both either no implies below has bit same row
report_cuts = refl

-- with step 2 off, step 1 stands alone in its cut, at its full cost, and step 2's cost is left whole
pub report_off : shown lowest_farthest (without (view report) (same 2))
    ≡ record {
      cuts = (4 ∷ [], 1) ∷ (1 ∷ [], 3) ∷ (3 ∷ [], 2) ∷ (0 ∷ [], 1) ∷ [];
      left = 0 ∷ 0 ∷ 1 ∷ 0 ∷ 0 ∷ [];
      floor = 7;
      rounds = 4;
    }
unfolding shown listed members floor_of all_rounds rounds_from round_of lowered goal_away given_costs cut_of cut_cost goal_choice chosen_needs cut region heads_outside zone
    free_tails arc_into counted lowest_farthest least repeated quiet pass held reach closure made possible within all any lowest joined removed word_of one goal_distance
    set_distance distance distances rounds list_of right_side through_step largest least_of pick both either no implies below has bit same row
report_off = refl

-- ---- the task of 001 (P5, P6)

abbrev of001 : Tables
of001 =
    tables 5 4 (rows_of (1 ∷ 1 ∷ 1 ∷ 14 ∷ [])) (rows_of (6 ∷ 10 ∷ 12 ∷ 16 ∷ [])) (rows_of (0 ∷ 0 ∷ 0 ∷ 0 ∷ [])) (3 ∷ 4 ∷ 5 ∷ 0 ∷ []) (rows_of (1 ∷ []))
    (rows_of (16 ∷ []))

pub of001_cuts : shown lowest_farthest (view of001)
    ≡ record { cuts = (1 ∷ 2 ∷ [], 4) ∷ (0 ∷ 2 ∷ [], 1) ∷ []; left = 2 ∷ 0 ∷ 0 ∷ 0 ∷ []; floor = 5; rounds = 2 }
unfolding shown listed members floor_of all_rounds rounds_from round_of lowered goal_away given_costs cut_of cut_cost goal_choice chosen_needs cut region heads_outside zone
    free_tails arc_into counted lowest_farthest least repeated quiet pass held reach closure made possible within all any lowest joined word_of one goal_distance
    set_distance distance distances rounds list_of right_side through_step largest least_of pick both either no implies below has bit same row
of001_cuts = refl

-- ---- a goal within the start (P7): no cut

abbrev at_start : Tables
at_start = tables 3 1 (rows_of (1 ∷ [])) (rows_of (2 ∷ [])) (rows_of (0 ∷ [])) (1 ∷ []) (rows_of (5 ∷ [])) (rows_of (4 ∷ []))

pub at_start_cuts : shown lowest_farthest (view at_start) ≡ record { cuts = []; left = 1 ∷ []; floor = 0; rounds = 0 }
unfolding shown listed members floor_of all_rounds rounds_from round_of lowered goal_away given_costs cut_of cut_cost goal_choice chosen_needs cut region heads_outside zone
    free_tails arc_into counted lowest_farthest least repeated quiet pass held reach closure made possible within all any lowest joined word_of one goal_distance
    set_distance distance distances rounds list_of right_side through_step largest least_of pick both either no implies below has bit same row
at_start_cuts = refl

-- ---- one fact, and two steps without needs that set it (P9): one cut with both

abbrev two_steps : Tables
two_steps = tables 1 2 (rows_of (0 ∷ 0 ∷ [])) (rows_of (1 ∷ 1 ∷ [])) (rows_of (0 ∷ 0 ∷ [])) (2 ∷ 3 ∷ []) (rows_of (0 ∷ [])) (rows_of (1 ∷ []))

pub two_steps_cuts : shown lowest_farthest (view two_steps) ≡ record { cuts = (0 ∷ 1 ∷ [], 2) ∷ []; left = 0 ∷ 1 ∷ []; floor = 2; rounds = 1 }
unfolding shown listed members floor_of all_rounds rounds_from round_of lowered goal_away given_costs cut_of cut_cost goal_choice chosen_needs cut region heads_outside zone
    free_tails arc_into counted lowest_farthest least repeated quiet pass held reach closure made possible within all any lowest joined word_of one goal_distance
    set_distance distance distances rounds list_of right_side through_step largest least_of pick both either no implies below has bit same row
two_steps_cuts = refl

-- ---- two needs equally far away: the lowest is chosen first

abbrev equals : Tables
equals = tables 3 3 (rows_of (0 ∷ 0 ∷ 3 ∷ [])) (rows_of (1 ∷ 2 ∷ 4 ∷ [])) (rows_of (0 ∷ 0 ∷ 0 ∷ [])) (1 ∷ 1 ∷ 0 ∷ []) (rows_of (0 ∷ [])) (rows_of (4 ∷ []))

pub equals_cuts : shown lowest_farthest (view equals) ≡ record { cuts = (0 ∷ [], 1) ∷ (1 ∷ [], 1) ∷ []; left = 0 ∷ 0 ∷ 0 ∷ []; floor = 2; rounds = 2 }
unfolding shown listed members floor_of all_rounds rounds_from round_of lowered goal_away given_costs cut_of cut_cost goal_choice chosen_needs cut region heads_outside zone
    free_tails arc_into counted lowest_farthest least repeated quiet pass held reach closure made possible within all any lowest joined word_of one goal_distance
    set_distance distance distances rounds list_of right_side through_step largest least_of pick both either no implies below has bit same row
equals_cuts = refl

-- the highest first would give the same cuts in the other order
pub equals_highest : shown highest_farthest (view equals) ≡ record { cuts = (1 ∷ [], 1) ∷ (0 ∷ [], 1) ∷ []; left = 0 ∷ 0 ∷ 0 ∷ []; floor = 2; rounds = 2 }
unfolding shown listed members floor_of all_rounds rounds_from round_of lowered goal_away given_costs cut_of cut_cost goal_choice chosen_needs cut region heads_outside zone
    free_tails arc_into counted highest_farthest highest_in least repeated quiet pass held reach closure made possible within all any lowest joined word_of one goal_distance
    set_distance distance distances rounds list_of right_side through_step largest least_of pick both either no implies below has bit same row
equals_highest = refl

pub not_the_highest : ¬ (shown lowest_farthest (view equals) ≡ shown highest_farthest (view equals))
not_the_highest e = let z : ◌≡◌ {A = ℕ} 0 1 = ap first_step (sym equals_cuts ∙ e ∙ equals_highest) in omega arith
  where
    first : List ℕ → ℕ
    first [] = 2
    first (s ∷ w) = s

    first_step : Shown → ℕ
    first_step r = go r.cuts
      where
        go : List (List ℕ × ℕ) → ℕ
        go [] = 2
        go (x ∷ xs) = first x.0

-- ---- and the choice can change the floor: goal facts 0, 1 and 2, where step 0 sets 0 and 2 and step 1 sets 1 and 2

abbrev three_goals : Tables
three_goals = tables 3 2 (rows_of (0 ∷ 0 ∷ [])) (rows_of (5 ∷ 6 ∷ [])) (rows_of (0 ∷ 0 ∷ [])) (1 ∷ 1 ∷ []) (rows_of (0 ∷ [])) (rows_of (7 ∷ []))

pub three_goals_cuts : shown lowest_farthest (view three_goals) ≡ record { cuts = (0 ∷ [], 1) ∷ (1 ∷ [], 1) ∷ []; left = 0 ∷ 0 ∷ []; floor = 2; rounds = 2 }
unfolding shown listed members floor_of all_rounds rounds_from round_of lowered goal_away given_costs cut_of cut_cost goal_choice chosen_needs cut region heads_outside zone
    free_tails arc_into counted lowest_farthest least repeated quiet pass held reach closure made possible within all any lowest joined word_of one goal_distance
    set_distance distance distances rounds list_of right_side through_step largest least_of pick both either no implies below has bit same row
three_goals_cuts = refl

pub three_goals_highest : shown highest_farthest (view three_goals) ≡ record { cuts = (0 ∷ 1 ∷ [], 1) ∷ []; left = 0 ∷ 0 ∷ []; floor = 1; rounds = 1 }
unfolding shown listed members floor_of all_rounds rounds_from round_of lowered goal_away given_costs cut_of cut_cost goal_choice chosen_needs cut region heads_outside zone
    free_tails arc_into counted highest_farthest highest_in least repeated quiet pass held reach closure made possible within all any lowest joined word_of one goal_distance
    set_distance distance distances rounds list_of right_side through_step largest least_of pick both either no implies below has bit same row
three_goals_highest = refl
