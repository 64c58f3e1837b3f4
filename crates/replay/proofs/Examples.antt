-- Document 01's examples P11 and P12, and walks at the borders: each by computing.
use Prim.Native.Nat.{ℕ}
use mathlib.Core.Path.{◌≡◌, refl}
use mathlib.Core.List.{List, [], ◌∷◌}
use native.Mathlib.Omega.{arith}
use Rattle.sets.specs.Tests.{no, both, either, implies, below, same, pick}
use Rattle.sets.specs.Sets.{up_to, joined, removed, all, within, lowest}
use Rattle.sets.specs.Words.{bit, has, row}
use Rattle.task.specs.Tables.{Tables, tables, view}
use Rattle.task.specs.Walks.{taken, possible, taking, after, goal_holds, walk_cost}
use Rattle.std.specs.Prelude.{Err}
use Rattle.task.specs.declared.refusal.Fault.TheVariants.{StepNumber}
use Rattle.task.specs.Refusal.{refusal, refused_if, or_else, first_refusal, answered}
use Rattle.task.specs.Check.{wrong_facts, wrong_steps, right_lengths, only_facts, right_sets, right_costs, sizes_verdict, verdict_of}
use Rattle.replay.specs.declared.Replayed.TheVariants.{Done, Stuck, Short}
use Rattle.replay.specs.Replay.{taken_before, walked, first_past, refused_past, walk_verdict, replayed_of}

-- rows of one word, and three that are empty
abbrev pub four : List ℕ → List ℕ
four [] = []
four (x ∷ xs) = x ∷ 0 ∷ 0 ∷ 0 ∷ four xs

-- the first task: badge read 0, project picked 1, project set 2, tube racked 3, spectrum filed 4
abbrev pub first_task : Tables
first_task =
    tables 5 5 (four (0 ∷ 1 ∷ 1 ∷ 1 ∷ 12 ∷ [])) (four (1 ∷ 6 ∷ 4 ∷ 8 ∷ 16 ∷ [])) (four (0 ∷ 0 ∷ 0 ∷ 0 ∷ 0 ∷ []))
    (1 ∷ 3 ∷ 1 ∷ 2 ∷ 1 ∷ []) (four (0 ∷ [])) (four (16 ∷ []))

-- one step sets and clears the same fact, which is the goal
abbrev pub set_and_cleared : Tables
set_and_cleared = tables 1 1 (four (0 ∷ [])) (four (1 ∷ [])) (four (1 ∷ [])) (7 ∷ []) (four (0 ∷ [])) (four (1 ∷ []))

-- P11: done with cost 5, stuck at 1, short
pub p11 : (walked (view first_task) (0 ∷ 2 ∷ 3 ∷ 4 ∷ []) ≡ Done 5) × (walked (view first_task) (0 ∷ 4 ∷ []) ≡ Stuck 1) × (walked (view first_task) [] ≡ Short)
unfolding walked taken_before after walk_cost goal_holds possible taking taken joined removed within all has bit row no both either implies below same pick
p11 = (refl, refl, refl)

-- P12: the fact holds after
pub p12 : walked (view set_and_cleared) (0 ∷ []) ≡ Done 7
unfolding walked taken_before after walk_cost goal_holds possible taking taken joined removed within all has bit row no both either implies below same pick
p12 = refl

-- a step that is taken twice is paid twice, and not once
pub paid_twice : walked (view first_task) (0 ∷ 0 ∷ 2 ∷ 3 ∷ 4 ∷ []) ≡ Done 6
unfolding walked taken_before after walk_cost goal_holds possible taking taken joined removed within all has bit row no both either implies below same pick
paid_twice = refl

pub not_paid_once : ¬ (walked (view first_task) (0 ∷ 0 ∷ 2 ∷ 3 ∷ 4 ∷ []) ≡ Done 5)
not_paid_once e = let right = paid_twice in let z : ◌≡◌ {A = ℕ} 6 5 = cc in omega arith

-- the walk 4, 5 is stuck at once, and 5 is no step's number: it is refused, and not stuck
pub nine_first : replayed_of first_task (4 ∷ 5 ∷ []) ≡ Err (refusal StepNumber 1)
unfolding replayed_of answered walk_verdict refused_past first_past lowest verdict_of sizes_verdict wrong_facts wrong_steps right_lengths right_sets only_facts right_costs first_refusal or_else refused_if up_to within all has bit row no both either implies below same pick
nine_first = refl

-- of entries that are no step's number the first is given
pub past_at_1 : first_past 5 (4 ∷ 5 ∷ 9 ∷ []) ≡ 1
unfolding first_past lowest no below pick
past_at_1 = refl
