-- What `cuts` answers, and what stands in the three lent tables after it.
use Rattle.std.specs.Prelude.{ℕ, ◌*◌, List, [], ◌∷◌, ◌++◌, length, drop, Result, Ok, Err}
use Rattle.sets.specs.Tests.{no, either, below}
use Rattle.sets.specs.Words.{words_of}
use Rattle.task.specs.declared.refusal.Fault.TheVariants.{ShortResult, NoWay}
use Rattle.task.specs.Limits.{limits}
use Rattle.task.specs.Task.{Task}
use Rattle.task.specs.Tables.{Tables, view}
use Rattle.task.specs.Walks.{goal_holds}
use Rattle.task.specs.Refusal.{Refusal, Verdict, refused_if, first_refusal, answered}
use Rattle.task.specs.Check.{verdict_of}
use Rattle.reach.specs.Reach.{reach}
use Rattle.cuts.specs.declared.Cutting.{Cutting}
use Rattle.cuts.specs.Cut.{lowest_farthest}
use Rattle.cuts.specs.Rounds.{Round, Rounds, all_rounds, floor_of, round_count}

-- 1 to 5 by checking; 6 for fewer than 16m words, m costs or m left costs, however many rounds there are; 7 where no way leads to the goal
unfoldable pub cuts_verdict : Tables → ℕ → ℕ → ℕ → Verdict
cuts_verdict t words prices left =
    first_refusal
    (verdict_of t
    ∷ refused_if (either (below words (16 * t.steps)) (either (below prices t.steps) (below left t.steps))) ShortResult
    ∷ refused_if (no (goal_holds (view t) (reach (view t)))) NoWay
    ∷ [])

-- all rounds, with ties broken as document 01 says
unfoldable pub rounds_of : Task → Rounds
rounds_of t = all_rounds lowest_farthest limits.mark t

-- the number of rounds and the floor, or why the tables are refused
unfoldable pub cutting_by : Verdict → Task → Result Cutting Refusal
cutting_by v t = answered v (record { rounds = round_count (rounds_of t).list; floor = floor_of (rounds_of t).list })

-- the cuts in order, sixteen words each, and their costs
unfoldable pub cut_words : List Round → List ℕ
cut_words [] = []
cut_words (r ∷ rs) = words_of 16 r.cut ++ cut_words rs

unfoldable pub cut_costs : List Round → List ℕ
cut_costs [] = []
cut_costs (r ∷ rs) = r.cost ∷ cut_costs rs

-- the tables after the call: what is found first, and beyond it what stood there; as they were where it is refused
unfoldable pub cuts_written : Verdict → Task → List ℕ → List ℕ
cuts_written (Ok done) t before = let rows = cut_words (rounds_of t).list in rows ++ drop (length rows) before
cuts_written (Err r) t before = before

unfoldable pub prices_written : Verdict → Task → List ℕ → List ℕ
prices_written (Ok done) t before = let prices = cut_costs (rounds_of t).list in prices ++ drop (length prices) before
prices_written (Err r) t before = before

unfoldable pub left_written : Verdict → Task → List ℕ → List ℕ
left_written (Ok done) t before = let left = (rounds_of t).left in left ++ drop (length left) before
left_written (Err r) t before = before
