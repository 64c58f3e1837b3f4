-- What the loop over the rounds and its body promise: what one round asks of the tables and leaves in them, and what all rounds do.
use Rattle.std.specs.Prelude.{ℕ, ◌*◌, ◌≤◌, ◌<◌, ◌≡◌, List, ◌++◌, length, drop, set}
use Rattle.sets.specs.Tests.{Is}
use Rattle.sets.specs.Words.{words_of, with_row}
use Rattle.task.specs.Limits.{limits}
use Rattle.task.specs.Task.{Task}
use Rattle.task.specs.Walks.{goal_holds}
use Rattle.reach.specs.Reach.{reach}
use Rattle.distance.specs.Distance.{entry, distances, goal_distance}
use Rattle.cuts.specs.declared.Cutting.{Cutting}
use Rattle.cuts.specs.Cut.{lowest_farthest}
use Rattle.cuts.specs.Rounds.{Round, lowered, round_of, floor_of, round_count}
use Rattle.cuts.specs.Answer.{rounds_of, cut_words, cut_costs}

-- the round under the present costs, as document 01 has it
abbrev pub the_round : Task → List ℕ → Round
the_round t costs = round_of lowest_farthest limits.mark t costs

-- the table holds the distances under the present costs
abbrev pub Settled : Task → List ℕ → List ℕ → Type 0
Settled t costs table = table ≡ distances t (entry costs) limits.mark

-- there is a cost for each step, and under these costs, of which the table holds the distances, the goal is away
pub record RoundDue (t : Task) (costs table : List ℕ) : Type 0 where
  pub as_many : length costs ≡ t.steps
  pub settled : Settled t costs table
  pub away : 0 < goal_distance t (entry costs) limits.mark

-- a round makes its row of the cuts, the price, the costs left and the distances under them
pub record RoundDone (t : Task) (round : ℕ) (rows prices costs rows₁ prices₁ costs₁ table₁ : List ℕ) (cost : ℕ) : Type 0 where
  pub cost_is : cost ≡ (the_round t costs).cost
  pub row_is : rows₁ ≡ with_row 16 round (words_of 16 (the_round t costs).cut) rows
  pub price_is : prices₁ ≡ set prices round (the_round t costs).cost
  pub left_is : costs₁ ≡ lowered t (the_round t costs) costs
  pub settled : Settled t costs₁ table₁

-- there is room for as many rounds as steps, and some way leads to the goal
pub record RoundsDue (t : Task) (rows prices : List ℕ) : Type 0 where
  pub room : 16 * t.steps ≤ length rows
  pub prices_room : t.steps ≤ length prices
  pub some_way : Is (goal_holds t (reach t))

-- all rounds: the cuts, their prices, the costs left, and the number of rounds and the floor
pub record RoundsDone (t : Task) (rows prices rows₁ prices₁ costs₁ : List ℕ) (answer : Cutting) : Type 0 where
  pub rows_are : rows₁ ≡ cut_words (rounds_of t).list ++ drop (length (cut_words (rounds_of t).list)) rows
  pub prices_are : prices₁ ≡ cut_costs (rounds_of t).list ++ drop (length (cut_costs (rounds_of t).list)) prices
  pub left_are : costs₁ ≡ (rounds_of t).left
  pub answer_is : answer ≡ record { rounds = round_count (rounds_of t).list; floor = floor_of (rounds_of t).list }
