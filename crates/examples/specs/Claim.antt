-- The one claim over the table: every row's answers are what the definitions give that the operations' contracts cite.
use Rattle.std.specs.Prelude.{ℕ, ◌*◌, ◌≡◌, List, [], ◌∷◌, ◌++◌, map, All, Ok}
use Rattle.task.specs.Refusal.{Verdict}
use Rattle.task.specs.Tables.{view}
use Rattle.task.specs.Check.{verdict_of}
use Rattle.reach.specs.Answer.{reached_of}
use Rattle.distance.specs.Answer.{distances_verdict, written_by}
use Rattle.must.specs.Answer.{passed_of, taken_of}
use Rattle.cuts.specs.Answer.{cuts_verdict, cutting_by, cuts_written, prices_written, left_written}
use Rattle.replay.specs.Replay.{replayed_of}
use Rattle.examples.specs.Table.{steps, Cut, Row, table}

-- the rows of all cuts, and their costs
abbrev pub cut_rows : List Cut → List ℕ
cut_rows [] = []
cut_rows (c ∷ cs) = (steps c.steps).words ++ cut_rows cs

abbrev pub costs_of : List Cut → List ℕ
costs_of cs = map (λ c. c.cost) cs

-- the verdict of cutting with tables of 16m words, m costs and m left costs
abbrev pub cuts_judged : Row → Verdict
cuts_judged r = cuts_verdict r.task (16 * r.task.steps) r.task.steps r.task.steps

-- each operation's answer on a row's tables
pub record Right (r : Row) : Type 0 where
  pub check : verdict_of r.task ≡ r.checked
  -- the set and the number of passes
  pub reach : reached_of r.task ≡ r.reached
  -- what is written first into a table of n numbers
  pub distances : written_by (distances_verdict r.task r.task.facts) r.task [] ≡ r.distances
  pub must : passed_of r.task ≡ r.must
  pub take : taken_of r.task ≡ r.take
  -- the number of rounds and the floor; and what is written first into tables of 16m words, m costs and m left costs
  pub cutting : cutting_by (cuts_judged r) (view r.task) ≡ r.cutting
  pub rows : cuts_written (cuts_judged r) (view r.task) [] ≡ cut_rows r.cuts
  pub prices : prices_written (cuts_judged r) (view r.task) [] ≡ costs_of r.cuts
  pub left : left_written (cuts_judged r) (view r.task) [] ≡ r.left
  -- each walk's replay
  pub walks : map (λ w. replayed_of r.task w.steps) r.walks ≡ map (λ w. Ok w.answer) r.walks

-- all rows
abbrev pub AllRight : Type 0
AllRight = All Right table
