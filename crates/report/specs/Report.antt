-- The report of document 01: what is printed of a task's tables, and of a task file.
use Rattle.std.specs.Prelude.{List, [], ◌∷◌, ◌++◌, ℕ, ◌*◌, Ok, Err}
use Rattle.task.specs.Refusal.{Verdict, number_of}
use Rattle.task.specs.Tables.{Tables, view}
use Rattle.reach.specs.Reach.{reach}
use Rattle.must.specs.Must.{must_facts, must_steps}
use Rattle.must.specs.Answer.{pass_verdict}
use Rattle.cuts.specs.Rounds.{Round, floor_of}
use Rattle.cuts.specs.Answer.{rounds_of}
use Rattle.taskfile.specs.declared.cursor.Room.{Room}
use Rattle.taskfile.specs.Judging.{file_verdict}
use Rattle.taskfile.specs.Meaning.{file_tables}
use Rattle.taskfile.specs.Answer.{room_of, fits_in}
use Rattle.report.specs.Text.{task_line, reach_line, must_line, take_line, cut_line, floor_line, refused_line}

-- facts and steps; reachable facts; must-pass facts; must-pass steps
unfoldable pub set_lines : Tables → List ℕ
set_lines t =
    task_line t.facts t.steps
    ++ reach_line t.facts (reach (view t))
    ++ must_line t.facts (must_facts (view t))
    ++ take_line t.steps (must_steps (view t))

-- for each round the cut's cost and then its steps, of m
unfoldable pub cut_lines : ℕ → List Round → List ℕ
cut_lines m [] = []
cut_lines m (r ∷ rs) = cut_line m r.cost r.cut ++ cut_lines m rs

-- the rounds, and the floor
unfoldable pub round_lines : Tables → List ℕ
round_lines t = let rounds = (rounds_of (view t)).list in cut_lines t.steps rounds ++ floor_line (floor_of rounds)

-- a refusal prints only "refused", number, place
unfoldable pub unless_refused : Verdict → List ℕ → List ℕ
unless_refused (Ok done) text = text
unless_refused (Err r) text = refused_line (number_of r.fault) r.place

-- the report on a task: 7 where no way leads to the goal
unfoldable pub task_text : Tables → List ℕ
task_text t = unless_refused (pass_verdict t) (set_lines t ++ round_lines t)

-- ---- the file

-- the program has room for 256 steps; `STEPS`
abbrev pub steps_room : ℕ
steps_room = 256

-- in tables of so many words and costs
abbrev pub report_room : Room
report_room = room_of (4 * steps_room) (4 * steps_room) (4 * steps_room) steps_room 4 4

-- the most bytes that a report has, by `report_short` in proofs/Lengths.antt; `LONGEST`
abbrev pub longest_report : ℕ
longest_report = 300000

-- the whole report on a file: the first fault in it, or the report on the task that it stands for
unfoldable pub report_text : List ℕ → List ℕ
report_text file = unless_refused (file_verdict (fits_in report_room) file) (task_text (file_tables file))
