-- What the workers promise: those that go through a table of cuts, read the file, and cut its tables to the task.
use Rattle.std.specs.Prelude.{ℕ, zero, suc, ◌*◌, List, [], ◌++◌, take, get_or}
use Rattle.sets.specs.Words.{has, row}
use Rattle.task.specs.Tables.{Tables, tables}
use Rattle.task.specs.Refusal.{Verdict, or_else}
use Rattle.must.specs.Answer.{pass_verdict}
use Rattle.taskfile.specs.Judging.{file_verdict}
use Rattle.taskfile.specs.Meaning.{file_tables}
use Rattle.taskfile.specs.Answer.{fits_in}
use Rattle.report.specs.Text.{cut_line}
use Rattle.report.specs.Report.{set_lines, round_lines, report_room}

-- the lines of so many cuts, sixteen words each, and their costs, from the round of that number on
unfoldable pub table_cuts : ℕ → ℕ → List ℕ → List ℕ → List ℕ
table_cuts zero round rows prices = []
table_cuts (suc more) round rows prices =
    cut_line 1024 (get_or prices round 0) (has (row 16 round rows)) ++ table_cuts more (suc round) rows prices

-- the tables of a task that stands at the beginning of tables with room for more steps
abbrev pub first_steps : Tables → Tables
first_steps t = tables t.facts t.steps (take (4 * t.steps) t.needs) (take (4 * t.steps) t.sets) (take (4 * t.steps) t.clears) (take t.steps t.costs) t.start t.goal

-- whether the file or the task that it stands for is refused
abbrev pub report_verdict : List ℕ → Verdict
report_verdict file = or_else (file_verdict (fits_in report_room) file) (pass_verdict (file_tables file))

-- what is found of a task that is not refused
abbrev pub task_lines : Tables → List ℕ
task_lines t = set_lines t ++ round_lines t
