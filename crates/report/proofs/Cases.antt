-- What is printed of a file is one of three: its first fault; 7, where the task that it stands for has no way to its goal; or the lines, where it has one. A task
-- that was read passes checking, so nothing else is refused.
use Prim.Native.Nat.{ℕ}
use mathlib.Core.Path.{◌≡◌, ◌∙◌}
use mathlib.Core.Bool.{false}
use mathlib.Core.List.{List, [], ◌++◌}
use Rattle.sets.specs.Tests.{Is}
use Rattle.sets.proofs.Tests.{no_true, no_of}
use Rattle.std.specs.Prelude.{Ok, Err}
use Rattle.task.specs.declared.refusal.Fault.TheVariants.{NoWay}
use Rattle.task.specs.Refusal.{Refusal, number_of}
use Rattle.task.specs.Tables.{view}
use Rattle.task.specs.Walks.{goal_holds}
use Rattle.task.proofs.Refusals.{refuse, skip, skip_fine, none_left}
use Rattle.reach.specs.Reach.{reach}
use Rattle.must.specs.Answer.{pass_verdict}
use Rattle.taskfile.specs.Judging.{file_verdict}
use Rattle.taskfile.specs.Meaning.{file_tables}
use Rattle.taskfile.specs.Answer.{fits_in}
use Rattle.taskfile.proofs.Bytes.{Bytes}
use Rattle.report.specs.Text.{refused_line}
use Rattle.report.proofs.FileLines.{file_checks}
use Rattle.report.specs.Report.{set_lines, round_lines, unless_refused, task_text, report_room, report_text}

pub report_refused : (file : List ℕ) (r : Refusal) → file_verdict (fits_in report_room) file ≡ Err r → report_text file ≡ refused_line (number_of r.fault) r.place
unfolding report_text unless_refused
report_refused file r e = rw e

module _ (file : List ℕ) (bytes : Bytes file) (fine : file_verdict (fits_in report_room) file ≡ Ok tt) where
  pub report_no_way : goal_holds (view (file_tables file)) (reach (view (file_tables file))) ≡ false → report_text file ≡ refused_line 7 0
  unfolding report_text task_text unless_refused pass_verdict
  report_no_way none = rw (fine, skip_fine _ (file_checks file bytes fine) ∙ refuse NoWay [] (no_true _ none))

  pub report_lines : Is (goal_holds (view (file_tables file)) (reach (view (file_tables file))))
      → report_text file ≡ set_lines (file_tables file) ++ round_lines (file_tables file)
  unfolding report_text task_text unless_refused pass_verdict
  report_lines some = rw (fine, skip_fine _ (file_checks file bytes fine) ∙ skip NoWay [] (no_of _ some) ∙ none_left)
