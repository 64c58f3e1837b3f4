use mathlib.Core.Path.{sym, ◌∙◌}
use Rattle.report.proofs.FileLines.{refused_written, fine_written}
use Rattle.report.proofs.write_report.Goals as goal

pub returns-in-Err : goal.returns-in-Err
returns-in-Err c =
    refused_written _ _ _ _ _ _ (sym c.in-Err.is ∙ c.file_report.ensures.verdict) c.in-Err.ensures.written (c.from.ensures ∙ c.number.ensures) c.line.ensures

pub returns-in_default : goal.returns-in_default
returns-in_default c = fine_written _ _ _ (sym c.in_default.is ∙ c.file_report.ensures.verdict) c.in_default.ensures.written
