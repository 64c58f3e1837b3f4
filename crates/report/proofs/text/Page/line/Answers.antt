use Rattle.report.proofs.Fields.{line_written}
use Rattle.report.proofs.text.Page.line.Goals as goal

pub returns : goal.returns
returns c = line_written _ _ _ _ _ _ c.text.ensures c.fields.ensures c.text-2.ensures
