use Rattle.report.proofs.Fields.{line_written, fields_on}
use Rattle.report.proofs.text.Page.members_line.Goals as goal

pub returns : goal.returns
returns g c = line_written _ _ _ _ _ _ c.text.ensures (fields_on _ _ _ _ _ c.fields.ensures c.members.ensures) c.text-2.ensures
