use Rattle.report.proofs.Writing.{writes_on}
use Rattle.report.proofs.text.Page.task_lines.Goals as goal

pub returns : goal.returns
returns c = writes_on _ _ _ _ _ (writes_on _ _ _ _ _ (writes_on _ _ _ _ _ c.line.ensures c.members_line.ensures) c.members_line-2.ensures) c.members_line-3.ensures
