use Rattle.report.proofs.TableOfCuts.{table_none, table_next}
use Rattle.report.proofs.text.Page.cut_lines.Goals as goal

pub loop-round-init : goal.loop-round-init
loop-round-init c = table_none _ _ _

pub loop-round-preserved : goal.loop-round-preserved
loop-round-preserved c = table_next _ _ _ _ _ _ _ c.row.ensures c.loop-round.invariant c.members_line.ensures
