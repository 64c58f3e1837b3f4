use Rattle.report.proofs.Fields.{fields_none, fields_next}
use Rattle.report.proofs.text.Page.members.Goals as goal

pub loop-member-init : goal.loop-member-init
loop-member-init g c = fields_none _

pub loop-member-preserved : goal.loop-member-preserved
loop-member-preserved g c = fields_next _ _ _ _ _ c.loop-member.invariant c.field.ensures
