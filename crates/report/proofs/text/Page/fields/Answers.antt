use native.Mathlib.Omega.{arith}
use Rattle.std.proofs.lemmas.List.{take_more}
use Rattle.report.proofs.Fields.{fields_none, fields_next}
use Rattle.report.proofs.text.Page.fields.Goals as goal

pub loop-number-init : goal.loop-number-init
loop-number-init c = fields_none _

pub loop-number-preserved : goal.loop-number-preserved
loop-number-preserved c = rw (take_more c.args.numbers.now c.loop-number.number-index 0 (omega arith)) (fields_next _ _ _ _ _ c.loop-number.invariant c.field.ensures)
