use mathlib.Core.Path.{◌∙◌}
use Rattle.report.proofs.Fields.{field_written}
use Rattle.report.proofs.text.Page.field.Goals as goal

pub returns : goal.returns
returns c = field_written _ _ _ _ _ c.ranges.number.fits (c.as_bytes.ensures.value ∙ c.format.ensures.text) c.text.ensures c.text-2.ensures
