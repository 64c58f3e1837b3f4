use mathlib.Core.Path.{◌∙◌}
use Rattle.sets.proofs.Words.{within_made_l}
use Rattle.task.proofs.tables.Tables.needs_hold.Goals as goal

pub returns : goal.returns
returns c = c.within.ensures ∙ within_made_l 4 _ _ _ c.needs_of.ensures
