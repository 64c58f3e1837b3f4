use Rattle.sets.proofs.Loops.{loops}
use Rattle.sets.proofs.slices.copy_part.Goals as goal

pub loop-i-preserved : goal.loop-i-preserved
loop-i-preserved c = search loops

pub returns : goal.returns
returns c = search loops
