use Rattle.std.proofs.Common.{arith, rules}
use Rattle.sets.proofs.Loops.{loops, fill_full, fill_part}
use Rattle.sets.proofs.slices.fill_up_to.Goals as goal
use Rattle.sets.proofs.slices.fill_up_to.Goals.{then-left-lt64, else-left-lt64}

pub loop-word-preserved : goal.loop-word-preserved
loop-word-preserved c = elim c.if-left-lt64.branch [
  | then-left-lt64 t ↦ record { filled = rw t.word-is (search (rules, fill_part)); below = omega arith }
  | else-left-lt64 t ↦ record { filled = rw t.word-is (search (rules, fill_full)); below = omega arith }
]

pub returns : goal.returns
returns c = search loops
