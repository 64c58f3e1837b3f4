-- Each turn the verdict on the file is the verdict on what is left, and the cursor goes on.
use Prim.Native.Nat.{◌-◌}
use lib.ListN.{length}
use Rattle.taskfile.specs.Answer.{fits_in}
use Rattle.taskfile.proofs.Judging.{Going}
use Rattle.taskfile.proofs.judge.judge_records.Given as goal

abbrev pub invariant-loop-next : goal.invariant-loop-next
invariant-loop-next l = Going (fits_in l.room) l.file l.cursor

abbrev pub decreases-loop-next : goal.decreases-loop-next
decreases-loop-next l = length l.file - l.cursor.at
