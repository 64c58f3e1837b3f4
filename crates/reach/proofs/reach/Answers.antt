use Rattle.reach.proofs.Answers.{all_found}
use Rattle.reach.proofs.reach.Goals as goal

pub returns : goal.returns
returns c =
    all_found _ c.in_ok-task.ensures.fine c.empty.ensures (rw c.in_ok-task.ensures.same at c.reach_without.ensures)
