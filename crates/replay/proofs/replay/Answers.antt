use Rattle.std.proofs.Common.{rules, ◌∙◌, sym}
use Rattle.replay.proofs.Answers.{refused_task, all_answered}
use Rattle.replay.proofs.replay.Goals as goal

pub returns-in_err-task : goal.returns-in_err-task
returns-in_err-task c = search (rules, refused_task)

pub returns : goal.returns
returns c =
    all_answered _ _ (rw c.in_ok-task.ensures.same at (sym c.check_walk.ensures ∙ c.in_ok-check_walk.was)) c.empty.ensures
    (rw c.in_ok-task.ensures.same at c.follow.ensures)
