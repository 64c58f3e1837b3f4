use mathlib.Core.Path.{sym, ◌∙◌}
use borrow.Author.Rules.{rules}
use Rattle.cuts.proofs.Begun.{counted_begun}
use Rattle.cuts.proofs.Due.{reach_read, verdict_told}
use Rattle.cuts.proofs.looping.Rounds.due.Goals as goal

pub returns-in_err-unless-2-clause-refused : goal.returns-in_err-unless-2-clause-refused
returns-in_err-unless-2-clause-refused c =
    let same = c.in_ok-task.ensures.same in
    let last = verdict_told (rw same at c.in_ok-task.task.valid) c.empty.ensures (rw same at c.reach_without.ensures) c.in_ok-task.ensures.fine c.goal_facts.ensures c.within.ensures
    c.args.words c.args.prices c.args.left c.has_room.ensures (sym c.in_ok-unless.ensures) in
    search rules

pub invariant_of-result : goal.invariant_of-result
invariant_of-result c = record {
  counted_is = counted_begun c.in_ok-task.task.valid (reach_read c.in_ok-task.task.valid c.empty.ensures c.reach_without.ensures) c.counted_steps.ensures;
}

pub returns-clause-fine : goal.returns-clause-fine
returns-clause-fine c =
    let same = c.in_ok-task.ensures.same in
    verdict_told (rw same at c.in_ok-task.task.valid) c.empty.ensures (rw same at c.reach_without.ensures) c.in_ok-task.ensures.fine c.goal_facts.ensures c.within.ensures
    c.args.words c.args.prices c.args.left c.has_room.ensures (sym c.in_ok-unless.ensures)
    ∙ sym c.in_ok-unless-2.ensures
