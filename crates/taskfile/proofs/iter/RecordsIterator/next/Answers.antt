use mathlib.Core.Path.{sym, ap, ◌∙◌}
use lib.ListN.{length}
use Rattle.std.proofs.Common.{arith}
use Rattle.taskfile.proofs.Walking.{none_left, record_fits, end_next, other_next}
use Rattle.taskfile.proofs.iter.RecordsIterator.next.Goals as goal
use Rattle.taskfile.proofs.iter.RecordsIterator.next.Goals.{in-End, in_default}

pub returns-in_err-record-clause-steps : goal.returns-in_err-record-clause-steps
returns-in_err-record-clause-steps c =
    let none = none_left _ c.args.self.now.at c.record_at.ensures (sym c.ok.ensures.value ∙ c.in_err-record.was) in
    rw c.from_residual.ensures (none, none)

pub overflow_add-self : goal.overflow_add-self
overflow_add-self c =
    let fits = record_fits _ c.args.self.now.at c.record_at.ensures (sym c.ok.ensures.value ∙ c.in_ok-record.was) in
    omega (arith, fits)

pub returns-clause-steps : goal.returns-clause-steps
returns-clause-steps c =
    let is = sym c.ok.ensures.value ∙ c.in_ok-record.was in
    elim c.match-record.branch [
      | in-End w ↦ end_next _ c.args.self.now.at c.record_at.ensures is w.in-End.is w.self-is
      | in_default w ↦ other_next _ c.args.self.now.at c.record_at.ensures is w.in_default.not-End w.size.ensures w.self-is
    ]

pub returns-clause-goes : goal.returns-clause-goes
returns-clause-goes c = let shorter = ap length (returns-clause-steps c) in grind (arith, shorter)
