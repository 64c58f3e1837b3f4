use Rattle.report.specs.Text.{fields}
use Rattle.report.specs.Writing.{Writes}
use Rattle.report.proofs.text.Page.members.Given as goal

abbrev pub invariant-loop-member : goal.invariant-loop-member
invariant-loop-member g l = Writes (fields l.yielded) l.initial.self l.self
