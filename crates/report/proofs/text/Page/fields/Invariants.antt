use lib.ListN.{take}
use Rattle.report.specs.Text.{fields}
use Rattle.report.specs.Writing.{Writes}
use Rattle.report.proofs.text.Page.fields.Given as goal

abbrev pub invariant-loop-number : goal.invariant-loop-number
invariant-loop-number l = Writes (fields (take l.number-index l.numbers)) l.initial.self l.self
