use Rattle.report.specs.Writing.{Writes}
use Rattle.report.specs.Workers.{table_cuts}
use Rattle.report.proofs.text.Page.cut_lines.Given as goal

abbrev pub invariant-loop-round : goal.invariant-loop-round
invariant-loop-round l = Writes (table_cuts l.round 0 l.rows l.prices) l.initial.self l.self
