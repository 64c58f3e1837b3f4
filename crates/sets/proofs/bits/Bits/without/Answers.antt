use Rattle.std.proofs.Common.{rules, arith}
use Rattle.sets.proofs.Methods.{without_bit, without_none}
use Rattle.sets.proofs.bits.Bits.without.Goals as goal

pub returns-then-f : goal.returns-then-f
returns-then-f g c = without_bit c.args.self.words c.args.f g.row.WORDS (omega arith) (λ i. search rules) c.if-f.true

pub returns-else-f : goal.returns-else-f
returns-else-f g c = without_none c.args.self.words c.args.f g.row.WORDS (omega arith) (λ i. search rules) c.if-f.false
