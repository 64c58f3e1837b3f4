use Rattle.std.proofs.Common.{rules, arith}
use Rattle.sets.proofs.Words.{own_words}
use Rattle.sets.proofs.members.Members.of.Goals as goal

pub invariant_of-result-clause-whole : goal.invariant_of-result-clause-whole
invariant_of-result-clause-whole g c = own_words g.row.WORDS c.args.set.words (omega arith) (λ i. search rules)
