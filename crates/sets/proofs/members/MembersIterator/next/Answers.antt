use Rattle.std.proofs.Common.{length, ap, sym, ◌∙◌, arith}
use Rattle.sets.proofs.Words.{whole_made}
use Rattle.sets.proofs.Listing.{gives_lowest, gives_none}
use Rattle.sets.proofs.members.MembersIterator.next.Goals as goal

pub returns-in_err-lowest-clause-steps : goal.returns-in_err-lowest-clause-steps
returns-in_err-lowest-clause-steps g c =
    let none = gives_none g.row.WORDS c.args.self.now.left.words (omega arith) (sym c.in_err-lowest.was ∙ c.lowest_member.ensures) in
    rw c.from_residual.ensures (none, none)

pub returns-clause-steps : goal.returns-clause-steps
returns-clause-steps g c =
    gives_lowest g.row.WORDS c.args.self.now.left.words c.without-self.result.words c.in_ok-lowest.lowest (omega arith)
    (sym c.in_ok-lowest.was ∙ c.lowest_member.ensures) c.without-self.ensures

pub returns-clause-goes : goal.returns-clause-goes
returns-clause-goes g c = let shorter = ap length (returns-clause-steps g c) in grind (arith, shorter)

pub invariant_of-self-clause-whole : goal.invariant_of-self-clause-whole
invariant_of-self-clause-whole g c = whole_made g.row.WORDS c.without-self.result.words _ c.without-self.ensures
