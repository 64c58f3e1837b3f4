use borrow.Author.Rules.{rules}
use Rattle.report.proofs.Laying.{laid_answer}
use Rattle.report.proofs.report.Goals as goal

pub returns : goal.returns
returns c = laid_answer _ _ _ _ _ c.new-page.ensures.empty c.write_report.ensures (search rules)
