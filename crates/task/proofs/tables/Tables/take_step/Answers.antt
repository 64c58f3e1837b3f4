use borrow.Author.Rules.{rules}
use Rattle.task.proofs.RowsRead.{taken_made}
use Rattle.task.proofs.tables.Tables.take_step.Goals as goal

pub returns : goal.returns
returns c = search (rules, taken_made)
