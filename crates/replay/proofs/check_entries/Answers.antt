use borrow.Author.Rules.{rules}
use Rattle.replay.proofs.Judging.{entries_past, entries_fine}
use Rattle.replay.proofs.check_entries.Goals as goal

pub returns-in-Some : goal.returns-in-Some
returns-in-Some c = search (rules, entries_past)

pub returns-in-None : goal.returns-in-None
returns-in-None c = search (rules, entries_fine)
