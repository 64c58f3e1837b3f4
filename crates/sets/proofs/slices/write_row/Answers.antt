use Rattle.std.proofs.Common.{arith, rules}
use Rattle.sets.proofs.Rows.{row_written, no_such_row}
use Rattle.sets.proofs.slices.write_row.Goals as goal

pub returns-then-words-table : goal.returns-then-words-table
returns-then-words-table c =
    row_written _ _ c.args.number _ c.row_start-start.ensures _ (omega arith) c.copy_from_slice.ensures.after c.if-words-table.true

pub returns-else-words-table : goal.returns-else-words-table
returns-else-words-table c = search (rules, no_such_row)
