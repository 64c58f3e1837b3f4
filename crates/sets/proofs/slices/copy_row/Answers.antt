use Rattle.sets.proofs.Words.{row_copied}
use Rattle.sets.proofs.slices.copy_row.Goals as goal

pub returns-in-Some : goal.returns-in-Some
returns-in-Some c =
    row_copied _ c.args.number _ _ _ _ c.row_start-start.ensures c.in-Some.ensures.lookup.0.2 c.copy_from_slice.ensures.after c.copy_from_slice.ensures.len
    (λ j. c.type_inv.words j)
