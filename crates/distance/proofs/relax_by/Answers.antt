use Prim.Native.Nat.{◌+◌}
use mathlib.Core.Path.{◌≡◌}
use Rattle.sets.specs.Words.{has}
use Rattle.sets.proofs.Words.{row_read}
use Rattle.distance.specs.Distance.{largest, entry}
use Rattle.distance.proofs.relax_by.Goals as goal

pub returns : goal.returns
returns c =
    let needs = row_read 4 c.args.step c.args.tables.needs.now c.needs_of.ensures in
    let sets = row_read 4 c.args.step c.args.tables.sets.now c.sets_of.ensures in
    let sum : c.from.result + c.from-2.result ≡ c.args.cost + largest 256 (has c.needs_of.result.words) (entry c.args.table.now) = cc in
    rw (← needs, ← sets, ← sum) c.lower.ensures
