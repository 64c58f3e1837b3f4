use mathlib.Core.Path.{refl, sym}
use borrow.Author.Tests.{not-false}
use Rattle.std.proofs.lemmas.Bool.{leb-true}
use Rattle.task.specs.declared.refusal.Fault.TheVariants.{ShortResult}
use Rattle.task.specs.Lent.{lent}
use Rattle.task.proofs.Refusals.{fine_if}
use Rattle.distance.proofs.Relaxing.{begun_distances}
use Rattle.distance.proofs.Answering.{table_fine}
use Rattle.distance.proofs.distances.Goals as goal

pub returns-clause-table : goal.returns-clause-table
returns-clause-table c =
    table_fine (lent c.args.tables) c.args.out.now c.in_ok-check.ensures refl (leb-true _ _ (not-false _ (fine_if _ ShortResult (sym c.in_ok-unless.ensures))))
    _ _ _ c.empty.ensures c.start_facts.ensures (begun_distances _ _ _ _ _ _ _ _ _ _ c.begin_distances.ensures c.settle.ensures)
