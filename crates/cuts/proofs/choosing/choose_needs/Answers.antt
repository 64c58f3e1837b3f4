use native.Mathlib.Omega.{arith}
use Rattle.std.proofs.lemmas.Grind.{common_steps}
use Rattle.task.specs.Lent.{lent}
use Rattle.task.specs.Tables.{view}
use Rattle.cuts.proofs.FarthestFound.{read_below, choice_read, choices_written}
use Rattle.cuts.proofs.choosing.choose_needs.Goals as goal

pub farthest-requires : goal.farthest-requires
farthest-requires c = record { few = c.args.task.valid.few_facts; below = read_below _ c.args.task.valid _ _ c.needs_of.ensures }

pub loop-step-preserved : goal.loop-step-preserved
loop-step-preserved c =
    let e = choice_read (lent c.args.task.tables) c.args.task.valid c.loop-step.step _ c.needs_of.ensures c.args.table.now c.farthest.result c.farthest.ensures.choice in
    grind (arith, common_steps)

pub returns : goal.returns
returns c = choices_written (view (lent c.args.task.tables)) c.args.table.now c.loop-step.chosen (omega arith) (λ s l. c.loop-step.invariant s (omega arith))
