use mathlib.Core.Path.{sym, ◌∙◌}
use native.Mathlib.Omega.{arith}
use Rattle.distance.proofs.Relaxing.{relax_off, relax_on}
use Rattle.distance.proofs.relax.Goals as goal
use Rattle.distance.proofs.relax.Goals.{then-not-has, else-not-has}

pub loop-step-preserved : goal.loop-step-preserved
loop-step-preserved c =
    elim c.if-not-has.branch [
      | then-not-has w ↦
          rw (w.table-is, w.again-is)
          (relax_on _ _ _ _ _ (omega arith) (sym c.has.ensures ∙ w.if-not-has.true) c.loop-step.invariant w.relax_by-again.ensures)
      | else-not-has w ↦ rw (w.table-is, w.again-is) (relax_off _ _ _ _ _ (sym c.has.ensures ∙ w.if-not-has.false) c.loop-step.invariant)
    ]
