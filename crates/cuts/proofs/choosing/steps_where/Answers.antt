use mathlib.Core.Path.{sym, ap, ◌∙◌}
use native.Mathlib.Omega.{arith}
use Rattle.sets.specs.declared.bits.Bits.{Bits}
use Rattle.cuts.proofs.StepsPassed.{passed_start, passed_with, passed_over}
use Rattle.cuts.proofs.choosing.steps_where.Goals as goal
use Rattle.cuts.proofs.choosing.steps_where.Goals.{then-test, else-test}

pub loop-step-init : goal.loop-step-init
loop-step-init g c = λ P rule. passed_start P c.empty-passed.ensures

pub loop-step-preserved : goal.loop-step-preserved
loop-step-preserved g c = λ P rule.
    let told = rule _ _ (omega arith) c.test.ensures in
    elim c.if-test.branch [
      | then-test w ↦
          passed_with P c.loop-step.step (c.loop-step.invariant P rule) (sym told ∙ w.if-test.true)
          (ap (λ (s : Bits 16). s.words) w.passed-is ∙ w.with-passed.ensures)
      | else-test w ↦
          passed_over P c.loop-step.step (c.loop-step.invariant P rule) (sym told ∙ w.if-test.false) (ap (λ (s : Bits 16). s.words) w.passed-is)
    ]
