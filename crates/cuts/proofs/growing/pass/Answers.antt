use mathlib.Core.Path.{◌≡◌}
use native.Mathlib.Omega.{arith}
use Rattle.cuts.proofs.GrownSets.{pass_start, pass_next}
use Rattle.cuts.proofs.growing.pass.Goals as goal

pub loop-step-init : goal.loop-step-init
loop-step-init g c = λ n by rule below_n. pass_start n by c.args.set.words below_n

pub loop-step-preserved : goal.loop-step-preserved
loop-step-preserved g c = λ n by rule below_n.
    pass_next n by rule.few rule.rising c.loop-step.step _ (c.loop-step.invariant n by rule below_n)
    (rule.grown _ _ _ (omega arith) c.grown-next.ensures)

pub returns : goal.returns
returns g c =
    let end : c.loop-step.step ≡ c.args.m = omega arith in
    record { by_rule = λ n by rule below_n. rw end at (c.loop-step.invariant n by rule below_n) }
