use native.Mathlib.Omega.{arith}
use Rattle.distance.proofs.Members.{lower_start, lower_set, lower_skip}
use Rattle.distance.proofs.lower.Goals as goal

pub loop-f-init : goal.loop-f-init
loop-f-init c = rw (c.into_iter-f-iterator.ensures.into_iter_gives, c.members-f-items.ensures) (lower_start _ _ _)

pub loop-f-preserved-then-x-from : goal.loop-f-preserved-then-x-from
loop-f-preserved-then-x-from c = lower_set c.in-Some.ensures.steps c.loop-f.invariant (omega (arith, c.if-x-from.true))

pub loop-f-preserved : goal.loop-f-preserved
loop-f-preserved c = lower_skip c.in-Some.ensures.steps c.loop-f.invariant (omega (arith, c.if-x-from.false))
