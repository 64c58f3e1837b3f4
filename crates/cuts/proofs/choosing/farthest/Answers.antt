use mathlib.Core.Logic.{inl, inr}
use Rattle.cuts.proofs.FarthestFound.{looked_farther, looked_nearer, looked_end}
use Rattle.cuts.proofs.choosing.farthest.Goals as goal
use Rattle.cuts.proofs.choosing.farthest.Goals.{then-found-n-via-then-found-n, then-found-n-via-else-found-n+then-most-here}

pub loop-f-preserved-in-loop-f : goal.loop-f-preserved-in-loop-f
loop-f-preserved-in-loop-f c =
    looked_farther _ _ _ c.requires.few c.requires.below _ _ _ c.loop-f.invariant _ _ c.in-Some.ensures.steps c.next.new.self.whole _ c.entry_at-here.ensures
    (elim c.then-found-n.branch [
      | then-found-n-via-then-found-n w ↦ inl w.if-found-n.true
      | then-found-n-via-else-found-n+then-most-here w ↦ inr w.if-most-here.true
    ])

pub loop-f-preserved : goal.loop-f-preserved
loop-f-preserved c =
    looked_nearer _ _ _ c.requires.few c.requires.below _ _ _ c.loop-f.invariant _ _ c.in-Some.ensures.steps c.next.new.self.whole _ c.entry_at-here.ensures
    c.if-found-n.false c.if-most-here.false

pub returns : goal.returns
returns c = record {
  choice = looked_end _ _ _ c.requires.few c.requires.below _ _ _ c.loop-f.invariant c.in-None.ensures.steps.0;
  most = c.loop-f.invariant.bound;
}
