use native.Mathlib.Omega.{arith}
use borrow.Author.Rules.{rules}
use Rattle.cuts.proofs.GrownSets.{tail_none, tail_one, tail_begin}
use Rattle.cuts.proofs.growing.Graph.with_tail.Goals as goal
use Rattle.cuts.proofs.growing.Graph.with_tail.Goals.{else-tail-self-via-then-tail-self+else-free_into, else-tail-self-via-else-tail-self}

pub returns-then-free_into : goal.returns-then-free_into
returns-then-free_into c = tail_one _ _ _ _ _ _ c.free_into.ensures c.if-free_into.true c.from-tail.ensures (omega arith) c.with.ensures

pub returns-else-tail-self : goal.returns-else-tail-self
returns-else-tail-self c =
    elim c.else-tail-self.branch [
      | else-tail-self-via-then-tail-self+else-free_into w ↦ tail_none _ _ _ _ _ _ w.free_into.ensures (search rules) (search rules) w.if-free_into.false
      | else-tail-self-via-else-tail-self w ↦ tail_begin _ _ _ _ _ _ (search rules) (search rules) c.from-tail.ensures (omega arith)
    ]
