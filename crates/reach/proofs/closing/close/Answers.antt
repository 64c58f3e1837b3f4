use Rattle.std.proofs.Common.{suc, ◌∙◌, sym, add-one, add-suc, suc-add, zero-add, arith}
use Rattle.sets.specs.Words.{has}
use Rattle.sets.proofs.Sets.{count_most}
use Rattle.reach.specs.Closing.{last}
use Rattle.reach.proofs.ClosedSets.{more_held, one_more}
use Rattle.reach.proofs.closing.close.Goals as goal

pub returns-then-within : goal.returns-then-within
returns-then-within g c =
    rw zero-add at (c.loop-given.invariant.closes 0 c.loop-given.set (last c.given-given.ensures (sym c.within.ensures ∙ c.if-within.true)))

pub overflow_add-passes : goal.overflow_add-passes
overflow_add-passes g c = omega (arith, c.loop-given.invariant.few, count_most 256 (has c.loop-given.set.words))

pub loop-given-smaller : goal.loop-given-smaller
loop-given-smaller g c =
    let more = more_held _ c.given-given.result _ c.joining-set.ensures c.within.ensures c.if-within.false in
    omega (arith, more, count_most 256 (has c.joining-set.result.words))

pub loop-given-preserved : goal.loop-given-preserved
loop-given-preserved g c = record {
  few =
      let more = more_held _ c.given-given.result _ c.joining-set.ensures c.within.ensures c.if-within.false in
      omega (arith, more, c.loop-given.invariant.few);
  closes =
      λ k end rest.
      let all = c.loop-given.invariant.closes (suc k) end (one_more _ _ _ c.joining-set.ensures c.within.ensures c.if-within.false _ c.given-given.ensures rest) in
      rw (add-one, add-suc) (rw suc-add at all);
}
