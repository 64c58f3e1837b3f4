use mathlib.Core.Path.{sym, ap, ◌∙◌}
use mathlib.Core.List.{◌∷◌}
use denote.Enum.Bare.{same_true, same_false}
use Rattle.sets.specs.Sets.{added}
use Rattle.sets.specs.Words.{has, words_of}
use Rattle.taskfile.specs.contracts.format.Part.{the_type}
use Rattle.taskfile.specs.Workers.{records_left}
use Rattle.taskfile.proofs.Filling.{gather_start, gather_own, gather_other, gather_end, gather_over}
use Rattle.taskfile.proofs.fill.facts_named.Goals as goal

pub loop-record-init : goal.loop-record-init
loop-record-init c = record {
  can = tt;
  ends = tt;
  gathered = gather_start c.args.part _ c.empty-facts.ensures (ap records_left c.into_iter-record-iterator.ensures.into_iter_gives);
}

pub loop-record-preserved-then-eq : goal.loop-record-preserved-then-eq
loop-record-preserved-then-eq c = record {
  can = tt;
  ends = tt;
  gathered =
      let named = c.in-Some.ensures.steps ∙ ap (λ r. r ∷ records_left c.next.new.self) c.in-Names.is in
      gather_own c.args.part _ c.in-Names.named_part c.in-Names.fact c.loop-record.invariant.gathered named
      (same_true the_type tt _ _ (sym c.eq.ensures ∙ c.if-eq.true))
      (c.with-facts.ensures ∙ ap (λ f. words_of 4 (added (has c.loop-record.facts.words) f)) c.from.ensures);
}

pub loop-record-preserved : goal.loop-record-preserved
loop-record-preserved c = record {
  can = tt;
  ends = tt;
  gathered =
      let named = c.in-Some.ensures.steps ∙ ap (λ r. r ∷ records_left c.next.new.self) c.in-Names.is in
      gather_other c.args.part _ c.in-Names.named_part c.in-Names.fact c.loop-record.invariant.gathered named
      (same_false the_type _ _ (sym c.eq.ensures ∙ c.if-eq.false));
}

pub returns-in-None : goal.returns-in-None
returns-in-None c = gather_end c.args.part _ c.loop-record.invariant.gathered c.in-None.ensures.steps.0

pub returns-in_default : goal.returns-in_default
returns-in_default c = gather_over c.args.part _ c.in-Some.record c.loop-record.invariant.gathered c.in-Some.ensures.steps c.in_default.not-Names
