use mathlib.Core.Path.{ap, ◌∙◌}
use mathlib.Core.List.{◌∷◌}
use Rattle.taskfile.specs.Workers.{records_left}
use Rattle.taskfile.proofs.Filling.{fill_skip, step_inside, fill_next, fill_end}
use Rattle.taskfile.proofs.fill.fill_steps.Goals as goal

pub bounds-tables-step : goal.bounds-tables-step
bounds-tables-step c =
    step_inside _ _ _ _ _ c.loop-record.invariant.filling c.in-Step.cost
    (c.in-Some.ensures.steps ∙ ap (λ r. r ∷ records_left c.next.new.self) c.in-Step.is)
    c.requires

pub loop-record-preserved-in-Step : goal.loop-record-preserved-in-Step
loop-record-preserved-in-Step c = record {
  same = record {
    needs = c.loop-record.invariant.same.needs;
    sets = c.loop-record.invariant.same.sets;
    clears = c.loop-record.invariant.same.clears;
    costs = c.loop-record.invariant.same.costs;
  };
  filling =
      fill_next _ _ _ _ _ c.loop-record.invariant.filling c.in-Step.cost
      (c.in-Some.ensures.steps ∙ ap (λ r. r ∷ records_left c.next.new.self) c.in-Step.is)
      c.requires c.facts_named.ensures c.put_row.ensures c.facts_named-in-Step.ensures c.put_row-in-Step.ensures c.facts_named-in-Step-2.ensures
      c.put_row-in-Step-2.ensures;
}

pub loop-record-preserved : goal.loop-record-preserved
loop-record-preserved c = record {
  same = c.loop-record.invariant.same;
  filling = fill_skip _ _ _ _ _ c.loop-record.invariant.filling c.in-Some.record c.in-Some.ensures.steps c.in_default-record.not-Step;
}

pub returns : goal.returns
returns c =
    let filled = fill_end _ _ _ _ _ c.loop-record.invariant.filling c.in_default.ensures.steps.0 in
    record { same = c.loop-record.invariant.same; needs = filled.needs_read; sets = filled.sets_read; clears = filled.clears_read; costs = filled.costs_read }
