use mathlib.Core.Path.{refl, ◌∙◌}
use native.Mathlib.Omega.{arith}
use Rattle.cuts.proofs.RoundsMade.{rounds_start, rounds_end, room_left, round_asks, round_next, floor_room}
use Rattle.cuts.proofs.looping.Rounds.make_each.Goals as goal

pub loop-goal-init : goal.loop-goal-init
loop-goal-init c = record {
  places = record { rows = refl; prices = refl };
  kept = rounds_start c.args.self.now.task.valid c.requires.due c.requires.costs c.requires.settled;
}

pub make_one-cost-requires : goal.make_one-cost-requires
make_one-cost-requires c =
    let asks = round_asks c.args.self.now.task.valid c.requires.due c.loop-goal.invariant.kept c.goal_facts-goal.ensures c.set_distance.ensures c.loop-goal-test.true in
    record { room = asks.0; due = asks.1 }

pub overflow_add-floor : goal.overflow_add-floor
overflow_add-floor c =
    omega (
      arith,
      floor_room c.args.self.now.task.valid c.requires.due c.loop-goal.invariant.kept c.goal_facts-goal.ensures c.set_distance.ensures
          c.loop-goal-test.true c.make_one-cost.ensures.done,
    )

pub loop-goal-smaller : goal.loop-goal-smaller
loop-goal-smaller c =
    omega (
      arith,
      room_left c.args.self.now.task.valid c.requires.due c.loop-goal.invariant.kept c.goal_facts-goal.ensures c.set_distance.ensures
          c.loop-goal-test.true,
    )

pub loop-goal-preserved : goal.loop-goal-preserved
loop-goal-preserved c = record {
  places = record {
    rows = c.make_one-cost.ensures.places.rows ∙ c.loop-goal.invariant.places.rows;
    prices = c.make_one-cost.ensures.places.prices ∙ c.loop-goal.invariant.places.prices;
  };
  kept =
      round_next c.args.self.now.task.valid c.requires.due c.loop-goal.invariant.kept c.goal_facts-goal.ensures c.set_distance.ensures
      c.loop-goal-test.true c.make_one-cost.ensures.done;
}

pub returns-clause-done : goal.returns-clause-done
returns-clause-done c =
    rounds_end c.args.self.now.task.valid c.requires.due c.loop-goal.invariant.kept c.goal_facts-goal.ensures c.set_distance.ensures c.loop-goal-test.false
