use Rattle.cuts.proofs.OneRound.{goals_below, nearest_below, cost_fits, round_made}
use Rattle.cuts.proofs.looping.Rounds.make_one.Goals as goal

pub farthest-choice-requires : goal.farthest-choice-requires
farthest-choice-requires c = record { few = c.args.self.now.task.valid.few_facts; below = goals_below c.args.self.now.task.valid c.goal_facts.ensures }

pub cut_before-cut-requires : goal.cut_before-cut-requires
cut_before-cut-requires c =
    nearest_below c.args.self.now.task.valid c.args.self.now.counted_is c.requires.due c.choose_needs.ensures c.goal_facts.ensures c.farthest-choice.ensures.choice

pub take_off-requires : goal.take_off-requires
take_off-requires c =
    cost_fits c.args.self.now.task.valid c.args.self.now.counted_is c.requires.due c.choose_needs.ensures c.goal_facts.ensures c.farthest-choice.ensures.choice
    c.cut_before-cut.ensures c.cheapest-cost.ensures

pub returns-clause-done : goal.returns-clause-done
returns-clause-done c =
    round_made c.args.self.now.task.valid c.args.self.now.counted_is c.requires.due c.choose_needs.ensures c.goal_facts.ensures c.farthest-choice.ensures.choice
    c.cut_before-cut.ensures c.cheapest-cost.ensures c.take_off.ensures c.empty.ensures c.settle.ensures c.write.ensures.rows c.write.ensures.prices
