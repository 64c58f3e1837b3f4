use borrow.Author.Rules.{rules}
use Rattle.cuts.proofs.Begun.{settled_begun}
use Rattle.cuts.proofs.looping.Rounds.make_all.Goals as goal

pub make_each-requires : goal.make_each-requires
make_each-requires c = record {
  costs = search rules;
  settled = settled_begun c.args.self.now.task.valid (search rules) c.start_facts.ensures c.empty.ensures (search rules) c.begin_distances.ensures c.settle.ensures;
  due = c.requires.due;
}
