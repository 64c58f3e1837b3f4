-- So many rounds have been made, and their tables are as document 01 has them.
use Prim.Native.Nat.{◌-◌}
use Rattle.task.specs.Lent.{lent}
use Rattle.task.specs.Tables.{view}
use Rattle.cuts.specs.Places.{KeepsPlaces}
use Rattle.cuts.proofs.RoundsMade.{RoundsKept}
use Rattle.cuts.proofs.looping.Rounds.make_each.Given as goal

abbrev pub invariant-loop-goal : goal.invariant-loop-goal
invariant-loop-goal l = record {
  places : KeepsPlaces l.initial.cuts l.cuts;
  kept : RoundsKept (view (lent l.self.task.tables)) l.initial.cuts.rows.now l.initial.cuts.prices.now l.cuts.rows.now l.cuts.prices.now l.left l.distances l.rounds l.floor;
}

abbrev pub decreases-loop-goal : goal.decreases-loop-goal
decreases-loop-goal l = l.self.task.tables.sizes.steps - l.rounds
