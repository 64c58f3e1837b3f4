use mathlib.Core.Path.{sym}
use native.Mathlib.Omega.{arith}
use lib.ListN.{length-take}
use Rattle.task.specs.Lent.{lent}
use Rattle.cuts.proofs.Due.{fine_room, rounds_due}
use Rattle.cuts.proofs.cuts.Goals as goal

pub slice_bounds-make_all-end : goal.slice_bounds-make_all-end
slice_bounds-make_all-end c = (fine_room (lent c.args.tables) _ _ _ c.in_ok-rounds.ensures.fine).2

pub slice_bounds-make_all-end-2 : goal.slice_bounds-make_all-end-2
slice_bounds-make_all-end-2 c =
    let room = fine_room (lent c.args.tables) _ _ _ c.in_ok-rounds.ensures.fine in
    sym (simp length-take (omega arith))

pub make_all-requires : goal.make_all-requires
make_all-requires c =
    let room = fine_room (lent c.args.tables) _ _ _ c.in_ok-rounds.ensures.fine in
    rw c.in_ok-rounds.ensures.same record {
      left = simp length-take (omega arith);
      due = rounds_due (lent c.args.tables) _ _ c.args.left.now c.in_ok-rounds.ensures.fine;
    }
