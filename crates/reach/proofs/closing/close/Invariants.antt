-- Passes from the set that is held, with those made so far, are passes from the seeds; each pass so far but the first found one more member.
use Rattle.std.proofs.Common.{ℕ, suc, ◌+◌, ◌-◌, ◌≤◌}
use Rattle.sets.specs.Sets.{count}
use Rattle.sets.specs.Words.{has}
use Rattle.reach.specs.Closing.{Facts, Closes}
use Rattle.reach.proofs.closing.close.Given as goal

abbrev pub invariant-loop-given : goal.invariant-loop-given
invariant-loop-given g l =
    let gives = g.R.Rule.gives l.rule in
    record {
      few : l.passes ≤ count 256 (has l.set.words) + 1;
      closes : (more : ℕ) (end : Facts) → Closes gives (suc more) l.set end → Closes gives (more + l.passes) l.fn.seeds end;
    }

abbrev pub decreases-loop-given : goal.decreases-loop-given
decreases-loop-given g l = 256 - count 256 (has l.set.words)
