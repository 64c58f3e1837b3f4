use Prim.Native.Nat.{ℕ, ◌+◌, ◌-◌, ◌*◌}
use mathlib.Core.Path.{◌≡◌, ap}
use native.Mathlib.Omega.{arith}
use Rattle.sets.specs.Words.{row}
use Rattle.task.proofs.row.part.Goals as goal

pub returns : goal.returns
unfolding row
returns c =
    let s = c.args.step in
    let first : 4 * s ≡ s * 4 = omega arith in
    let four : s * 4 + 4 - s * 4 ≡ 4 = omega arith in
    record {
      words = rw (first, four);
      place = ap (λ (k : ℕ). (c.args.table.ref_ptr.0, k)) (omega arith);
    }
