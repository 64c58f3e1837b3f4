-- Every refusal that is printed has a number up to 16 and a place up to 65,535: a task's are at place 0, and a file's fault has an offset within the longest file.
use Prim.Native.Nat.{ℕ, ◌≤◌}
use mathlib.Core.Bool.{Bool, true, false}
use mathlib.Core.List.{List}
use native.Mathlib.Omega.{arith}
use Rattle.task.specs.declared.refusal.Fault.{Fault}
use Rattle.task.specs.declared.refusal.Fault.TheVariants.{FactCount, StepCount, TableLength, FactNumber, StepCost, NoWay}
use Rattle.task.specs.Tables.{Tables}
use Rattle.task.specs.Refusal.{Verdict, number_of, refused_if, or_else, first_refusal}
use Rattle.task.specs.Check.{sizes_verdict, verdict_of}
use Rattle.must.specs.Answer.{pass_verdict}
use Rattle.taskfile.specs.Records.{longest_file}
use Rattle.taskfile.specs.Judging.{file_verdict}
use Rattle.taskfile.proofs.Places.{Given, given_or, given_most, file_given_most}

-- a refusal's number is at most 16, and its place at most this
abbrev pub Within : ℕ → Verdict → Type 0
Within most v = Given (λ k. number_of k ≤ 16) most v

pub within_more : (a b : ℕ) (v : Verdict) → a ≤ b → Within a v → Within b v
within_more a b v l h = given_most (λ k. number_of k ≤ 16) a b v l h

or_else_lem : (most : ℕ) (v w : Verdict) → Within most v → Within most w → Within most (or_else v w)
or_else_lem most v w a b = given_or (λ k. number_of k ≤ 16) most v w a b

one_if : (most : ℕ) (fault : Fault) (p : Bool) → number_of fault ≤ 16 → Within most (refused_if p fault)
unfolding refused_if
one_if most fault true l = (l, omega arith)
one_if most fault false l = tt

-- ---- a task

sizes_within : (n m : ℕ) → Within 0 (sizes_verdict n m)
unfolding sizes_verdict first_refusal
sizes_within n m = or_else_lem 0 _ _ (one_if 0 FactCount _ (omega arith)) (or_else_lem 0 _ _ (one_if 0 StepCount _ (omega arith)) tt)

verdict_within : (t : Tables) → Within 0 (verdict_of t)
unfolding verdict_of first_refusal
verdict_within t =
    or_else_lem 0 _ _ (sizes_within t.facts t.steps)
    (or_else_lem 0 _ _ (one_if 0 TableLength _ (omega arith)) (or_else_lem 0 _ _ (one_if 0 FactNumber _ (omega arith)) (or_else_lem 0 _ _ (one_if 0 StepCost _ (omega arith)) tt)))

pub pass_within : (t : Tables) → Within 0 (pass_verdict t)
unfolding pass_verdict first_refusal
pass_within t = or_else_lem 0 _ _ (verdict_within t) (or_else_lem 0 _ _ (one_if 0 NoWay _ (omega arith)) tt)

-- ---- a file

pub file_within : (room : ℕ → Bool) (file : List ℕ) → Within longest_file (file_verdict room file)
file_within room file =
    file_given_most (λ k. number_of k ≤ 16)
    (record {
      p1 = omega arith;
      p2 = omega arith;
      p5 = omega arith;
      p6 = omega arith;
      p11 = omega arith;
      p12 = omega arith;
      p13 = omega arith;
      p14 = omega arith;
      p15 = omega arith;
    })
    (omega arith)
    room
    file
