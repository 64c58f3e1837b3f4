-- Document 01's examples P1 to P12: each task with the answers that document 01 gives for it. A value marked "by hand" is not in document 01; it was worked out
-- from its rules on paper. Sets are written as lists of their members.
use Rattle.std.specs.Prelude.{ℕ, ◌+◌, ◌^◌, List, [], ◌∷◌, ◌++◌, length, Result, Ok, Err}
use Rattle.sets.specs.declared.bits.Bits.{Bits}
use Rattle.task.specs.declared.refusal.Fault.TheVariants.{NoWay}
use Rattle.task.specs.Limits.{limits}
use Rattle.task.specs.Refusal.{Refusal, Verdict, refusal}
use Rattle.task.specs.Tables.{Tables, tables}
use Rattle.reach.specs.declared.Reached.{Reached}
use Rattle.cuts.specs.declared.Cutting.{Cutting}
use Rattle.replay.specs.declared.Replayed.{Replayed}
use Rattle.replay.specs.declared.Replayed.TheVariants.{Done, Stuck, Short}

-- ---- tasks as document 01 writes them

-- a step: the facts that it needs, sets and clears, and its cost
pub record Step : Type 0 where
  pub needs : List ℕ
  pub sets : List ℕ
  pub clears : List ℕ
  pub cost : ℕ

abbrev step : List ℕ → List ℕ → ℕ → Step
step needs sets cost = record { needs = needs; sets = sets; clears = []; cost = cost }

-- the four words of a set of facts below 64: each fact once
abbrev pub bits : List ℕ → ℕ
bits [] = 0
bits (f ∷ fs) = 2 ^ f + bits fs

abbrev pub four_words : List ℕ → List ℕ
four_words fs = bits fs ∷ 0 ∷ 0 ∷ 0 ∷ []

-- a table with what each step has for it
abbrev pub rows_of : (Step → List ℕ) → List Step → List ℕ
rows_of part [] = []
rows_of part (s ∷ steps) = part s ++ rows_of part steps

-- the tables of a task of n facts
abbrev pub lent : ℕ → List Step → List ℕ → List ℕ → Tables
lent n steps start goal =
    tables n (length steps) (rows_of (λ s. four_words s.needs) steps) (rows_of (λ s. four_words s.sets) steps)
    (rows_of (λ s. four_words s.clears) steps) (rows_of (λ s. s.cost ∷ []) steps) (four_words start) (four_words goal)

-- ---- a row of the table

-- a set of facts, and a set of steps below 64
abbrev pub facts : List ℕ → Bits 4
facts fs = record { words = four_words fs }

abbrev pub steps : List ℕ → Bits 16
steps ss = record { words = four_words ss ++ 0 ∷ 0 ∷ 0 ∷ 0 ∷ 0 ∷ 0 ∷ 0 ∷ 0 ∷ 0 ∷ 0 ∷ 0 ∷ 0 ∷ [] }

-- a round's cut and its cost
pub record Cut : Type 0 where
  pub steps : List ℕ
  pub cost : ℕ

-- a walk and what its replay answers
pub record Walk : Type 0 where
  pub steps : List ℕ
  pub answer : Replayed

abbrev cut : List ℕ → ℕ → Cut
cut steps cost = record { steps = steps; cost = cost }

abbrev walk : List ℕ → Replayed → Walk
walk steps answer = record { steps = steps; answer = answer }

-- a task with the answers of all operations: checking; reach with its passes; distances; must-pass facts and must-pass steps; the number of rounds of cuts and
-- the floor; the cuts themselves and the costs left; and some walks
pub record Row : Type 0 where
  pub task : Tables
  pub checked : Verdict
  pub reached : Result Reached Refusal
  pub distances : List ℕ
  pub must : Result (Bits 4) Refusal
  pub take : Result (Bits 16) Refusal
  pub cutting : Result Cutting Refusal
  pub cuts : List Cut
  pub left : List ℕ
  pub walks : List Walk

-- reach, and what cutting counts, where nothing is refused
abbrev in_passes : List ℕ → ℕ → Result Reached Refusal
in_passes fs passes = Ok (record { set = facts fs; passes = passes })

abbrev rounds_and_floor : ℕ → ℕ → Result Cutting Refusal
rounds_and_floor rounds floor = Ok (record { rounds = rounds; floor = floor })

-- ---- the rows

-- P1 to P4 and P11, the task of the report: badge read 0, project picked 1, project set 2, tube racked 3, spectrum filed 4
abbrev pub report : Row
report = record {
  task =
      lent 5 (step [] (0 ∷ []) 1 ∷ step (0 ∷ []) (1 ∷ 2 ∷ []) 3 ∷ step (0 ∷ []) (2 ∷ []) 1 ∷ step (0 ∷ []) (3 ∷ []) 2 ∷ step (2 ∷ 3 ∷ []) (4 ∷ []) 1 ∷ []) []
      (4 ∷ []);
  checked = Ok tt;
  reached = in_passes (0 ∷ 1 ∷ 2 ∷ 3 ∷ 4 ∷ []) 4;
  distances = 1 ∷ 4 ∷ 2 ∷ 3 ∷ 4 ∷ [];
  must = Ok (facts (0 ∷ 2 ∷ 3 ∷ 4 ∷ []));
  take = Ok (steps (0 ∷ 3 ∷ 4 ∷ []));
  cutting = rounds_and_floor 4 5;
  cuts = cut (4 ∷ []) 1 ∷ cut (3 ∷ []) 2 ∷ cut (1 ∷ 2 ∷ []) 1 ∷ cut (0 ∷ []) 1 ∷ [];
  left = 0 ∷ 2 ∷ 0 ∷ 0 ∷ 0 ∷ [];
  walks = walk (0 ∷ 2 ∷ 3 ∷ 4 ∷ []) (Done 5) ∷ walk (0 ∷ 4 ∷ []) (Stuck 1) ∷ walk [] Short ∷ [];
}

-- P5 and P6, the task of 001. By hand: the reach, its passes (1, 2 and 3; then 4; then nothing) and the distances (step 3 costs nothing and the farthest of
-- its needs is 4 away)
abbrev pub of001 : Row
of001 = record {
  task =
      lent 5 (step (0 ∷ []) (1 ∷ 2 ∷ []) 3 ∷ step (0 ∷ []) (1 ∷ 3 ∷ []) 4 ∷ step (0 ∷ []) (2 ∷ 3 ∷ []) 5 ∷ step (1 ∷ 2 ∷ 3 ∷ []) (4 ∷ []) 0 ∷ []) (0 ∷ [])
      (4 ∷ []);
  checked = Ok tt;
  reached = in_passes (0 ∷ 1 ∷ 2 ∷ 3 ∷ 4 ∷ []) 3;
  distances = 0 ∷ 3 ∷ 3 ∷ 4 ∷ 4 ∷ [];
  must = Ok (facts (0 ∷ 1 ∷ 2 ∷ 3 ∷ 4 ∷ []));
  take = Ok (steps (3 ∷ []));
  cutting = rounds_and_floor 2 5;
  cuts = cut (1 ∷ 2 ∷ []) 4 ∷ cut (0 ∷ 2 ∷ []) 1 ∷ [];
  left = 2 ∷ 0 ∷ 0 ∷ 0 ∷ [];
  walks = [];
}

-- P7, a goal within the start: facts 0 and 2 start, 2 is the goal, one step needs 0 and sets 1. By hand: the reach, its passes, the distances and the costs
-- left; and the empty walk, which is done
abbrev pub at_start : Row
at_start = record {
  task = lent 3 (step (0 ∷ []) (1 ∷ []) 1 ∷ []) (0 ∷ 2 ∷ []) (2 ∷ []);
  checked = Ok tt;
  reached = in_passes (0 ∷ 1 ∷ 2 ∷ []) 2;
  distances = 0 ∷ 1 ∷ 0 ∷ [];
  must = Ok (facts (2 ∷ []));
  take = Ok (steps []);
  cutting = rounds_and_floor 0 0;
  cuts = [];
  left = 1 ∷ [];
  walks = walk [] (Done 0) ∷ [];
}

-- P8, no steps and a goal fact that is not in the start: 7. By hand: checking and reach answer, in one pass that adds nothing, and the goal fact's distance is
-- the mark; the empty walk is short
abbrev pub no_way : Row
no_way = record {
  task = lent 1 [] [] (0 ∷ []);
  checked = Ok tt;
  reached = in_passes [] 1;
  distances = limits.mark ∷ [];
  must = Err (refusal NoWay 0);
  take = Err (refusal NoWay 0);
  cutting = Err (refusal NoWay 0);
  cuts = [];
  left = [];
  walks = walk [] Short ∷ [];
}

-- P9, one fact and two steps without needs that set it. By hand: the reach, its passes, the distance, the must-pass fact (the goal itself), the costs left and
-- the floor
abbrev pub two_steps : Row
two_steps = record {
  task = lent 1 (step [] (0 ∷ []) 2 ∷ step [] (0 ∷ []) 3 ∷ []) [] (0 ∷ []);
  checked = Ok tt;
  reached = in_passes (0 ∷ []) 2;
  distances = 2 ∷ [];
  must = Ok (facts (0 ∷ []));
  take = Ok (steps []);
  cutting = rounds_and_floor 1 2;
  cuts = cut (0 ∷ 1 ∷ []) 2 ∷ [];
  left = 0 ∷ 1 ∷ [];
  walks = [];
}

-- P10, one step without needs that sets both facts, of which 0 is the goal. By hand: all but that fact 1 isn't must-pass; the step costs 1
abbrev pub set_not_needed : Row
set_not_needed = record {
  task = lent 2 (step [] (0 ∷ 1 ∷ []) 1 ∷ []) [] (0 ∷ []);
  checked = Ok tt;
  reached = in_passes (0 ∷ 1 ∷ []) 2;
  distances = 1 ∷ 1 ∷ [];
  must = Ok (facts (0 ∷ []));
  take = Ok (steps (0 ∷ []));
  cutting = rounds_and_floor 1 1;
  cuts = cut (0 ∷ []) 1 ∷ [];
  left = 0 ∷ [];
  walks = [];
}

-- P12, a step that sets and clears the same fact, the goal: it holds after, so that the walk is done. By hand: all else; the step costs 7
abbrev pub set_and_cleared : Row
set_and_cleared = record {
  task = lent 1 (record { needs = []; sets = 0 ∷ []; clears = 0 ∷ []; cost = 7 } ∷ []) [] (0 ∷ []);
  checked = Ok tt;
  reached = in_passes (0 ∷ []) 2;
  distances = 7 ∷ [];
  must = Ok (facts (0 ∷ []));
  take = Ok (steps (0 ∷ []));
  cutting = rounds_and_floor 1 7;
  cuts = cut (0 ∷ []) 7 ∷ [];
  left = 0 ∷ [];
  walks = walk (0 ∷ []) (Done 7) ∷ [];
}

abbrev pub table : List Row
table = report ∷ of001 ∷ at_start ∷ no_way ∷ two_steps ∷ set_not_needed ∷ set_and_cleared ∷ []
