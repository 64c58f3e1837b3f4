-- When refusals 1 to 5 are given, as document 01's table has it, and the verdict of checking, through which every operation on a task goes.
use Rattle.std.specs.Prelude.{ℕ, ◌*◌, ◌/◌, Bool, List, [], ◌∷◌, length, nat_le}
use Rattle.std.specs.List.{list_all}
use Rattle.sets.specs.Tests.{no, both, either, below, same}
use Rattle.sets.specs.Sets.{all, within, up_to}
use Rattle.sets.specs.Words.{has, row}
use Rattle.task.specs.declared.refusal.Fault.TheVariants.{FactCount, StepCount, TableLength, FactNumber, StepCost}
use Rattle.task.specs.Limits.{limits}
use Rattle.task.specs.Tables.{Tables}
use Rattle.task.specs.Refusal.{Verdict, refused_if, first_refusal}

-- 1: n is 0 or above 256
unfoldable pub wrong_facts : ℕ → Bool
wrong_facts n = either (same n 0) (below limits.facts n)

-- 2: m is above 1,024
unfoldable pub wrong_steps : ℕ → Bool
wrong_steps m = below limits.steps m

-- 3: a task table has another length than 4m for needs, sets and clears, m for costs, 4 for start and goal
unfoldable pub right_lengths : ℕ → ℕ → ℕ → ℕ → ℕ → ℕ → ℕ → Bool
right_lengths m needs sets clears costs start goal =
    both (same needs (4 * m))
    (both (same sets (4 * m)) (both (same clears (4 * m)) (both (same costs m) (both (same start 4) (same goal 4)))))

-- 4: a set, four words of a table, holds a fact numbered n or more
unfoldable pub only_facts : ℕ → List ℕ → Bool
only_facts n table = all (length table / 4) (λ i. within 256 (has (row 4 i table)) (up_to n))

unfoldable pub right_sets : ℕ → List ℕ → List ℕ → List ℕ → List ℕ → List ℕ → Bool
right_sets n needs sets clears start goal =
    both (only_facts n needs) (both (only_facts n sets) (both (only_facts n clears) (both (only_facts n start) (only_facts n goal))))

-- 5: a cost is above 65,535
unfoldable pub right_costs : List ℕ → Bool
right_costs costs = list_all (λ cost. nat_le cost limits.cost) costs

unfoldable pub sizes_verdict : ℕ → ℕ → Verdict
sizes_verdict n m = first_refusal (refused_if (wrong_facts n) FactCount ∷ refused_if (wrong_steps m) StepCount ∷ [])

unfoldable pub verdict_of : Tables → Verdict
verdict_of t =
    first_refusal
    (sizes_verdict t.facts t.steps
    ∷ refused_if (no (right_lengths t.steps (length t.needs) (length t.sets) (length t.clears) (length t.costs) (length t.start) (length t.goal))) TableLength
    ∷ refused_if (no (right_sets t.facts t.needs t.sets t.clears t.start t.goal)) FactNumber
    ∷ refused_if (no (right_costs t.costs)) StepCost
    ∷ [])
