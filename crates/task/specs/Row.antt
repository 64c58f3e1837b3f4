-- The row of a step, handed out as a part of the caller's own table: 0 asks for needs, 1 for sets.
use Rattle.std.specs.Prelude.{ℕ, ◌+◌, ◌*◌, List, [], ◌∷◌, length, Result, Ok, Err}
use Rattle.sets.specs.Tests.{no, both, below, same, pick}
use Rattle.sets.specs.Words.{row}
use Rattle.task.specs.declared.refusal.Fault.TheVariants.{TableLength, StepNumber, RowKind}
use Rattle.task.specs.declared.row.Row.{Row}
use Rattle.task.specs.declared.row.Row.TheVariants.{Needs, Sets}
use Rattle.task.specs.Refusal.{Refusal, Verdict, refused_if, first_refusal, answered}
use Rattle.task.specs.Check.{sizes_verdict}

-- the row that a number asks for; 10 where it asks for none
abbrev pub row_of : ℕ → Row
row_of which = pick (same which 0) Needs Sets

abbrev pub row_asked : ℕ → Result Row Refusal
row_asked which = answered (refused_if (below 1 which) RowKind) (row_of which)

-- 1, 2, 3 of these two tables only, 9 for a step numbered m or more, 10 for a row that is neither needs nor sets
unfoldable pub row_verdict : ℕ → ℕ → List ℕ → List ℕ → ℕ → ℕ → Verdict
row_verdict n m needs sets step which =
    first_refusal
    (sizes_verdict n m
    ∷ refused_if (no (both (same (length needs) (4 * m)) (same (length sets) (4 * m)))) TableLength
    ∷ refused_if (no (below step m)) StepNumber
    ∷ refused_if (below 1 which) RowKind
    ∷ [])

-- the words handed out: four of the table asked for, from 4 times the step number; a refusal hands out none
unfoldable pub handed_out : Verdict → ℕ → ℕ → List ℕ → List ℕ → List ℕ
handed_out (Ok done) step which needs sets = row 4 step (pick (same which 0) needs sets)
handed_out (Err r) step which needs sets = []

-- where they stand, as block and byte of the lent tables: 32 bytes a step into the table asked for; a refusal's empty part is at the beginning of needs
unfoldable pub handed_at : Verdict → ℕ → ℕ → ℕ × ℕ → ℕ × ℕ → ℕ × ℕ
handed_at (Ok done) step which needs sets = let table = pick (same which 0) needs sets in (table.0, table.1 + 32 * step)
handed_at (Err r) step which needs sets = needs
