-- What one step adds to a pass, for the contract of the worker that takes it.
use Rattle.std.specs.Prelude.{ℕ, List}
use Rattle.sets.specs.Tests.{no, both}
use Rattle.sets.specs.Sets.{Set, within}
use Rattle.sets.specs.Words.{has, row}

-- what step s adds to a pass where X held when it began: what it sets, if it is not off and all its needs held
unfoldable pub added_by : List ℕ → List ℕ → Set → Set → ℕ → Set
added_by needs sets off X s f = both (both (no (off s)) (within 256 (has (row 4 s needs)) X)) (has (row 4 s sets) f)
