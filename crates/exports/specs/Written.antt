-- What stands in a lent set after the call: the words of the answer, or, where it is refused, what stood there.
use Rattle.std.specs.Prelude.{ℕ, List, Result, Ok, Err}
use Rattle.sets.specs.declared.bits.Bits.{Bits}
use Rattle.task.specs.Refusal.{Refusal}
use Rattle.reach.specs.declared.Reached.{Reached}

-- of a set of k words
abbrev pub set_written : (k : ℕ) → Result (Bits k) Refusal → List ℕ → List ℕ
set_written k (Ok set) before = set.words
set_written k (Err r) before = before

-- the facts within reach, the must-pass facts, and the must-pass steps
abbrev pub reach_written : Result Reached Refusal → List ℕ → List ℕ
reach_written (Ok reached) before = reached.set.words
reach_written (Err r) before = before

abbrev pub passed_written : Result (Bits 4) Refusal → List ℕ → List ℕ
passed_written passed before = set_written 4 passed before

abbrev pub taken_written : Result (Bits 16) Refusal → List ℕ → List ℕ
taken_written taken before = set_written 16 taken before
