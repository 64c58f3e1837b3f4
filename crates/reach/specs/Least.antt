-- The least set below n that holds the seeds and is closed under a rule, found by document 01's passes. A rule says what it makes of a set.
use Rattle.std.specs.Prelude.{ℕ, zero, suc, Bool, true, false}
use Rattle.sets.specs.Sets.{Set, joined, within}
use Rattle.sets.specs.Words.{bit, word_of}

-- X as it is below n, held as one number, so that it is computed once
unfoldable pub held : ℕ → Set → Set
held n X = bit (word_of n X)

-- one pass adds what the rule makes of the set as it was when the pass began
unfoldable pub pass : ℕ → (Set → Set) → Set → Set
pass n rule X = held n (joined X (rule X))

-- a pass would add nothing
unfoldable pub quiet : ℕ → (Set → Set) → Set → Bool
quiet n rule X = within n (rule X) X

-- the set at the end, and the number of passes, the last one counted
pub record Closure : Type 0 where
  pub set : Set
  pub passes : ℕ

-- passes repeat until one adds nothing: as long as the pass from X is told not to be quiet, and `most` times at most
unfoldable pub repeated : ℕ → (Set → Set) → ℕ → Bool → Set → Closure
repeated n rule zero true X = record { set = X; passes = 1 }
repeated n rule zero false X = record { set = X; passes = 0 }
repeated n rule (suc most) true X = record { set = X; passes = 1 }
repeated n rule (suc most) false X =
    let Y = pass n rule X in
    let rest = repeated n rule most (quiet n rule Y) Y in record { set = rest.set; passes = suc rest.passes }

-- n + 1 passes are always enough, as each but the last adds a number below n
unfoldable pub least : ℕ → (Set → Set) → Set → Closure
least n rule seeds = let X = held n seeds in repeated n rule (suc n) (quiet n rule X) X
