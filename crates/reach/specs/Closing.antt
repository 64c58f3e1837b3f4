-- Passes that add to a set what a rule gives of it, until one adds nothing, whatever the rule is: `gives X Y` says that of X it may give Y.
use Rattle.std.specs.Prelude.{ℕ, suc, ◌≡◌, false}
use Rattle.sets.specs.Tests.{Is}
use Rattle.sets.specs.Sets.{joined, within}
use Rattle.sets.specs.Words.{has, words_of}
use Rattle.sets.specs.declared.bits.Bits.{Bits}

-- a set of facts, as words
abbrev pub Facts : Type 0
Facts = Bits 4

-- so many passes, the last one counted, lead from X to Z: each but the last adds what the rule gives of the set as it was, and the last is given nothing new
pub data Closes (gives : Facts → Facts → Type 0) : ℕ → Facts → Facts → Type 0 where
  last : {X Y : Facts} → gives X Y → Is (within 256 (has Y.words) (has X.words)) → Closes gives 1 X X
  adding : {passes : ℕ} {X Y Z : Facts} → gives X Y → within 256 (has Y.words) (has X.words) ≡ false
      → Closes gives passes (record { words = words_of 4 (joined (has X.words) (has Y.words)) }) Z → Closes gives (suc passes) X Z
