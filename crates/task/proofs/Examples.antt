-- Document 01's examples of checking, of the row of a step and of taking a step, with right-looking answers that are wrong: all by computation.
use Prim.Native.Nat.{ℕ, ◌^◌}
use mathlib.Core.Path.{◌≡◌, refl}
use mathlib.Core.Bool.{true, false}
use mathlib.Core.List.{List, [], ◌∷◌}
use Rattle.sets.specs.Tests.{no, both, either, implies, below, same, pick}
use Rattle.sets.specs.Sets.{none, up_to, added, joined, removed, all, within}
use Rattle.sets.specs.Words.{bit, has, row}
use Rattle.std.specs.Prelude.{Ok, Err}
use Rattle.task.specs.declared.refusal.Fault.TheVariants.{FactCount, TableLength, FactNumber, StepCost, StepNumber}
use Rattle.task.specs.Tables.{tables}
use Rattle.task.specs.Refusal.{Verdict, refusal, refused_if, or_else, first_refusal}
use Rattle.task.specs.Check.{wrong_facts, wrong_steps, right_lengths, only_facts, right_sets, right_costs, sizes_verdict, verdict_of}
use Rattle.task.specs.Row.{row_verdict, handed_out}
use Rattle.task.specs.Walks.{taken}

-- the verdict on a task of n facts and one step that needs the facts of a row of four words and costs c
judged : ℕ → List ℕ → ℕ → Verdict
unfolding verdict_of first_refusal or_else refused_if sizes_verdict wrong_facts wrong_steps right_lengths right_sets only_facts right_costs no both either implies below same all within up_to has bit row
judged n needs c = let empty : List ℕ = 0 ∷ 0 ∷ 0 ∷ 0 ∷ [] in verdict_of (tables n 1 needs empty empty (c ∷ []) empty empty)

-- n = 64: fact 63 passes, bit 64 is 4
fact_63 : judged 64 (2 ^ 63 ∷ 0 ∷ 0 ∷ 0 ∷ []) 1 ≡ Ok tt
unfolding judged
fact_63 = refl

bit_64 : judged 64 (0 ∷ 1 ∷ 0 ∷ 0 ∷ []) 1 ≡ Err (refusal FactNumber 0)
unfolding judged
bit_64 = refl

-- n is 0 or above 256
no_facts : judged 0 (0 ∷ 0 ∷ 0 ∷ 0 ∷ []) 1 ≡ Err (refusal FactCount 0)
unfolding judged
no_facts = refl

facts_257 : judged 257 (0 ∷ 0 ∷ 0 ∷ 0 ∷ []) 1 ≡ Err (refusal FactCount 0)
unfolding judged
facts_257 = refl

-- a table one word short
words_3 : judged 1 (0 ∷ 0 ∷ 0 ∷ []) 1 ≡ Err (refusal TableLength 0)
unfolding judged
words_3 = refl

-- cost 65,535 passes, 65,536 is 5
cost_65535 : judged 1 (0 ∷ 0 ∷ 0 ∷ 0 ∷ []) 65535 ≡ Ok tt
unfolding judged
cost_65535 = refl

cost_65536 : judged 1 (0 ∷ 0 ∷ 0 ∷ 0 ∷ []) 65536 ≡ Err (refusal StepCost 0)
unfolding judged
cost_65536 = refl

-- where a fact is out of range and a cost too high, 4 is given and not 5; where a table is short too, 3
four_first : judged 1 (2 ∷ 0 ∷ 0 ∷ 0 ∷ []) 65536 ≡ Err (refusal FactNumber 0)
unfolding judged
four_first = refl

three_first : judged 1 (2 ∷ 0 ∷ 0 ∷ []) 65536 ≡ Err (refusal TableLength 0)
unfolding judged
three_first = refl

-- a step past the last and a row that is neither: 9 and not 10
nine_first : row_verdict 1 1 (1 ∷ 2 ∷ 3 ∷ 4 ∷ []) (5 ∷ 6 ∷ 7 ∷ 8 ∷ []) 1 2 ≡ Err (refusal StepNumber 0)
unfolding row_verdict first_refusal or_else refused_if sizes_verdict wrong_facts wrong_steps no both either below same
nine_first = refl

sets_row : handed_out (Ok tt) 0 1 (1 ∷ 2 ∷ 3 ∷ 4 ∷ []) (5 ∷ 6 ∷ 7 ∷ 8 ∷ []) ≡ 5 ∷ 6 ∷ 7 ∷ 8 ∷ []
unfolding handed_out row pick same
sets_row = refl

-- P12: a fact that a step sets and clears holds after it. Sets first and clears after would lose it
both_ways : taken none (added none 3) (added none 3) 3 ≡ true
unfolding taken joined removed added none either both no same
both_ways = refl

clears_last : removed (joined none (added none 3)) (added none 3) 3 ≡ false
unfolding joined removed added none either both no same
clears_last = refl
