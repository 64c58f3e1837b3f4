-- Why the sizes are judged as document 01 says: each answer from the tests that lead to it, and what is known where nothing is refused.
use Prim.Native.Nat.{ℕ, zero, suc, ◌≤◌, ◌<◌}
use mathlib.Core.Path.{◌≡◌, refl, sym, ◌∙◌}
use mathlib.Core.Bool.{false}
use native.Mathlib.Omega.{arith}
use Rattle.sets.specs.Tests.{either, below, same}
use Rattle.sets.proofs.Tests.{either_not, below_not, same_not, either_l, either_r, either_false, below_true, below_false, same_true, same_false}
use Rattle.std.specs.Prelude.{Ok, Err}
use Rattle.task.specs.declared.refusal.Fault.TheVariants.{FactCount, StepCount}
use Rattle.task.specs.Check.{wrong_facts, wrong_steps, sizes_verdict}
use Rattle.task.proofs.Refusals.{fine_first, fine_rest, fine_if, refuse, skip, none_left}
use mathlib.Core.List.{[], ◌∷◌}
use Rattle.task.specs.Refusal.{refused_if, first_refusal, refusal}

module _ (n m : ℕ) where
  pub sizes_none : n ≡ 0 → Err (refusal FactCount 0) ≡ sizes_verdict n m
  unfolding sizes_verdict wrong_facts
  sizes_none h = sym (refuse FactCount _ (either_l _ _ (same_true n 0 h)))

  pub sizes_many : 256 < n → Err (refusal FactCount 0) ≡ sizes_verdict n m
  unfolding sizes_verdict wrong_facts
  sizes_many h = sym (refuse FactCount _ (either_r _ _ (below_true 256 n h)))

  module _ (some : ¬ (n ≡ 0)) (few : n ≤ 256) where
    facts_pass : sizes_verdict n m ≡ first_refusal (refused_if (wrong_steps m) StepCount ∷ [])
    unfolding sizes_verdict wrong_facts
    facts_pass = skip FactCount _ (either_false _ _ (same_false n 0 some) (below_false 256 n few))

    pub sizes_steps : 1024 < m → Err (refusal StepCount 0) ≡ sizes_verdict n m
    unfolding wrong_steps
    sizes_steps h = sym (facts_pass ∙ refuse StepCount _ (below_true 1024 m h))

    pub sizes_fine : m ≤ 1024 → Ok tt ≡ sizes_verdict n m
    unfolding wrong_steps
    sizes_fine h = sym (facts_pass ∙ skip StepCount [] (below_false 1024 m h) ∙ none_left)

-- what a caller may go on from
pub record Sized (n m : ℕ) : Type 0 where
  pub some : 0 < n
  pub few : n ≤ 256
  pub short : m ≤ 1024

pub sized : (n m : ℕ) → sizes_verdict n m ≡ Ok tt → Sized n m
unfolding sizes_verdict wrong_facts wrong_steps
sized n m e =
    let facts : either (same n 0) (below 256 n) ≡ false = fine_if _ FactCount (fine_first _ _ e) in
    let steps : below 1024 m ≡ false = fine_if _ StepCount (fine_first _ _ (fine_rest _ _ e)) in
    record {
      some = positive n (same_not n 0 (either_not _ _ facts).0);
      few = below_not 256 n (either_not _ _ facts).1;
      short = below_not 1024 m steps;
    }
  where
    positive : (n : ℕ) → ¬ (n ≡ 0) → 0 < n
    positive zero h = absurd (h refl)
    positive (suc n) h = omega arith
