-- The tables of a sound file pass checking: their lengths are right as they are made, and their facts and costs are those of records whose numbers fit.
use Prim.Native.Nat.{ℕ, zero, suc, ◌*◌, ◌<◌}
use mathlib.Core.Path.{◌≡◌, refl, ap, ◌∙◌}
use mathlib.Core.Bool.{Bool}
use mathlib.Core.Logic.{inl, inr}
use mathlib.Core.List.{List, [], ◌∷◌}
use native.Mathlib.Omega.{arith}
use lib.ListN.{length}
use Rattle.std.proofs.lemmas.Bool.{le-leb}
use Rattle.sets.specs.Tests.{Is, same}
use Rattle.sets.specs.Sets.{Set, up_to}
use Rattle.sets.specs.Words.{words_of, table_of}
use Rattle.sets.proofs.Tests.{not_is, both_l, both_r, both_true, either_cases, no_false, no_of, below_true, below_at, below_not, same_true, same_at}
use Rattle.sets.proofs.Sets.{all_true, within_true}
use Rattle.sets.proofs.Words.{length_words_of, made_has}
use Rattle.sets.proofs.Rows.{length_table_of, row_table_of}
use Rattle.std.specs.Prelude.{Ok}
use Rattle.task.specs.declared.refusal.Fault.TheVariants.{FactCount, StepCount, TableLength, FactNumber, StepCost}
use Rattle.task.specs.Check.{right_lengths, only_facts, right_sets, right_costs, sizes_verdict, verdict_of}
use Rattle.task.proofs.Refusals.{skip, skip_fine, none_left}
use Rattle.taskfile.specs.declared.format.Part.{Part}
use Rattle.taskfile.specs.declared.format.Part.TheVariants.{Start, Goal, Needs, Sets, Clears}
use Rattle.taskfile.specs.Sound.{Naming, Block, Contents, Sound, first_fits, part_fits, all_of, block_fits, fits}
use Rattle.taskfile.specs.Meaning.{some_of, named_for, parts_of, costs_of, step_table, contents_tables}

-- a table whose rows hold facts below n only
only_table : (n m : ℕ) (R : ℕ → Set) → ((i f : ℕ) → Is (R i f) → f < n) → Is (only_facts n (table_of 4 m R))
unfolding only_facts up_to
only_table n m R h =
    all_true _ _ (λ i l. let inside : i < m = omega (arith, length_table_of 4 m R) in
    within_true 256 _ _ (λ f b in_row. below_true f n (h i f (made_has 4 _ (R i) (row_table_of 4 m R i inside) f in_row))))

-- a set is a table of one row
only_words : (n : ℕ) (X : Set) → ((f : ℕ) → Is (X f) → f < n) → Is (only_facts n (words_of 4 X))
unfolding table_of
only_words n X h = only_table n 1 (λ i. X) (λ i. h)

-- a fact that is named is below n where every naming's is
named_below : (n : ℕ) (part : Part) (p : Naming → Bool) (gs : List Naming) → ((g : Naming) → Is (p g) → g.fact < n) → Is (all_of p gs)
    → (f : ℕ) → Is (named_for part gs f) → f < n
unfolding all_of named_for some_of
named_below n part p [] h a f named = not_is named
named_below n part p (g ∷ gs) h a f named =
    elim (either_cases _ _ named) [
      | inl this ↦ let is = same_at g.fact f (both_r _ _ this) in omega (arith, h g (both_l _ _ a))
      | inr other ↦ named_below n part p gs h (both_r _ _ a) f other
    ]

first_below : (n : ℕ) (g : Naming) → Is (first_fits n g) → g.fact < n
unfolding first_fits
first_below n g h = below_at g.fact n (both_r _ _ h)

part_below : (n : ℕ) (g : Naming) → Is (part_fits n g) → g.fact < n
unfolding part_fits
part_below n g h = below_at g.fact n (both_r _ _ h)

-- what stands after each step fits, and so does each cost
module _ (n : ℕ) where
  parts_fit : (bs : List Block) (s : ℕ) → Is (all_of (block_fits n) bs) → Is (all_of (part_fits n) (parts_of bs s))
  unfolding all_of parts_of block_fits
  parts_fit [] s h = refl
  parts_fit (b ∷ bs) zero h = both_r _ _ (both_l _ _ h)
  parts_fit (b ∷ bs) (suc s) h = parts_fit bs s (both_r _ _ h)

  costs_fit : (bs : List Block) → Is (all_of (block_fits n) bs) → Is (right_costs (costs_of bs))
  unfolding all_of costs_of block_fits right_costs
  costs_fit [] h = refl
  costs_fit (b ∷ bs) h =
      rw (le-leb b.cost 65535 (below_not 65535 b.cost (no_false _ (both_l _ _ (both_l _ _ h))))) (costs_fit bs (both_r _ _ h))

  only_steps : (part : Part) (bs : List Block) → Is (all_of (block_fits n) bs) → Is (only_facts n (step_table part bs))
  unfolding step_table
  only_steps part bs h =
      only_table n (length bs) _ (λ s. named_below n part (part_fits n) (parts_of bs s) (part_below n) (parts_fit bs s h))

pub length_costs : (bs : List Block) → length (costs_of bs) ≡ length bs
unfolding costs_of
length_costs [] = refl
length_costs (b ∷ bs) = ap suc (length_costs bs)

length_steps : (part : Part) (bs : List Block) → length (step_table part bs) ≡ 4 * length bs
unfolding step_table
length_steps part bs = omega (arith, length_table_of 4 (length bs) (λ s. named_for part (parts_of bs s)))

-- contents whose numbers fit
module _ (c : Contents) (fit : Is (fits c)) where
  abbrev n : ℕ
  n = c.facts

  abbrev bs : List Block
  bs = c.blocks

  blocks_fit : Is (all_of (block_fits n) bs)
  unfolding fits
  blocks_fit = both_r _ _ (both_r _ _ (both_r _ _ fit))

  firsts_fit : Is (all_of (first_fits n) c.firsts)
  unfolding fits
  firsts_fit = both_l _ _ (both_r _ _ (both_r _ _ fit))

  only_firsts : (part : Part) → Is (only_facts n (words_of 4 (named_for part c.firsts)))
  only_firsts part = only_words n _ (named_below n part (first_fits n) c.firsts (first_below n) firsts_fit)

  sizes_right : sizes_verdict n (length bs) ≡ Ok tt
  unfolding fits sizes_verdict
  sizes_right = skip FactCount _ (no_false _ (both_l _ _ fit)) ∙ skip StepCount [] (no_false _ (both_l _ _ (both_r _ _ fit))) ∙ none_left

  pub fits_checks : verdict_of (contents_tables c) ≡ Ok tt
  unfolding verdict_of contents_tables right_lengths right_sets right_costs
  fits_checks =
      let table : (part : Part) → Is (same (length (step_table part bs)) (4 * length bs)) = λ part. same_true _ _ (length_steps part bs) in
      let words : (part : Part) → Is (same (length (words_of 4 (named_for part c.firsts))) 4) = λ part. same_true _ _ (length_words_of 4 _) in
      let costs : Is (same (length (costs_of bs)) (length bs)) = same_true _ _ (length_costs bs) in
      let sets : (part : Part) → Is (only_facts n (step_table part bs)) = λ part. only_steps n part bs blocks_fit in
      skip_fine _ sizes_right
      ∙ skip TableLength _ (no_of _ (both_true _ _ (table Needs) (both_true _ _ (table Sets) (both_true _ _ (table Clears) (both_true _ _ costs (both_true _ _ (words Start) (words Goal)))))))
      ∙ skip FactNumber _ (no_of _ (both_true _ _ (sets Needs) (both_true _ _ (sets Sets) (both_true _ _ (sets Clears) (both_true _ _ (only_firsts Start) (only_firsts Goal))))))
      ∙ skip StepCost [] (no_of _ (costs_fit n bs blocks_fit))
      ∙ none_left

pub sound_checks : {file : List ℕ} {c : Contents} → Sound file c → verdict_of (contents_tables c) ≡ Ok tt
sound_checks {c = c} sound = fits_checks c sound.fit
