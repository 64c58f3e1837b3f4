-- Why checking answers as document 01 says: each answer from the tests that lead to it. And what is known of a task that nothing is wrong with.
use Prim.Native.Nat.{ℕ, ◌+◌, ◌*◌, ◌/◌, ◌≤◌, ◌<◌}
use mathlib.Core.Path.{◌≡◌, sym, ap, ◌∙◌}
use mathlib.Core.Bool.{Bool, true, false, not}
use mathlib.Core.List.{List, [], ◌∷◌}
use mathlib.Core.Logic.{inl, inr}
use native.Mathlib.Omega.{arith}
use Rattle.std.proofs.lemmas.Bool.{le-leb, leb-true}
use Rattle.std.proofs.lemmas.Grind.{get_or_default_zero}
use Rattle.std.proofs.lemmas.List.Sums.{AllPass-from_list_all, list_all-from_AllPass}
use lib.ListN.{length, get_or, get_or-eq_default}
use borrow.Author.Tests.{not-true, not-false}
use Rattle.sets.specs.Tests.{Is, no, below, both}
use Rattle.sets.specs.Sets.{all, within, up_to}
use Rattle.sets.specs.Words.{has, words_of, row}
use Rattle.sets.proofs.Tests.{no_true, no_false, equal_tests, both_l, both_r, below_false, below_at, below_not, same_at, compare, no_of, both_false_l, both_false_r, below_true, same_is, same_true, same_false}
use Rattle.sets.proofs.Sets.{all_true, all_at, all_fails, all_next, within_at}
use Rattle.sets.proofs.Words.{has_lt, has_row, row_lt, within_made}
use Rattle.std.specs.Prelude.{Ok, Err}
use Rattle.task.specs.declared.refusal.Fault.TheVariants.{TableLength, FactNumber, StepCost}
use Rattle.task.specs.Tables.{Tables}
use Rattle.task.specs.Checked.{Checked}
use Rattle.task.specs.Check.{right_lengths, only_facts, right_sets, right_costs, verdict_of, sizes_verdict}
use Rattle.task.proofs.Refusals.{fine_first, fine_rest, fine_test, refuse, skip, none_left, skip_fine, stay}
use Rattle.task.proofs.Sizing.{sized}
use lib.Dec.{eqb}
use Rattle.task.specs.Refusal.{Refusal, refused_if, first_refusal, Verdict, refusal}

-- ---- the tests of checking: lengths, the row that is looked at in the loop of `only_facts`, and the costs by a chain

module _ (m needs sets clears costs start goal : ℕ) where
  pub lengths_needs : ¬ (needs ≡ 4 * m) → false ≡ right_lengths m needs sets clears costs start goal
  unfolding right_lengths
  lengths_needs d = sym (both_false_l _ _ (same_false _ _ d))

  pub lengths_sets : ¬ (sets ≡ 4 * m) → false ≡ right_lengths m needs sets clears costs start goal
  unfolding right_lengths
  lengths_sets d = sym (both_false_r _ _ (both_false_l _ _ (same_false _ _ d)))

  pub lengths_clears : ¬ (clears ≡ 4 * m) → false ≡ right_lengths m needs sets clears costs start goal
  unfolding right_lengths
  lengths_clears d = sym (both_false_r _ _ (both_false_r _ _ (both_false_l _ _ (same_false _ _ d))))

  pub lengths_costs : ¬ (costs ≡ m) → false ≡ right_lengths m needs sets clears costs start goal
  unfolding right_lengths
  lengths_costs d = sym (both_false_r _ _ (both_false_r _ _ (both_false_r _ _ (both_false_l _ _ (same_false _ _ d)))))

  pub lengths_start : ¬ (start ≡ 4) → false ≡ right_lengths m needs sets clears costs start goal
  unfolding right_lengths
  lengths_start d = sym (both_false_r _ _ (both_false_r _ _ (both_false_r _ _ (both_false_r _ _ (both_false_l _ _ (same_false _ _ d))))))

  pub lengths_goal : needs ≡ 4 * m → sets ≡ 4 * m → clears ≡ 4 * m → costs ≡ m → start ≡ 4 → eqb goal 4 ≡ right_lengths m needs sets clears costs start goal
  unfolding right_lengths both
  lengths_goal a b c d e = sym (simp (same_true _ _ a, same_true _ _ b, same_true _ _ c, same_true _ _ d, same_true _ _ e) (same_is goal 4))

module _ (n : ℕ) (table : List ℕ) where
  abbrev pub row_fits : ℕ → Bool
  row_fits i = within 256 (has (row 4 i table)) (up_to n)

  module _ (i : ℕ) {read facts : List ℕ} {r : Bool} (row_read : read ≡ words_of 4 (has (row 4 i table))) (all_facts : facts ≡ words_of 4 (up_to n))
      (tested : r ≡ within 256 (has read) (has facts)) where
    told : r ≡ row_fits i
    told = tested ∙ within_made 4 read facts _ _ row_read all_facts

    pub facts_stop : i < length table / 4 → not r ≡ true → false ≡ only_facts n table
    unfolding only_facts
    facts_stop l h = sym (all_fails _ _ i l (sym told ∙ not-true r h))

    pub facts_next : Is (all i row_fits) → not r ≡ false → Is (all (i + 1) row_fits)
    facts_next before h = all_next i row_fits before (sym told ∙ not-false r h)

  pub facts_end : (i : ℕ) → i ≤ length table / 4 → length table / 4 ≤ i → Is (all i row_fits) → true ≡ only_facts n table
  unfolding only_facts
  facts_end i l k h = let e : i ≡ length table / 4 = omega arith in sym (rw e at h)

-- the chain over the costs, cost by cost
pub costs_all : (costs : List ℕ) → right_costs costs ≡ all (length costs) (λ s. no (below 65535 (get_or costs s 0)))
unfolding right_costs
costs_all costs =
    equal_tests _ _
    (λ h. all_true (length costs) _ (λ s l. no_true _ (below_false _ _ (leb-true _ _ (AllPass-from_list_all _ costs h s 0 l)))))
    (λ h. list_all-from_AllPass _ costs (λ s d l. le-leb _ _ (rw (get_or_default_zero costs s d l) (below_not _ _ (no_false _ (all_at (length costs) _ h s l))))))

-- a cost that is too high, and costs that are looked at one after the other
module _ (costs : List ℕ) where
  abbrev pub cost_fits : ℕ → Bool
  cost_fits s = no (below 65535 (get_or costs s 0))

  pub costs_stop : (s : ℕ) → s < length costs → 65535 < get_or costs s 0 → false ≡ right_costs costs
  costs_stop s l h = sym (costs_all costs ∙ all_fails _ _ s l (no_of _ (below_true _ _ h)))

  pub costs_end : (s : ℕ) → s ≤ length costs → length costs ≤ s → Is (all s cost_fits) → true ≡ right_costs costs
  costs_end s l k h = let e : s ≡ length costs = omega arith in sym (costs_all costs ∙ rw e at h)

-- ---- each answer of `check`

abbrev lengths_of : Tables → Bool
lengths_of t =
    right_lengths t.steps (length t.needs) (length t.sets) (length t.clears) (length t.costs) (length t.start) (length t.goal)

abbrev sets_of : Tables → Bool
sets_of t = right_sets t.facts t.needs t.sets t.clears t.start t.goal

module _ (t : Tables) {v : Verdict} (sizes : v ≡ sizes_verdict t.facts t.steps) where
  pub check_sizes : (r : Refusal) → v ≡ Err r → v ≡ verdict_of t
  unfolding verdict_of
  check_sizes r e = sizes ∙ sym (stay _ (sym sizes ∙ e))

  module _ (fine : v ≡ Ok tt) {a : Bool} (lengths : a ≡ lengths_of t) where
    pub check_lengths : not a ≡ true → Err (refusal TableLength 0) ≡ verdict_of t
    unfolding verdict_of
    check_lengths h = sym (skip_fine _ (sym sizes ∙ fine) ∙ refuse TableLength _ (no_true _ (sym lengths ∙ not-true a h)))

    module _ (long : not a ≡ false) {b : Bool} (in_range : b ≡ sets_of t) where
      lengths_pass : verdict_of t ≡ first_refusal (refused_if (no (sets_of t)) FactNumber ∷ refused_if (no (right_costs t.costs)) StepCost ∷ [])
      unfolding verdict_of
      lengths_pass = skip_fine _ (sym sizes ∙ fine) ∙ skip TableLength _ (no_of _ (sym lengths ∙ not-false a long))

      pub check_sets : not b ≡ true → Err (refusal FactNumber 0) ≡ verdict_of t
      check_sets h = sym (lengths_pass ∙ refuse FactNumber _ (no_true _ (sym in_range ∙ not-true b h)))

      module _ (right : not b ≡ false) {d : Bool} (cheap : d ≡ right_costs t.costs) where
        sets_pass : verdict_of t ≡ first_refusal (refused_if (no (right_costs t.costs)) StepCost ∷ [])
        sets_pass = lengths_pass ∙ skip FactNumber _ (no_of _ (sym in_range ∙ not-false b right))

        pub check_costs : not d ≡ true → Err (refusal StepCost 0) ≡ verdict_of t
        check_costs h = sym (sets_pass ∙ refuse StepCost _ (no_true _ (sym cheap ∙ not-true d h)))

        pub check_fine : not d ≡ false → Ok tt ≡ verdict_of t
        check_fine h = sym (sets_pass ∙ skip StepCost [] (no_of _ (sym cheap ∙ not-false d h)) ∙ none_left)

-- ---- what is known where nothing is wrong

-- a row of a table of whole rows that holds only facts below n
only_row : (n m : ℕ) (table : List ℕ) → length table ≡ 4 * m → Is (only_facts n table) → (i f : ℕ) → Is (has (row 4 i table) f) → f < n
unfolding only_facts up_to
only_row n m table e h i f r =
    let short : f < 256 = row_lt 4 i table f r in
    let there : i * 4 * 64 + f < length table * 64 = has_lt table (i * 4 * 64 + f) (sym (has_row 4 i table f short) ∙ r) in
    let one_of : i < length table / 4 = omega arith in
    below_at f n (within_at 256 _ _ (all_at (length table / 4) _ h i one_of) f short r)

-- a set that is a table of one row
only_set : (n : ℕ) (words : List ℕ) → length words ≡ 4 → Is (only_facts n words) → (f : ℕ) → Is (has words f) → f < n
only_set n words e h f r =
    let short : f < 256 = omega (arith, has_lt words f r) in
    let first : 0 * 4 * 64 + f ≡ f = omega arith in
    only_row n 1 words e h 0 f (has_row 4 0 words f short ∙ ap (has words) first ∙ r)

pub checked : (t : Tables) → verdict_of t ≡ Ok tt → Checked t
unfolding verdict_of right_lengths right_sets
checked t e =
    let sizes = sized t.facts t.steps (fine_first _ _ e) in
    let after_sizes = fine_rest _ _ e in
    let after_lengths = fine_rest _ _ after_sizes in
    let long = fine_test _ TableLength (fine_first _ _ after_sizes) in
    let long_2 = both_r _ _ long in
    let long_3 = both_r _ _ long_2 in
    let long_4 = both_r _ _ long_3 in
    let long_5 = both_r _ _ long_4 in
    let facts = fine_test _ FactNumber (fine_first _ _ after_lengths) in
    let facts_2 = both_r _ _ facts in
    let facts_3 = both_r _ _ facts_2 in
    let facts_4 = both_r _ _ facts_3 in
    let needs_long = same_at _ _ (both_l _ _ long) in
    let sets_long = same_at _ _ (both_l _ _ long_2) in
    let clears_long = same_at _ _ (both_l _ _ long_3) in
    let start_long = same_at _ _ (both_l _ _ long_5) in
    let goal_long = same_at _ _ (both_r _ _ long_5) in
    record {
      some_facts = sizes.some;
      few_facts = sizes.few;
      few_steps = sizes.short;
      needs_length = needs_long;
      sets_length = sets_long;
      clears_length = clears_long;
      costs_length = same_at _ _ (both_l _ _ long_4);
      start_length = start_long;
      goal_length = goal_long;
      needs_facts = only_row t.facts t.steps t.needs needs_long (both_l _ _ facts);
      sets_facts = only_row t.facts t.steps t.sets sets_long (both_l _ _ facts_2);
      clears_facts = only_row t.facts t.steps t.clears clears_long (both_l _ _ facts_3);
      start_facts = only_set t.facts t.start start_long (both_l _ _ facts_4);
      goal_facts = only_set t.facts t.goal goal_long (both_r _ _ facts_4);
      costs_most = cheap (sym (costs_all t.costs) ∙ fine_test _ StepCost (fine_first _ _ (fine_rest _ _ after_lengths)));
    }
  where
    cheap : Is (all (length t.costs) (λ s. no (below 65535 (get_or t.costs s 0)))) → (s : ℕ) → get_or t.costs s 0 ≤ 65535
    cheap h s =
        elim (compare s (length t.costs)) [
          | inl l ↦ below_not 65535 _ (no_false _ (all_at (length t.costs) _ h s l))
          | inr l ↦ omega (arith, get_or-eq_default t.costs 0 {n = s} l)
        ]
