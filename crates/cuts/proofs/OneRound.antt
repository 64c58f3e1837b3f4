-- Why one round of the code is the round that document 01 has: its choices, cut, cost and costs left are those of the tables' task, and because costs only
-- fall, the distances settle from the old ones.
use Prim.Native.Nat.{ℕ, ◌≤◌, ◌<◌}
use mathlib.Core.Path.{◌≡◌, refl, sym, ap, ◌∙◌}
use mathlib.Core.Bool.{Bool}
use mathlib.Core.List.{List}
use native.Mathlib.Omega.{arith}
use lib.ListN.{length, set}
use Rattle.sets.specs.Tests.{Is, no, both}
use Rattle.sets.specs.Sets.{Set, none}
use Rattle.sets.specs.Words.{has, words_of, row, with_row}
use Rattle.sets.proofs.Tests.{below_true}
use Rattle.sets.proofs.Words.{has_made, made_has, words_of_same, none_read}
use Rattle.task.specs.Task.{Task}
use Rattle.task.specs.Limits.{limits}
use Rattle.task.specs.Rows.{rows_task}
use Rattle.task.specs.Tables.{Tables, view}
use Rattle.task.specs.Checked.{Checked}
use Rattle.task.proofs.RowsRead.{plain, goal_read}
use Rattle.reach.specs.Reach.{reach}
use Rattle.distance.specs.Distance.{entry, distance, distances, least as least_of}
use Rattle.distance.specs.Relaxing.{LargestStill}
use Rattle.distance.proofs.Lists.{length_list, entry_list, list_only}
use Rattle.distance.proofs.Equation.{length_distances, distance_start, distance_mark, distance_cheaper, distances_same}
use Rattle.distance.proofs.Relaxing.{settled_distances}
use Rattle.cuts.specs.Cut.{lowest_farthest, counted, chosen_needs, goal_choice, cut_of, cut_cost}
use Rattle.cuts.specs.Rounds.{Round, lowered, round_of}
use Rattle.cuts.specs.Workers.{chosen_from, counted_from, zone_from, region_from, cut_from, cut_before, taken_off}
use Rattle.cuts.specs.Making.{the_round, Settled, RoundDue, RoundDone}
use Rattle.cuts.proofs.Choice.{lowest_is_farthest}
use Rattle.cuts.proofs.Cut.{Chosen}
use Rattle.cuts.proofs.Round.{choices_right, round_fits, lowered_size, lowered_less}
use Rattle.cuts.proofs.Joining.{least_same, chosen_joined, goal_joined, goal_choice_below, counted_joined, before_joined}

both_known : {p q : Bool} → Is p → both p q ≡ q
unfolding both
both_known h = rw h

module _ (t : Tables) (valid : Checked t) where
  -- clears, costs and goal do not matter to distances
  pub plain_distances : (c : ℕ → ℕ) (mark : ℕ) → distances (view t) c mark ≡ distances (plain t) c mark
  unfolding none no
  plain_distances c mark =
      distances_same mark (view t) (plain t) c
      record { facts = refl; steps = refl; start = λ f l h. h; on = λ s l h. refl; sets = λ s f l b h. h; needs = λ s f l b h. h; cost = λ s l. omega arith }
      record { facts = refl; steps = refl; start = λ f l h. h; on = λ s l h. refl; sets = λ s f l b h. h; needs = λ s f l b h. h; cost = λ s l. omega arith }

  -- costs that only fell: what the old distances settle into are the distances
  pub settled_again : (costs costs₁ table table₁ off : List ℕ) → off ≡ words_of 16 none → Settled (view t) costs table → length costs₁ ≡ t.steps
      → ((s : ℕ) → entry costs₁ s ≤ entry costs s)
      → LargestStill (rows_task (length table) (length costs₁) t.needs t.sets (has off) none) (entry costs₁) table table₁
      → Settled (view t) costs₁ table₁
  unfolding distance
  settled_again costs costs₁ table table₁ off all_on old size less settled =
      settled_distances t.steps t.needs t.sets none (entry costs₁) limits.mark t.facts (has t.start) table table₁ table_length
      (rw (none_read 16 all_on, table_length, size) at settled)
      (λ f l. omega (arith, at f, distance_cheaper limits.mark R (entry costs₁) (entry costs) (λ s k. less s) f l))
      (λ f l. omega (arith, at f, distance_mark R (entry costs) limits.mark f l))
      (λ f l h. omega (arith, at f, distance_start R (entry costs) limits.mark f l h))
      ∙ sym (plain_distances (entry costs₁) limits.mark)
    where
      R : Task
      R = plain t

      table_length : length table ≡ t.facts
      table_length = ap length old ∙ length_distances (view t) (entry costs) limits.mark

      at : (f : ℕ) → entry table f ≡ entry (distances R (entry costs) limits.mark) f
      at f = ap (λ (l : List ℕ). entry l f) (old ∙ plain_distances (entry costs) limits.mark)

-- taking off what is the round's cut and cost
pub taken_off_lem : (t : Task) (r : Round) (X : Set) (cost : ℕ) (costs : List ℕ) → length costs ≡ t.steps → ((s : ℕ) → s < t.steps → X s ≡ r.cut s) → cost ≡ r.cost
    → taken_off X cost costs ≡ lowered t r costs
unfolding taken_off lowered
taken_off_lem t r X cost costs size same_cut same_cost =
    list_only t.steps _ _ (length_list (length costs) _ ∙ size)
    (λ s l. entry_list (length costs) _ s (omega arith) ∙ rw (same_cut s l, same_cost))

-- the cut through the words of its zone and its region
pub before_found : (t : Task) (costs : List ℕ) (counted : Set) (chosen : List ℕ) (goal : ℕ) {zone region cut : List ℕ}
    → zone ≡ words_of 4 (zone_from t costs counted chosen goal)
    → region ≡ words_of 4 (region_from t counted chosen (has zone))
    → cut ≡ words_of 16 (cut_from t counted chosen (has zone) (has region))
    → cut ≡ words_of 16 (cut_before t costs counted chosen goal)
unfolding cut_before
before_found t costs counted chosen goal z r e = e ∙ rw (r, z)

-- ---- one round

-- the facts of the goal, read as a row, are below the number of facts
pub goals_below : {t : Tables} → Checked t → {goals : List ℕ} → goals ≡ words_of 4 (has (row 4 0 t.goal)) → (f : ℕ) → Is (has goals f) → f < t.facts
goals_below {t} valid read = rw (goal_read t valid read) valid.goal_facts

module _ {t : Tables} (valid : Checked t) {left table counts : List ℕ} (counted_is : counts ≡ words_of 16 (counted_from (view t) (reach (view t))))
    (due : RoundDue (view t) left table) {chosen : List ℕ} (chose : chosen ≡ chosen_from (view t) table) where
  abbrev T : Task
  T = view t

  chosen_is : chosen ≡ chosen_needs lowest_farthest limits.mark T (entry left)
  chosen_is = chose ∙ chosen_joined T left table due.settled

  module _ {goals : List ℕ} (goal_set : goals ≡ words_of 4 (has (row 4 0 t.goal))) {nearest : ℕ} (near : nearest ≡ lowest_farthest t.facts (has goals) (entry table)) where
    nearest_is : nearest ≡ goal_choice lowest_farthest limits.mark T (entry left)
    nearest_is = near ∙ ap (λ (X : Set). lowest_farthest t.facts X (entry table)) (goal_read t valid goal_set) ∙ goal_joined T left table due.settled

    pub nearest_below : nearest < t.facts
    nearest_below = rw nearest_is (goal_choice_below T left due.away)

    right : Chosen T (distance T (entry left) limits.mark) (entry chosen) nearest
    right = rw (chosen_is, nearest_is) (choices_right lowest_farthest lowest_is_farthest limits.mark T (entry left))

    counts_is : (s : ℕ) → s < t.steps → has counts s ≡ counted T s
    counts_is s l =
        has_made 16 counts _ counted_is s (omega (arith, valid.few_steps))
        ∙ counted_joined T valid.few_facts valid.needs_facts (reach T) (λ f k. refl) s
        ∙ both_known (below_true s t.steps l)

    module _ {cut : List ℕ} (cut_is : cut ≡ words_of 16 (cut_before T left (has counts) chosen nearest)) where
      -- the cut
      pub cut_made : cut ≡ words_of 16 (the_round T left).cut
      unfolding round_of cut_of
      cut_made =
          cut_is
          ∙ words_of_same 16 _ _
          (λ s l. before_joined T valid.few_facts valid.sets_facts left chosen nearest (has counts) counts_is right due.away s ∙ rw (chosen_is, nearest_is))

      cut_has : (s : ℕ) → s < t.steps → has cut s ≡ (the_round T left).cut s
      cut_has s l = has_made 16 cut _ cut_made s (omega (arith, valid.few_steps))

      module _ {cost : ℕ} (cheapest : cost ≡ least_of limits.mark (length left) (has cut) (entry left)) where
        -- its cost
        pub cost_made : cost ≡ (the_round T left).cost
        unfolding round_of cut_cost
        cost_made =
            cheapest ∙ ap (λ (m : ℕ). least_of limits.mark m (has cut) (entry left)) due.as_many
            ∙ least_same limits.mark t.steps (has cut) _ (entry left) cut_has

        pub cost_fits : (s : ℕ) → Is (has cut s) → cost ≤ entry left s
        cost_fits s h =
            omega (arith, cost_made, round_fits lowest_farthest lowest_is_farthest limits.mark T left s (made_has 16 cut _ cut_made s h))

        module _ {left₁ : List ℕ} (taken : left₁ ≡ taken_off (has cut) cost left) where
          -- the costs left
          pub left_made : left₁ ≡ lowered T (the_round T left) left
          left_made = taken ∙ taken_off_lem T (the_round T left) (has cut) cost left due.as_many cut_has cost_made

          pub left_length : length left₁ ≡ t.steps
          left_length = ap length left_made ∙ lowered_size T (the_round T left) left

          -- and all that a round does
          pub round_made : {off : List ℕ} → off ≡ words_of 16 none → {table₁ : List ℕ}
              → LargestStill (rows_task (length table) (length left₁) t.needs t.sets (has off) none) (entry left₁) table table₁
              → {round : ℕ} {rows prices rows₁ prices₁ : List ℕ} → rows₁ ≡ with_row 16 round cut rows → prices₁ ≡ set prices round cost
              → RoundDone T round rows prices left rows₁ prices₁ left₁ table₁ cost
          round_made {off} all_on {table₁} settled {round} {rows} {prices} {rows₁} {prices₁} put priced =
              record {
                cost_is = cost_made;
                row_is = put ∙ ap (λ (w : List ℕ). with_row 16 round w rows) cut_made;
                price_is = priced ∙ ap (set prices round) cost_made;
                left_is = left_made;
                settled =
                    settled_again t valid left left₁ table table₁ off all_on due.settled left_length
                    (λ s. rw left_made (lowered_less T (the_round T left) left s)) settled;
              }
