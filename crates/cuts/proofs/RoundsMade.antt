-- Why the loop over the rounds makes them all: what is written so far are the rounds made so far, and each turn of the loop makes the next one of document 01.
use Prim.Native.Nat.{ℕ, suc, ◌+◌, ◌*◌, ◌≤◌, ◌<◌}
use mathlib.Core.Path.{◌≡◌, refl, sym, ap, ◌∙◌, subst}
use mathlib.Core.List.{List, [], ◌∷◌, ◌++◌, append-nil, append_assoc}
use native.Mathlib.Nat.{mul-le-mul_right}
use native.Mathlib.Omega.{arith}
use lib.ListN.{length, set, take, drop, length-append, length-set}
use lib.Seq.{append_snoc, take_at, drop-append-add, drop-drop, set_split}
use Rattle.sets.specs.Sets.{Set}
use Rattle.sets.specs.Words.{has, words_of, row, with_row}
use Rattle.sets.proofs.Tests.{below_false, pick_false}
use Rattle.sets.proofs.Words.{length_words_of}
use Rattle.sets.proofs.Rows.{length_with_row}
use Rattle.task.specs.Limits.{limits}
use Rattle.task.specs.Task.{Task}
use Rattle.task.specs.Tables.{Tables, view}
use Rattle.task.specs.Checked.{Checked}
use Rattle.task.proofs.RowsRead.{goal_read}
use Rattle.distance.specs.Distance.{largest, entry, goal_distance}
use Rattle.distance.proofs.Lists.{list_only}
use Rattle.distance.proofs.Answering.{set_distance_is}
use Rattle.cuts.specs.Cut.{lowest_farthest}
use Rattle.cuts.specs.Rounds.{Round, given_costs, floor_of}
use Rattle.cuts.specs.Answer.{rounds_of, cut_words, cut_costs}
use Rattle.cuts.specs.Making.{the_round, Settled, RoundDue, RoundDone, RoundsDue, RoundsDone}
use Rattle.cuts.proofs.Choice.{lowest_is_farthest}
use Rattle.cuts.proofs.Rounds.{all_floor_most}
use Rattle.cuts.proofs.RoundByRound.{Cutting, floor_append, cutting_start, cutting_stop, cutting_floor, cutting_room, cutting_next}

-- ---- lists that are written from the front

-- the next row
written_next : (k i : ℕ) (A w before rows : List ℕ) → length A ≡ i * k → i * k + k ≤ length rows → length w ≡ k → rows ≡ A ++ drop (length A) before
    → with_row k i w rows ≡ (A ++ w) ++ drop (length (A ++ w)) before
unfolding with_row
written_next k i A w before rows size room wide e =
    pick_false _ _ (below_false (length rows) (i * k + k) room)
    ∙ ap (λ (l : List ℕ). (l ++ w) ++ drop (i * k + k) rows) (ap (take (i * k)) e ∙ take_at A _ (i * k) size)
    ∙ ap (λ (l : List ℕ). (A ++ w) ++ l)
    (ap (drop (i * k + k)) e ∙ ap (λ (p : ℕ). drop p (A ++ drop (length A) before)) ends ∙ drop-append-add A _ k ∙ drop-drop k (length A) before
    ∙ ap (λ (p : ℕ). drop p before) (sym (length-append A w ∙ ap (λ (x : ℕ). length A + x) wide)))
  where
    ends : i * k + k ≡ length A + k
    ends = ap (λ (x : ℕ). x + k) (sym size)

-- the next number
priced_next : (i x : ℕ) (A before prices : List ℕ) → length A ≡ i → i < length prices → prices ≡ A ++ drop (length A) before
    → set prices i x ≡ (A ++ x ∷ []) ++ drop (length (A ++ x ∷ [])) before
priced_next i x A before prices size room e =
    set_split prices i x room
    ∙ ap (λ (l : List ℕ). l ++ x ∷ drop (suc i) prices) (ap (take i) e ∙ take_at A _ i size)
    ∙ sym (append_snoc A x (drop (suc i) prices))
    ∙ ap (λ (l : List ℕ). (A ++ x ∷ []) ++ l)
    (ap (drop (suc i)) e ∙ ap (λ (p : ℕ). drop p (A ++ drop (length A) before)) ends ∙ drop-append-add A _ 1 ∙ drop-drop 1 (length A) before
    ∙ ap (λ (p : ℕ). drop p before) (sym (length-append A (x ∷ []))))
  where
    ends : suc i ≡ length A + 1
    ends = omega arith

-- the words and prices of one round more
words_more : (done : List Round) (r : Round) → cut_words (done ++ r ∷ []) ≡ cut_words done ++ words_of 16 r.cut
unfolding cut_words
words_more [] r = append-nil (words_of 16 r.cut)
words_more (d ∷ done) r = ap (λ (l : List ℕ). words_of 16 d.cut ++ l) (words_more done r) ∙ sym (append_assoc (words_of 16 d.cut) (cut_words done) (words_of 16 r.cut))

prices_more : (done : List Round) (r : Round) → cut_costs (done ++ r ∷ []) ≡ cut_costs done ++ r.cost ∷ []
unfolding cut_costs
prices_more [] r = refl
prices_more (d ∷ done) r = ap (λ (l : List ℕ). d.cost ∷ l) (prices_more done r)

words_long : (done : List Round) → length (cut_words done) ≡ length done * 16
unfolding cut_words
words_long [] = omega arith
words_long (r ∷ done) =
    omega (arith, length-append (words_of 16 r.cut) (cut_words done), length_words_of 16 r.cut, words_long done)

prices_long : (done : List Round) → length (cut_costs done) ≡ length done
unfolding cut_costs
prices_long [] = refl
prices_long (r ∷ done) = ap suc (prices_long done)

-- ---- what the loop keeps

-- the rounds made so far, the rows and prices before them, and the tables now
pub record RoundsKept (t : Task) (rows₀ prices₀ rows prices left table : List ℕ) (round floor : ℕ) : Type 0 where
  pub done : List Round
  pub cutting : Cutting lowest_farthest limits.mark t done left
  pub round_is : round ≡ length done
  pub floor_is : floor ≡ floor_of done
  pub rows_are : rows ≡ cut_words done ++ drop (length (cut_words done)) rows₀
  pub prices_are : prices ≡ cut_costs done ++ drop (length (cut_costs done)) prices₀
  pub settled : Settled t left table
  pub rows_long : length rows ≡ length rows₀
  pub prices_long : length prices ≡ length prices₀

module _ {t : Tables} (valid : Checked t) {rows₀ prices₀ : List ℕ} (due : RoundsDue (view t) rows₀ prices₀) where
  abbrev T : Task
  T = view t

  -- it holds before the first round
  pub rounds_start : {left₀ table₀ : List ℕ} → left₀ ≡ t.costs → Settled T left₀ table₀ → RoundsKept T rows₀ prices₀ rows₀ prices₀ left₀ table₀ 0 0
  unfolding cut_words cut_costs floor_of given_costs
  rounds_start {left₀} given settled =
      record {
        done = [];
        cutting =
            subst (λ (l : List ℕ). Cutting lowest_farthest limits.mark T [] l) (sym (list_only t.steps (entry t.costs) left₀ (ap length given ∙ valid.costs_length) (λ i l. ap (λ (c : List ℕ). entry c i) given)))
            (cutting_start lowest_farthest limits.mark T (λ s l. omega (arith, valid.costs_most s)));
        round_is = refl;
        floor_is = refl;
        rows_are = refl;
        prices_are = refl;
        settled = settled;
        rows_long = refl;
        prices_long = refl;
      }

  module _ {rows prices left table : List ℕ} {round floor : ℕ} (kept : RoundsKept T rows₀ prices₀ rows prices left table round floor) where
    -- what is tested is the goal's distance
    module _ {goals : List ℕ} (goal_set : goals ≡ words_of 4 (has (row 4 0 t.goal))) {r : ℕ} (tested : r ≡ largest 256 (has goals) (entry table)) where
      pub goal_tested : r ≡ goal_distance T (entry left) limits.mark
      unfolding goal_distance
      goal_tested =
          tested ∙ ap (λ (X : Set). largest 256 X (entry table)) (goal_read t valid goal_set)
          ∙ ap (λ (l : List ℕ). largest 256 (has t.goal) (entry l)) (kept.settled ∙ sym (append-nil _))
          ∙ set_distance_is T (entry left) limits.mark valid.few_facts (has t.goal) valid.goal_facts []

      -- the rounds are over
      pub rounds_end : r ≡ 0 → RoundsDone T rows₀ prices₀ rows prices left record { rounds = round; floor = floor }
      unfolding rounds_of
      rounds_end h =
          let over = cutting_stop lowest_farthest limits.mark T kept.done left kept.cutting (sym goal_tested ∙ h) in
          record {
            rows_are = rw over.0 kept.rows_are;
            prices_are = rw over.0 kept.prices_are;
            left_are = sym over.1;
            answer_is = rw (over.0, kept.round_is, kept.floor_is);
          }

      module _ (on : ¬ (r ≡ 0)) where
        away : 0 < goal_distance T (entry left) limits.mark
        away = omega (arith, goal_tested)

        -- there is room for one more
        pub room_left : round < t.steps
        room_left =
            omega (arith, cutting_room lowest_farthest lowest_is_farthest limits.mark T due.some_way kept.done left kept.cutting away, kept.round_is)

        round_room : round < length prices
        round_room = omega (arith, room_left, due.prices_room, kept.prices_long)

        -- what a round asks for
        pub round_asks : (round < length prices) × RoundDue T left table
        round_asks = (round_room, record { as_many = kept.cutting.size; settled = kept.settled; away = away })

        module _ {rows₁ prices₁ left₁ table₁ : List ℕ} {cost : ℕ} (one : RoundDone T round rows prices left rows₁ prices₁ left₁ table₁ cost) where
          abbrev r_next : Round
          r_next = the_round T left

          next_cutting : Cutting lowest_farthest limits.mark T (kept.done ++ r_next ∷ []) left₁
          next_cutting =
              rw one.left_is (cutting_next lowest_farthest lowest_is_farthest limits.mark T due.some_way kept.done left kept.cutting away)

          next_floor : floor + cost ≡ floor_of (kept.done ++ r_next ∷ [])
          unfolding floor_of
          next_floor = omega (arith, kept.floor_is, one.cost_is, floor_append kept.done (r_next ∷ []))

          -- the loop's invariant after the round
          pub round_next : RoundsKept T rows₀ prices₀ rows₁ prices₁ left₁ table₁ (round + 1) (floor + cost)
          round_next =
              record {
                done = kept.done ++ r_next ∷ [];
                cutting = next_cutting;
                round_is = omega (arith, kept.round_is, length-append kept.done (r_next ∷ []));
                floor_is = next_floor;
                rows_are =
                    one.row_is
                    ∙ written_next 16 round (cut_words kept.done) (words_of 16 r_next.cut) rows₀ rows (omega (arith, words_long kept.done, kept.round_is))
                    (omega (arith, room_left, due.room, kept.rows_long)) (length_words_of 16 r_next.cut) kept.rows_are
                    ∙ ap (λ (l : List ℕ). l ++ drop (length l) rows₀) (sym (words_more kept.done r_next));
                prices_are =
                    one.price_is
                    ∙ priced_next round r_next.cost (cut_costs kept.done) prices₀ prices (prices_long kept.done ∙ sym kept.round_is) round_room kept.prices_are
                    ∙ ap (λ (l : List ℕ). l ++ drop (length l) prices₀) (sym (prices_more kept.done r_next));
                settled = one.settled;
                rows_long = ap length one.row_is ∙ length_with_row 16 round (words_of 16 r_next.cut) rows (length_words_of 16 r_next.cut) ∙ kept.rows_long;
                prices_long = ap length one.price_is ∙ length-set prices round r_next.cost ∙ kept.prices_long;
              }

          -- the floor stays below the largest that all costs add up to
          pub floor_room : floor + cost ≤ 67107840
          floor_room =
              omega (
                arith,
                next_floor,
                cutting_floor lowest_farthest limits.mark T (kept.done ++ r_next ∷ []) left₁ next_cutting,
                all_floor_most lowest_farthest lowest_is_farthest limits.mark T due.some_way (λ s l. omega (arith, valid.costs_most s)) 65535 (λ s l. valid.costs_most s),
                mul-le-mul_right 65535 valid.few_steps,
              )
