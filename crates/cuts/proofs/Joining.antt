-- The workers' definitions joined to the mathematics: they give the choices, zone, region and cut of any task, because "begin" can be kept apart from the
-- facts and no step has a fact past the last.
use Prim.Native.Nat.{ℕ, zero, suc, ◌≤◌, ◌<◌}
use mathlib.Core.Path.{◌≡◌, refl, sym, ap, ◌∙◌, subst}
use mathlib.Core.Bool.{Bool}
use mathlib.Core.List.{List}
use mathlib.Core.Logic.{inl, inr}
use native.Mathlib.Omega.{arith}
use lib.ListN.{length}
use Rattle.sets.specs.Tests.{Is, no, both, either, below, same}
use Rattle.sets.specs.Sets.{Set, any, within}
use Rattle.sets.specs.Words.{has, words_of, row}
use Rattle.sets.proofs.Tests.{equal_tests, not_both_ways, both_l, both_r, both_true, either_l, either_r, either_cases, no_true, no_false, below_true, below_false, same_true, same_at, compare}
use Rattle.sets.proofs.Sets.{any_true, any_at, within_at, within_true}
use Rattle.sets.proofs.Words.{has_of}
use Rattle.task.specs.Task.{Task}
use Rattle.task.specs.Limits.{limits}
use Rattle.task.specs.Rows.{RowsBelow}
use Rattle.task.specs.Walks.{possible}
use Rattle.reach.specs.Least.{least}
use Rattle.reach.specs.Reach.{reach}
use Rattle.reach.proofs.Least.{Kept, least_holds, least_closed, least_within}
use Rattle.distance.specs.Distance.{list_of, entry, distance, distances, goal_distance, least as least_of}
use Rattle.cuts.specs.Cut.{lowest_farthest, counted, arc_into, zone, region, cut, chosen_needs, goal_choice}
use Rattle.cuts.specs.Workers.{round_task, chosen_from, counted_from, sets_into, tail_in, zone_from, region_from, cut_from, cut_before}
use Rattle.cuts.proofs.Choice.{lowest_is_farthest}
use Rattle.cuts.proofs.Cut.{Chosen, cut_below, zone_goal, goal_chosen, region_start}
use Rattle.cuts.proofs.Round.{choices_right}
use Rattle.cuts.proofs.FactsOnly.{TailIn, zone_facts, zone_grows, region_facts, region_grows, cut_facts}

-- ---- sets that are the same below a number

-- the least does not depend on what lies past n, nor on the way the set is given
pub least_same : (mark n : ℕ) (X Y : Set) (x : ℕ → ℕ) → ((i : ℕ) → i < n → X i ≡ Y i) → least_of mark n X x ≡ least_of mark n Y x
unfolding least_of
least_same mark n X Y x h = go n (λ i l. h i l)
  where
    go : (k : ℕ) → ((i : ℕ) → i < k → X i ≡ Y i) → least_of mark k X x ≡ least_of mark k Y x
    go zero e = refl
    go (suc k) e = rw (go k (λ i l. e i (omega arith)), e k (omega arith))

-- ---- a round of a task

-- the sets of all steps hold only facts below n
abbrev pub FactsBelow : ℕ → (ℕ → Set) → Type 0
FactsBelow n row = (s f : ℕ) → Is (row s f) → f < n

module _ (T : Task) where
  abbrev n : ℕ
  n = T.facts

  abbrev m : ℕ
  m = T.steps

  -- the chosen needs
  pub chosen_joined : (costs table : List ℕ) → table ≡ distances T (entry costs) limits.mark
      → chosen_from T table ≡ chosen_needs lowest_farthest limits.mark T (entry costs)
  unfolding chosen_from chosen_needs
  chosen_joined costs table e = rw e

  -- the goal's choice
  pub goal_joined : (costs table : List ℕ) → table ≡ distances T (entry costs) limits.mark
      → lowest_farthest n T.goal (entry table) ≡ goal_choice lowest_farthest limits.mark T (entry costs)
  unfolding goal_choice
  goal_joined costs table e = rw e

  -- it is a fact, while the goal's distance is above 0
  pub goal_choice_below : (costs : List ℕ) → 0 < goal_distance T (entry costs) limits.mark
      → goal_choice lowest_farthest limits.mark T (entry costs) < n
  goal_choice_below costs away =
      (goal_chosen T (entry costs) (entry (chosen_needs lowest_farthest limits.mark T (entry costs))) limits.mark _ (choices_right lowest_farthest lowest_is_farthest limits.mark T (entry costs)) away).0

  -- the steps that count, from any set that is as reach below n
  pub counted_joined : T.facts ≤ 256 → FactsBelow n T.needs → (reached : Set) → ((f : ℕ) → f < n → reached f ≡ reach T f) → (s : ℕ)
      → counted_from T reached s ≡ both (below s m) (counted T s)
  unfolding counted_from counted possible
  counted_joined few needs_below reached same_reach s =
      ap (λ (p : Bool). both (below s m) (both (T.on s) p))
      (equal_tests _ _
      (λ h. within_true n _ _ (λ f l x. sym (same_reach f l) ∙ within_at 256 _ _ h f (omega arith) x))
      (λ h. within_true 256 _ _ (λ f l x. let b = needs_below s f x in same_reach f b ∙ within_at n _ _ h f b x)))

  module _ (few : T.facts ≤ 256) (sets_below : FactsBelow n T.sets) where
    -- a step with an arc into X sets a member of X, and is counted
    pub arc_joined : (X Y : Set) → ((f : ℕ) → f < n → X f ≡ Y f) → (s : ℕ) → arc_into T X s ≡ both (counted T s) (sets_into T Y s)
    unfolding arc_into sets_into
    arc_joined X Y e s =
        ap (both (counted T s))
        (equal_tests _ _
        (λ h. let r = any_at n _ h in
        let a = both_l (T.sets s r.0) _ r.2 in
        any_true 256 _ r.0 (omega (arith, r.1)) (both_true (T.sets s r.0) _ a (sym (e r.0 r.1) ∙ both_r (T.sets s r.0) _ r.2)))
        (λ h. let r = any_at 256 _ h in
        let a = both_l (T.sets s r.0) _ r.2 in
        let b = sets_below s r.0 a in
        any_true n _ r.0 b (both_true (T.sets s r.0) _ a (e r.0 b ∙ both_r (T.sets s r.0) _ r.2))))

    -- ---- a round: the choices are right and the goal's distance is above 0

    module _ (costs chosen : List ℕ) (choice : ℕ) (C : Set) (c_is : (s : ℕ) → s < m → C s ≡ counted T s)
        (right : Chosen T (distance T (entry costs) limits.mark) (entry chosen) choice) (away : 0 < goal_distance T (entry costs) limits.mark) where
      abbrev Z : Set
      Z = zone T (entry chosen) (entry costs) choice

      abbrev B : Set
      B = region T (entry chosen) Z

      abbrev zone_rule : Set → Set
      zone_rule X u = any m (λ s. both (C s) (both (same (entry costs s) 0) (both (same (entry chosen s) u) (sets_into T X s))))

      rule_true : (X : Set) (s : ℕ) → s < m → Is (arc_into T X s) → entry costs s ≡ 0 → Is (zone_rule X (entry chosen s))
      rule_true X s l arc e =
          let h = sym (arc_joined X X (λ f k. refl) s) ∙ arc in
          any_true m _ s (omega arith)
          (both_true (C s) _ (c_is s l ∙ both_l (counted T s) _ h)
          (both_true (same (entry costs s) 0) _ (same_true _ _ e) (both_true (same (entry chosen s) (entry chosen s)) _ (same_true _ _ refl) (both_r (counted T s) _ h))))

      rule_at : (X : Set) (u : ℕ) → Is (zone_rule X u) → (s : ℕ) × (s < m) × Is (arc_into T X s) × (entry costs s ≡ 0) × (entry chosen s ≡ u)
      rule_at X u h =
          let r = any_at m _ h in
          let s = r.0 in
          let l : s < m = omega (arith, r.1) in
          let a = both_l (C s) _ r.2 in
          let b = both_r (C s) _ r.2 in
          let d = both_r (same (entry costs s) 0) _ b in (
            s,
            l,
            arc_joined X X (λ f k. refl) s ∙ both_true (counted T s) _ (sym (c_is s l) ∙ a) (both_r (same (entry chosen s) u) _ d),
            same_at _ _ (both_l (same (entry costs s) 0) _ b),
            same_at _ _ (both_l (same (entry chosen s) u) _ d),
          )

      -- the zone's facts
      pub zone_joined : (f : ℕ) → f < n → zone_from T costs C chosen choice f ≡ Z f
      unfolding zone_from
      zone_joined =
          zone_facts T (entry costs) (entry chosen) choice Y
          (least_holds n zone_rule (λ u. same u choice) choice (goal_chosen T (entry costs) (entry chosen) limits.mark choice right away).0 (same_true choice choice refl))
          (least_within n zone_rule (λ u. same u choice) (λ u. Is (Z u)) keeps
          (λ u k h. subst (λ x. Is (Z x)) (sym (same_at u choice h)) (zone_goal T (entry costs) (entry chosen) limits.mark choice right away)))
          (λ s l arc e b. least_closed n zone_rule (λ u. same u choice) (entry chosen s) b (rule_true Y s l arc e))
        where
          Y : Set
          Y = (least n zone_rule (λ u. same u choice)).set

          keeps : Kept n zone_rule (λ u. Is (Z u))
          keeps X inside u k h =
              let r = rule_at X u h in
              subst (λ x. Is (Z x)) r.4 (zone_grows T (entry costs) (entry chosen) choice limits.mark right away X inside r.0 r.1 r.2 r.3)

      -- ---- the region, from a set that is as the zone below n

      -- the step's chosen need is "begin" or a fact
      tail_cases : (X : Set) (s : ℕ) → s < m → Is (counted T s) → Is (tail_in T chosen X s) → TailIn T (entry costs) (entry chosen) choice X s
      unfolding tail_in
      tail_cases X s l counts h =
          elim (either_cases (no (below (entry chosen s) n)) _ h) [
            | inl a ↦ elim (right.by_step s l counts) [ inl e ↦ inl e.0 | inr e ↦ not_both_ways (below_true _ _ e.0) (no_false _ a) ]
            | inr b ↦ inr b
          ]

      tail_true : (X Y : Set) → ((f : ℕ) → f < n → X f ≡ Y f) → (s : ℕ) → s < m → Is (counted T s) → TailIn T (entry costs) (entry chosen) choice X s → Is (tail_in T chosen Y s)
      unfolding tail_in
      tail_true X Y e s l counts h =
          elim (right.by_step s l counts) [
            | inl a ↦ either_l (no (below (entry chosen s) n)) _ (no_true _ (below_false (entry chosen s) n (omega (arith, a.0))))
            | inr a ↦ elim h [
              | inl b ↦ absurd (omega (arith, a.0))
              | inr b ↦ either_r (no (below (entry chosen s) n)) _ (sym (e (entry chosen s) a.0) ∙ b)
            ]
          ]

      module _ (Zf : Set) (zf_is : (f : ℕ) → f < n → Zf f ≡ Z f) where
        abbrev region_rule : Set → Set
        region_rule X f = both (no (Zf f)) (any m (λ s. both (C s) (both (tail_in T chosen X s) (T.sets s f))))

        -- the region's facts
        pub region_joined : (f : ℕ) → f < n → region_from T C chosen Zf f ≡ B f
        unfolding region_from
        region_joined =
            region_facts T (entry costs) (entry chosen) choice limits.mark right away Y (least_holds n region_rule T.start)
            (least_within n region_rule T.start (λ f. Is (B f)) keeps (λ f l h. region_start T (entry costs) (entry chosen) limits.mark choice right away f l h))
            (λ s f l k counts tail set out.
            least_closed n region_rule T.start f k
            (both_true (no (Zf f)) _ (no_true (Zf f) (zf_is f k ∙ out))
            (any_true m _ s l (both_true (C s) _ (c_is s l ∙ counts) (both_true (tail_in T chosen Y s) _ (tail_true Y Y (λ f l. refl) s l counts tail) set)))))
          where
            Y : Set
            Y = (least n region_rule T.start).set

            keeps : Kept n region_rule (λ f. Is (B f))
            keeps X inside f k h =
                let r = any_at m _ (both_r (no (Zf f)) _ h) in
                let s = r.0 in
                let counts = sym (c_is s r.1) ∙ both_l (C s) _ r.2 in
                let e = both_r (C s) _ r.2 in
                region_grows T (entry costs) (entry chosen) choice limits.mark right away X inside s f r.1 k counts
                (tail_cases X s r.1 counts (both_l (tail_in T chosen X s) _ e)) (both_r (tail_in T chosen X s) _ e) (sym (zf_is f k) ∙ no_false (Zf f) (both_l (no (Zf f)) _ h))

        -- the cut, from a set that is as the region below n
        module _ (Bf : Set) (bf_is : (f : ℕ) → f < n → Bf f ≡ B f) where
          cut_here : (s : ℕ) → s < m → cut_from T C chosen Zf Bf s ≡ cut T (entry chosen) Z s
          unfolding cut_from
          cut_here s l =
              equal_tests _ _
              (λ h.
              let counts = sym (c_is s l) ∙ both_r (below s m) _ (both_l (both (below s m) (C s)) _ h) in
              let e = both_r (both (below s m) (C s)) _ h in
              facts ∙ both_true (arc_into T Zf s) _ (arc_joined Zf Zf (λ f k. refl) s ∙ both_true (counted T s) _ counts (both_l (sets_into T Zf s) _ e))
              (elim (tail_cases Bf s l counts (both_r (sets_into T Zf s) _ e)) [
                | inl a ↦ either_l (same (entry chosen s) n) _ (same_true _ _ a)
                | inr b ↦ either_r (same (entry chosen s) n) _ b
              ]))
              (λ h.
              let g = sym facts ∙ h in
              let arc = sym (arc_joined Zf Zf (λ f k. refl) s) ∙ both_l (arc_into T Zf s) _ g in
              let counts = both_l (counted T s) _ arc in
              both_true (both (below s m) (C s)) _ (both_true (below s m) _ (below_true s m l) (c_is s l ∙ counts))
              (both_true (sets_into T Zf s) _ (both_r (counted T s) _ arc)
              (tail_true Bf Bf (λ f k. refl) s l counts
              (elim (either_cases (same (entry chosen s) n) (Bf (entry chosen s)) (both_r (arc_into T Zf s) _ g)) [ inl a ↦ inl (same_at _ _ a) | inr b ↦ inr b ]))))
            where
              facts : cut T (entry chosen) Z s ≡ both (arc_into T Zf s) (either (same (entry chosen s) n) (Bf (entry chosen s)))
              facts = cut_facts T (entry costs) (entry chosen) choice limits.mark right away Zf Bf zf_is bf_is s l

          pub cut_joined : (s : ℕ) → cut_from T C chosen Zf Bf s ≡ cut T (entry chosen) Z s
          unfolding cut_from
          cut_joined s =
              elim (compare s m) [
                | inl l ↦ cut_here s l
                | inr l ↦
                    equal_tests _ _ (λ h. not_both_ways (both_l (below s m) _ (both_l (both (below s m) (C s)) _ h)) (below_false s m l))
                    (λ h. absurd (omega (arith, cut_below T (entry chosen) Z s h)))
              ]

      -- the cut through the words of the zone and of the region
      pub before_joined : (s : ℕ) → cut_before T costs C chosen choice s ≡ cut T (entry chosen) Z s
      unfolding cut_before
      before_joined s =
          (cut_joined (has (words_of 4 (zone_from T costs C chosen choice))) zone_read
          (has (words_of 4 (region_from T C chosen (has (words_of 4 (zone_from T costs C chosen choice))))))
          (λ f l. has_of 4 _ f (omega arith) ∙ region_joined (has (words_of 4 (zone_from T costs C chosen choice))) zone_read f l) s)
        where
          zone_read : (f : ℕ) → f < n → has (words_of 4 (zone_from T costs C chosen choice)) f ≡ Z f
          zone_read f l = has_of 4 _ f (omega arith) ∙ zone_joined f l

-- ---- the same of rows of needs and sets with some steps off, in the words of the rows

module _ (n m : ℕ) (needs sets : List ℕ) (off start goal : Set) (few : n ≤ 256) (needs_below : RowsBelow n needs) (sets_below : RowsBelow n sets) where
  abbrev R : Task
  R = round_task n m needs sets off start goal

  pub rows_chosen : (costs table : List ℕ) → table ≡ distances R (entry costs) limits.mark
      → list_of m (λ s. lowest_farthest n (has (row 4 s needs)) (entry table)) ≡ chosen_needs lowest_farthest limits.mark R (entry costs)
  unfolding chosen_from
  rows_chosen = chosen_joined R

  pub rows_counted : (reached : Set) → ((f : ℕ) → f < n → reached f ≡ reach R f) → (s : ℕ)
      → both (below s m) (both (no (off s)) (within 256 (has (row 4 s needs)) reached)) ≡ both (below s m) (counted R s)
  unfolding counted_from
  rows_counted = counted_joined R few needs_below

  module _ (costs chosen : List ℕ) (choice : ℕ) (size : length costs ≡ m) (C : Set) (c_is : (s : ℕ) → s < m → C s ≡ counted R s)
      (right : Chosen R (distance R (entry costs) limits.mark) (entry chosen) choice) (away : 0 < goal_distance R (entry costs) limits.mark) where
    abbrev Zone : Set
    Zone = zone R (entry chosen) (entry costs) choice

    abbrev into : Set → ℕ → Bool
    into X s = any 256 (λ f. both (has (row 4 s sets) f) (X f))

    abbrev tail : Set → ℕ → Bool
    tail X s = either (no (below (entry chosen s) n)) (X (entry chosen s))

    pub rows_zone : (f : ℕ) → f < n
        → (least n (λ X u. any (length costs) (λ s. both (C s) (both (same (entry costs s) 0) (both (same (entry chosen s) u) (into X s))))) (λ u. same u choice)).set f
        ≡ Zone f
    unfolding zone_from sets_into
    rows_zone = rw size (zone_joined R few sets_below costs chosen choice C c_is right away)

    module _ (Zf : Set) (zf_is : (f : ℕ) → f < n → Zf f ≡ Zone f) (Bf : Set) (bf_is : (f : ℕ) → f < n → Bf f ≡ region R (entry chosen) Zone f) where
      pub rows_cut : (s : ℕ) → both (both (below s m) (C s)) (both (into Zf s) (tail Bf s)) ≡ cut R (entry chosen) Zone s
      unfolding cut_from sets_into tail_in
      rows_cut = cut_joined R few sets_below costs chosen choice C c_is right away Zf zf_is Bf bf_is
