-- What a replay answers, over any task: each answer is given exactly where document 01 says so, by induction on the walk.
use Prim.Native.Nat.{ℕ, zero, suc, ◌≤◌, ◌<◌}
use mathlib.Core.Path.{◌≡◌, refl, ap, ◌∙◌}
use mathlib.Core.Bool.{false}
use mathlib.Core.List.{List, [], ◌∷◌}
use mathlib.Core.Logic.{inl, inr, ◌↔◌}
use native.Mathlib.Nat.{not-suc-le-zero}
use native.Mathlib.Omega.{arith}
use lib.ListN.{length, get_or, take}
use Rattle.sets.specs.Tests.{Is, below}
use Rattle.sets.specs.Sets.{Set}
use Rattle.sets.proofs.Tests.{tell, both_l, both_r, both_true, below_true, below_at, below_false, below_not, pick_true, pick_false}
use Rattle.task.specs.Task.{Task}
use Rattle.task.specs.Walks.{possible, taking, can_take, after, goal_holds, real_walk, walk_cost, way_to_goal}
use Rattle.task.proofs.Walks.{can_take_none, can_take_cons, can_take_first, can_take_rest, walk_is_way}
use Rattle.replay.specs.declared.Replayed.TheVariants.{Done, Stuck, Short}
use Rattle.replay.specs.Replay.{taken_before, walked}

-- every entry of the walk is the number of a step
abbrev pub Numbered : Task → List ℕ → Type 0
Numbered t w = (i : ℕ) → i < length w → get_or w i 0 < t.steps

-- what is known where the walk is stuck, done or short
data Outcome (t : Task) (w : List ℕ) : Type 0 where
  stuck : taken_before t t.start w < length w → walked t w ≡ Stuck (taken_before t t.start w) → Outcome t w
  done : length w ≤ taken_before t t.start w → Is (goal_holds t (after t t.start w)) → walked t w ≡ Done (walk_cost t w) → Outcome t w
  short : length w ≤ taken_before t t.start w → goal_holds t (after t t.start w) ≡ false → walked t w ≡ Short → Outcome t w

module _ (t : Task) where
  -- ---- how many entries can be taken in turn

  -- an entry that can be taken counts, and one that cannot ends the count
  pub taken_next : (X : Set) (s : ℕ) (w : List ℕ) → Is (possible t X s) → taken_before t X (s ∷ w) ≡ suc (taken_before t (taking t X s) w)
  unfolding taken_before
  taken_next X s w h = pick_true _ 0 h

  pub taken_stop : (X : Set) (s : ℕ) (w : List ℕ) → possible t X s ≡ false → taken_before t X (s ∷ w) ≡ 0
  unfolding taken_before
  taken_stop X s w h = pick_false _ 0 h

  -- without its first entry too
  numbered_rest : (s : ℕ) (w : List ℕ) → Numbered t (s ∷ w) → Numbered t w
  numbered_rest s w n i l = n (suc i) (omega arith)

  -- all of them, exactly if the walk can be taken
  pub taken_all : (X : Set) (w : List ℕ) → Is (can_take t X w) → taken_before t X w ≡ length w
  unfolding taken_before
  taken_all X [] h = refl
  taken_all X (s ∷ w) h =
      taken_next X s w (can_take_first t X s w h) ∙ ap suc (taken_all (taking t X s) w (can_take_rest t X s w h))

  pub all_taken : (X : Set) (w : List ℕ) → Numbered t w → length w ≤ taken_before t X w → Is (can_take t X w)
  all_taken X [] n h = can_take_none t X
  all_taken X (s ∷ w) n h =
      elim (tell (possible t X s)) [
        | inl p ↦ can_take_cons t X s w (n 0 (omega arith)) p
            (all_taken (taking t X s) w (numbered_rest s w n) (omega (arith, taken_next X s w p)))
        | inr p ↦ absurd (omega (arith, taken_stop X s w p))
      ]

  -- i of them, exactly if the first i can be taken in turn and entry i cannot be taken then
  abbrev pub StuckAt : Set → List ℕ → ℕ → Type 0
  StuckAt X w i = Is (can_take t X (take i w)) × (possible t (after t X (take i w)) (get_or w i 0) ≡ false)

  pub taken_stuck : (X : Set) (w : List ℕ) (i : ℕ) → i < length w → StuckAt X w i → taken_before t X w ≡ i
  unfolding after
  taken_stuck X [] i l h = absurd (not-suc-le-zero l)
  taken_stuck X (s ∷ w) zero l h = taken_stop X s w h.1
  taken_stuck X (s ∷ w) (suc i) l h =
      taken_next X s w (can_take_first t X s (take i w) h.0)
      ∙ ap suc (taken_stuck (taking t X s) w i (omega arith) (can_take_rest t X s (take i w) h.0, h.1))

  pub stuck_taken : (X : Set) (w : List ℕ) (i : ℕ) → Numbered t w → i < length w → taken_before t X w ≡ i → StuckAt X w i
  unfolding after
  stuck_taken X [] i n l e = absurd (not-suc-le-zero l)
  stuck_taken X (s ∷ w) zero n l e =
      (can_take_none t X, elim (tell (possible t X s)) [ inl p ↦ absurd (omega (arith, taken_next X s w p)) | inr p ↦ p ])
  stuck_taken X (s ∷ w) (suc i) n l e =
      elim (tell (possible t X s)) [
        | inl p ↦
            let rest = stuck_taken (taking t X s) w i (numbered_rest s w n) (omega arith) (omega (arith, taken_next X s w p)) in
            (can_take_cons t X s (take i w) (n 0 (omega arith)) p rest.0, rest.1)
        | inr p ↦ absurd (omega (arith, taken_stop X s w p))
      ]

  -- ---- the answer, from how many entries can be taken

  module _ (w : List ℕ) where
    -- fewer than there are: stuck at the first that cannot be
    pub answers_stuck : (i : ℕ) → i < length w → taken_before t t.start w ≡ i → walked t w ≡ Stuck i
    unfolding walked
    answers_stuck i l e = rw e (pick_true (Stuck i) _ (below_true i (length w) l))

    -- all: done or short, as the goal holds or not
    pub answers_done : length w ≤ taken_before t t.start w → Is (goal_holds t (after t t.start w)) → walked t w ≡ Done (walk_cost t w)
    unfolding walked
    answers_done l g = pick_false _ _ (below_false _ (length w) l) ∙ pick_true _ Short g

    pub answers_short : length w ≤ taken_before t t.start w → goal_holds t (after t t.start w) ≡ false → walked t w ≡ Short
    unfolding walked
    answers_short l g = pick_false _ _ (below_false _ (length w) l) ∙ pick_false _ Short g

    -- one of the three is given
    outcome : Outcome t w
    outcome =
        elim (tell (below (taken_before t t.start w) (length w))) [
          | inl b ↦ let l = below_at _ (length w) b in stuck l (answers_stuck _ l refl)
          | inr b ↦
              let l = below_not _ (length w) b in
              elim (tell (goal_holds t (after t t.start w))) [
                | inl g ↦ done l g (answers_done l g)
                | inr g ↦ short l g (answers_short l g)
              ]
        ]

    -- so each answer says what leads to it
    says_stuck : (i : ℕ) → walked t w ≡ Stuck i → (i < length w) × (taken_before t t.start w ≡ i)
    says_stuck i e =
        elim outcome [
          | stuck l a ↦ let same : taken_before t t.start w ≡ i = cc in (rw same at l, same)
          | done l g a ↦ let z : ◌≡◌ {A = ℕ} 0 1 = cc in absurd (omega arith)
          | short l g a ↦ let z : ◌≡◌ {A = ℕ} 0 1 = cc in absurd (omega arith)
        ]

    says_done : (cost : ℕ) → walked t w ≡ Done cost
        → (length w ≤ taken_before t t.start w) × Is (goal_holds t (after t t.start w)) × (walk_cost t w ≡ cost)
    says_done cost e =
        elim outcome [
          | stuck l a ↦ let z : ◌≡◌ {A = ℕ} 0 1 = cc in absurd (omega arith)
          | done l g a ↦ (l, g, cc)
          | short l g a ↦ let z : ◌≡◌ {A = ℕ} 0 1 = cc in absurd (omega arith)
        ]

    says_short : walked t w ≡ Short → (length w ≤ taken_before t t.start w) × (goal_holds t (after t t.start w) ≡ false)
    says_short e =
        elim outcome [
          | stuck l a ↦ let z : ◌≡◌ {A = ℕ} 0 1 = cc in absurd (omega arith)
          | done l g a ↦ let z : ◌≡◌ {A = ℕ} 0 1 = cc in absurd (omega arith)
          | short l g a ↦ (l, g)
        ]

    -- ---- each answer, exactly

    module _ (numbered : Numbered t w) where
      -- done: the walk is a real walk, of that cost
      pub done_is : (cost : ℕ) → (walked t w ≡ Done cost) ↔ (Is (real_walk t w) × (walk_cost t w ≡ cost))
      unfolding real_walk
      done_is cost = (
        (λ e. let s = says_done cost e in (both_true _ _ (all_taken t.start w numbered s.0) s.1, s.2)),
        (λ h. answers_done (omega (arith, taken_all t.start w (both_l _ _ h.0))) (both_r (can_take t t.start w) _ h.0) ∙ ap Done h.1),
      )

      -- stuck: the entries before that one can be taken in turn, and it cannot be taken then
      pub stuck_is : (i : ℕ) → (walked t w ≡ Stuck i) ↔ ((i < length w) × StuckAt t.start w i)
      stuck_is i = (
        (λ e. let s = says_stuck i e in (s.0, stuck_taken t.start w i numbered s.0 s.1)),
        (λ h. answers_stuck i h.0 (taken_stuck t.start w i h.0 h.1)),
      )

      -- short: all entries can be taken in turn, and the goal does not hold in the end
      pub short_is : (walked t w ≡ Short) ↔ (Is (can_take t t.start w) × (goal_holds t (after t t.start w) ≡ false))
      short_is = (
        (λ e. let s = says_short e in (all_taken t.start w numbered s.0, s.1)),
        (λ h. answers_short (omega (arith, taken_all t.start w h.0)) h.1),
      )

      -- a walk that is done is a way to the goal
      pub done_is_way : (cost : ℕ) → walked t w ≡ Done cost → Is (way_to_goal t w)
      done_is_way cost e = walk_is_way t w ((done_is cost).0 e).0

  -- with the goal within the start the empty walk is done at no cost
  pub empty_done : Is (goal_holds t t.start) → walked t [] ≡ Done 0
  unfolding after walk_cost
  empty_done g = answers_done [] (omega arith) g
