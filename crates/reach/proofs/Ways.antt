-- Reach is what some way leads to: no way leaves it, because it is closed under taking steps, and one way comes to all of it, because the passes can be
-- walked, each as the list of all steps whose needs held when it began.
use Prim.Native.Nat.{ℕ, zero, suc, ◌+◌, ◌≤◌, ◌<◌}
use mathlib.Core.Path.{◌≡◌, refl, sym, ◌∙◌, subst}
use mathlib.Core.Bool.{false}
use mathlib.Core.List.{List, [], ◌∷◌, ◌++◌}
use mathlib.Core.Logic.{◌⊎◌, inl, inr, ◌↔◌}
use native.Mathlib.Nat.{not-suc-le-zero}
use native.Mathlib.Omega.{arith}
use Rattle.sets.specs.Tests.{Is, pick}
use Rattle.sets.specs.Sets.{Set, none, count, members}
use Rattle.sets.proofs.Tests.{tell, not_both_ways, both_l, both_r, both_true, either_not, either_false, pick_true, pick_false}
use Rattle.sets.proofs.Sets.{any_true, any_at, within_at, within_true, last, removed_true, removed_at}
use Rattle.task.specs.Task.{Task, ignoring_clears}
use Rattle.task.specs.Walks.{possible, taking, can_take, after, goal_holds, way, way_end, way_to_goal}
use Rattle.task.proofs.Walks.{Sub, taken_sets, taken_keeps, taken_cases, possible_true, possible_on, possible_needs, possible_more, can_take_none, can_take_cons, can_take_below, can_take_first, can_take_rest, after_append, can_take_append, possible_ignoring, way_to_goal_lem}
use Rattle.reach.specs.Reach.{made, closure, reach, passes, without, takes}
use Rattle.reach.proofs.Least.{Within, Rising, Kept, held_out, pass_within, least_holds, least_closed, least_keeps, least_within, least_kept, least_below, least_made, least_passes}

module _ (t : Task) where
  -- ---- what a pass adds

  -- a step that can be taken in X makes what it sets
  pub made_true : (X : Set) (s f : ℕ) → s < t.steps → Is (possible t X s) → Is (t.sets s f) → Is (made t X f)
  unfolding made
  made_true X s f l p h = any_true t.steps _ s l (both_true (possible t X s) (t.sets s f) p h)

  -- and nothing else is made
  pub made_at : (X : Set) (f : ℕ) → Is (made t X f) → (s : ℕ) × (s < t.steps) × Is (possible t X s) × Is (t.sets s f)
  unfolding made
  made_at X f h =
      let r = any_at t.steps _ h in
      (r.0, r.1, both_l (possible t X r.0) _ r.2, both_r (possible t X r.0) _ r.2)

  -- more is made where more holds
  pub made_rising : Rising t.facts (made t)
  made_rising X Y sub f l h =
      let r = made_at X f h in made_true Y r.0 f r.1 (possible_more t X Y r.0 sub r.2) r.3

  -- ---- reach is the least set that holds the start and is closed under taking steps

  -- what holds at the start is within reach
  pub reach_holds : Sub t.facts t.start (reach t)
  unfolding reach closure
  reach_holds = least_holds t.facts (made t) t.start

  -- what a step sets is within reach where all its needs are
  pub reach_closed : Sub t.facts (made t (reach t)) (reach t)
  unfolding reach closure
  reach_closed = least_closed t.facts (made t) t.start

  -- a property of the start that taking steps keeps is one of all that is within reach
  pub reach_within : (P : ℕ → Type 0) → Kept t.facts (made t) P → Within t.facts t.start P → Within t.facts (reach t) P
  unfolding reach closure
  reach_within = least_within t.facts (made t) t.start

  -- reach lies within every set that holds the start and is closed
  pub reach_least : (Z : Set) → Sub t.facts (made t Z) Z → Sub t.facts t.start Z → Sub t.facts (reach t) Z
  unfolding reach closure
  reach_least = least_below t.facts (made t) t.start made_rising

  -- all that is within reach holds at the start, or a step with all its needs within reach sets it
  pub reach_made : Within t.facts (reach t) (λ f. Is (t.start f) ⊎ Is (made t (reach t) f))
  unfolding reach closure
  reach_made = least_made t.facts (made t) t.start made_rising

  -- each pass but the last adds a fact to those of the start, so there are at most n + 1 less the number of these
  pub passes_most : passes t + count t.facts t.start ≤ suc t.facts
  unfolding passes closure
  passes_most = least_passes t.facts (made t) t.start

  -- ---- whatever holds at the end of a way is within reach

  -- what holds after a step held before it, or the step makes it
  step_within : (P : ℕ → Type 0) (X : Set) (s : ℕ) → Within t.facts X P → Within t.facts (t.sets s) P
      → Within t.facts (taking (ignoring_clears t) X s) P
  unfolding taking
  step_within P X s old new f l h = elim (taken_cases X none (t.sets s) f h) [ inl a ↦ old f l a | inr b ↦ new f l b ]

  -- steps taken in turn keep a property that taking steps keeps
  steps_within : (P : ℕ → Type 0) → Kept t.facts (made t) P → (w : List ℕ) (X : Set) → Within t.facts X P → Is (can_take (ignoring_clears t) X w)
      → Within t.facts (after (ignoring_clears t) X w) P
  unfolding after
  steps_within P keeps [] X inside h = inside
  steps_within P keeps (s ∷ w) X inside h =
      let l = can_take_below (ignoring_clears t) X s w h in
      let p = sym (possible_ignoring t X s) ∙ can_take_first (ignoring_clears t) X s w h in
      steps_within P keeps w (taking (ignoring_clears t) X s)
      (step_within P X s inside (λ f k x. keeps X inside f k (made_true X s f l p x))) (can_take_rest (ignoring_clears t) X s w h)

  -- no way leaves reach
  pub way_reach : (w : List ℕ) → Is (way t w) → Sub t.facts (way_end t w) (reach t)
  unfolding way way_end reach closure
  way_reach w h =
      steps_within (λ f. Is (reach t f)) (least_kept t.facts (made t) t.start made_rising) w t.start reach_holds h

  -- ---- one way comes to all that is within reach

  -- with clears ignored, what holds stays
  step_keeps : (X : Set) (s : ℕ) → Sub t.facts X (taking (ignoring_clears t) X s)
  unfolding taking
  step_keeps X s f l h = taken_keeps X (t.sets s) f h

  -- after a step, what it sets holds
  step_sets : (X : Set) (s : ℕ) → Sub t.facts (t.sets s) (after (ignoring_clears t) X (s ∷ []))
  unfolding taking after
  step_sets X s f l h = taken_sets X none (t.sets s) f h

  -- and at the end of a list of steps too
  pub steps_keep : (w : List ℕ) (X : Set) → Sub t.facts X (after (ignoring_clears t) X w)
  unfolding after
  steps_keep [] X f l h = h
  steps_keep (s ∷ w) X f l h = steps_keep w (taking (ignoring_clears t) X s) f l (step_keeps X s f l h)

  -- the steps below k that can be taken in X, lowest first: they can be taken in turn wherever X holds
  pass_walks : (X Y : Set) (k : ℕ) → k ≤ t.steps → Sub t.facts X Y → Is (can_take (ignoring_clears t) Y (members k (possible t X)))
  unfolding members
  pass_walks X Y zero l sub = can_take_none (ignoring_clears t) Y
  pass_walks X Y (suc k) l sub =
      can_take_append (ignoring_clears t) (members k (possible t X)) (pick (possible t X k) (k ∷ []) []) Y (pass_walks X Y k (omega arith) sub)
      (elim (tell (possible t X k)) [
        | inl p ↦ rw (pick_true (k ∷ []) [] p) (can_take_cons (ignoring_clears t) so_far k [] l (still p) (can_take_none (ignoring_clears t) _))
        | inr p ↦ rw (pick_false (k ∷ []) [] p) (can_take_none (ignoring_clears t) so_far)
      ])
    where
      so_far : Set
      so_far = after (ignoring_clears t) Y (members k (possible t X))

      still : Is (possible t X k) → Is (possible (ignoring_clears t) so_far k)
      still p =
          possible_ignoring t so_far k
          ∙ possible_more t X so_far k (λ f i h. steps_keep (members k (possible t X)) Y f i (sub f i h)) p

  -- and then all that they set holds
  pass_sets : (X Y : Set) (k s f : ℕ) → s < k → Is (possible t X s) → f < t.facts → Is (t.sets s f)
      → Is (after (ignoring_clears t) Y (members k (possible t X)) f)
  unfolding members
  pass_sets X Y zero s f l p i h = absurd (not-suc-le-zero l)
  pass_sets X Y (suc k) s f l p i h =
      let before = after (ignoring_clears t) Y (members k (possible t X)) in
      rw (after_append (ignoring_clears t) (members k (possible t X)) (pick (possible t X k) (k ∷ []) []) Y)
      (elim (last k s l) [
        | inl e ↦ rw (pick_true (k ∷ []) [] (rw e at p)) (step_sets before k f i (rw e at h))
        | inr b ↦ steps_keep (pick (possible t X k) (k ∷ []) []) before f i (pass_sets X Y k s f b p i h)
      ])

  -- the passes walked one after the other
  pub reach_way : (w : List ℕ) × Is (way t w) × Sub t.facts (reach t) (way_end t w)
  unfolding reach closure way way_end after
  reach_way =
      least_keeps t.facts (made t) t.start
      (λ X. (w : List ℕ) × Is (can_take (ignoring_clears t) t.start w) × Sub t.facts X (after (ignoring_clears t) t.start w))
      (λ X walked.
      let w = walked.0 in
      let end = after (ignoring_clears t) t.start w in
      let next = members t.steps (possible t X) in (
        w ++ next,
        can_take_append (ignoring_clears t) w next t.start walked.1 (pass_walks X end t.steps (omega arith) walked.2),
        rw (after_append (ignoring_clears t) w next t.start)
            (pass_within t.facts (made t) X (λ f. Is (after (ignoring_clears t) end next f))
            (λ f l h. steps_keep next end f l (walked.2 f l h))
            (λ f l h. let r = made_at X f h in pass_sets X end t.steps r.0 f r.1 r.2 l r.3)),
      ))
      ([], can_take_none (ignoring_clears t) t.start, λ f l h. held_out t.facts t.start f h)

  -- ---- so reach is what some way leads to

  -- a fact is within reach exactly if it holds at the end of some way
  pub reach_is : (f : ℕ) → f < t.facts → Is (reach t f) ↔ ((w : List ℕ) × Is (way t w) × Is (way_end t w f))
  reach_is f l = (λ h. (reach_way.0, reach_way.1, reach_way.2 f l h), λ w. way_reach w.0 w.1 f l w.2)

  -- where more holds, the goal holds still
  goal_more : (X Y : Set) → Sub t.facts X Y → Is (goal_holds t X) → Is (goal_holds t Y)
  unfolding goal_holds
  goal_more X Y sub h = within_true t.facts t.goal Y (λ f l g. sub f l (within_at t.facts t.goal X h f l g))

  -- the goal is within reach exactly if some way leads to it
  pub goal_is : Is (goal_holds t (reach t)) ↔ ((w : List ℕ) × Is (way_to_goal t w))
  goal_is = (
    λ h.
        let w = reach_way.0 in
        (w, way_to_goal_lem t w ∙ both_true (way t w) _ reach_way.1 (goal_more (reach t) (way_end t w) reach_way.2 h)),
    λ w.
        let h = sym (way_to_goal_lem t w.0) ∙ w.1 in
        goal_more (way_end t w.0) (reach t) (way_reach w.0 (both_l (way t w.0) _ h)) (both_r (way t w.0) _ h),
  )

-- ---- without the steps of P

module _ (t : Task) (P : Set) where
  -- such a step can be taken exactly if it can be and is none of P
  possible_without : (X : Set) (s : ℕ) → Is (possible t X s) → P s ≡ false → Is (possible (ignoring_clears (without t P)) X s)
  possible_without X s p h =
      possible_true (ignoring_clears (without t P)) X s (removed_true t.on P s (possible_on t X s p) h) (possible_needs t X s p)

  possible_with : (X : Set) (s : ℕ) → Is (possible (ignoring_clears (without t P)) X s) → Is (possible t X s) × (P s ≡ false)
  possible_with X s p =
      let on = removed_at t.on P s (possible_on (ignoring_clears (without t P)) X s p) in
      (possible_true t X s on.0 (possible_needs (ignoring_clears (without t P)) X s p), on.1)

  after_without : (w : List ℕ) (X : Set) → after (ignoring_clears (without t P)) X w ≡ after (ignoring_clears t) X w
  unfolding after taking
  after_without [] X = refl
  after_without (s ∷ w) X = after_without w (taking (ignoring_clears t) X s)

  steps_without : (w : List ℕ) (X : Set) → Is (can_take (ignoring_clears t) X w) → takes P w ≡ false → Is (can_take (ignoring_clears (without t P)) X w)
  unfolding takes taking
  steps_without [] X h no_p = can_take_none (ignoring_clears (without t P)) X
  steps_without (s ∷ w) X h no_p =
      let apart = either_not (P s) (takes P w) no_p in
      can_take_cons (ignoring_clears (without t P)) X s w (can_take_below (ignoring_clears t) X s w h)
      (possible_without X s (sym (possible_ignoring t X s) ∙ can_take_first (ignoring_clears t) X s w h) apart.0)
      (steps_without w (taking (ignoring_clears t) X s) (can_take_rest (ignoring_clears t) X s w h) apart.1)

  steps_with : (w : List ℕ) (X : Set) → Is (can_take (ignoring_clears (without t P)) X w) → Is (can_take (ignoring_clears t) X w) × (takes P w ≡ false)
  unfolding takes taking
  steps_with [] X h = (can_take_none (ignoring_clears t) X, refl)
  steps_with (s ∷ w) X h =
      let first = possible_with X s (can_take_first (ignoring_clears (without t P)) X s w h) in
      let rest = steps_with w (taking (ignoring_clears t) X s) (can_take_rest (ignoring_clears (without t P)) X s w h) in (
        can_take_cons (ignoring_clears t) X s w (can_take_below (ignoring_clears (without t P)) X s w h) (possible_ignoring t X s ∙ first.0) rest.0,
        either_false (P s) (takes P w) first.1 rest.1,
      )

  -- a way without the steps of P is a way that takes none of them
  pub without_way : (w : List ℕ) → Is (way (without t P) w) ↔ (Is (way t w) × (takes P w ≡ false))
  unfolding way
  without_way w = (steps_with w t.start, λ h. steps_without w t.start h.0 h.1)

  -- and it leads to the same
  pub without_end : (w : List ℕ) → way_end (without t P) w ≡ way_end t w
  unfolding way_end
  without_end w = after_without w t.start

  -- every way to Q takes a step of P exactly if Q does not hold of what is within reach without P; Q is such that it holds where more does
  pub every : (Q : Set → Type 0) → ((X Y : Set) → Sub t.facts X Y → Q X → Q Y)
      → ((w : List ℕ) → Is (way t w) → Q (way_end t w) → Is (takes P w)) ↔ (¬ Q (reach (without t P)))
  every Q more = (
    λ all_take q.
        let r = reach_way (without t P) in
        let w = (without_way r.0).0 r.1 in
        not_both_ways (all_take r.0 w.0 (subst Q (without_end r.0) (more _ _ r.2 q))) w.1,
    λ out w h q.
        elim (tell (takes P w)) [
          | inl one ↦ one
          | inr none_of ↦
              absurd (out (more _ _ (way_reach (without t P) w ((without_way w).1 (h, none_of))) (subst Q (sym (without_end w)) q)))
        ],
  )

  -- so of a fact, and of the goal
  pub every_fact : (f : ℕ) → f < t.facts
      → ((w : List ℕ) → Is (way t w) → Is (way_end t w f) → Is (takes P w)) ↔ (¬ Is (reach (without t P) f))
  every_fact f l = every (λ X. Is (X f)) (λ X Y sub. sub f l)

  pub every_goal : ((w : List ℕ) → Is (way_to_goal t w) → Is (takes P w)) ↔ (¬ Is (goal_holds t (reach (without t P))))
  every_goal =
      let both_ways = every (λ X. Is (goal_holds t X)) (goal_more t) in (
        λ all_take. both_ways.0 (λ w h g. all_take w (way_to_goal_lem t w ∙ both_true (way t w) (goal_holds t (way_end t w)) h g)),
        λ out w h.
            let r = sym (way_to_goal_lem t w) ∙ h in
            both_ways.1 out w (both_l (way t w) (goal_holds t (way_end t w)) r) (both_r (way t w) (goal_holds t (way_end t w)) r),
      )
