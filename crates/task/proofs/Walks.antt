-- Laws of steps, walks and ways. Every real walk is a way, because with clears ignored at least as much holds at each of its steps.
use Prim.Native.Nat.{ℕ, ◌+◌, ◌*◌, ◌≤◌, ◌<◌}
use mathlib.Core.Path.{◌≡◌, refl, ◌∙◌}
use mathlib.Core.Bool.{Bool, true, false}
use mathlib.Core.List.{List, [], ◌∷◌, ◌++◌}
use mathlib.Core.Logic.{◌⊎◌, inl, inr}
use native.Mathlib.Omega.{arith}
use lib.ListN.{length}
use Rattle.sets.specs.Tests.{Is, no, both, either, below}
use Rattle.sets.specs.Sets.{Set, none, joined, removed}
use Rattle.sets.proofs.Tests.{both_l, both_r, both_true, both_false_l, either_l, either_r, either_cases, either_false, no_true, no_of, below_true, below_at}
use Rattle.sets.proofs.Sets.{within_at, within_true}
use Rattle.task.specs.Task.{Task, ignoring_clears}
use Rattle.task.specs.Walks.{taken, possible, taking, can_take, after, goal_holds, real_walk, walk_cost, way, way_end, way_to_goal}

-- every member of X below n is one of Y
abbrev pub Sub : ℕ → Set → Set → Type 0
Sub n X Y = (f : ℕ) → f < n → Is (X f) → Is (Y f)

-- ---- what holds after a step

-- a fact that it sets holds, also where it clears it
pub taken_sets : (X clears sets : Set) (f : ℕ) → Is (sets f) → Is (taken X clears sets f)
unfolding taken joined
taken_sets X clears sets f h = either_r (removed X clears f) (sets f) h

-- a fact that it clears and does not set fails
pub taken_clears : (X clears sets : Set) (f : ℕ) → Is (clears f) → sets f ≡ false → taken X clears sets f ≡ false
unfolding taken joined removed
taken_clears X clears sets f h e = either_false _ (sets f) (both_false_l (no (clears f)) (X f) (no_of (clears f) h)) e

-- any other stays as it was
pub taken_other : (X clears sets : Set) (f : ℕ) → clears f ≡ false → sets f ≡ false → taken X clears sets f ≡ X f
unfolding taken joined removed either both no
taken_other X clears sets f c s = rw (c, s) (go (X f))
  where
    go : (p : Bool) → either p false ≡ p
    go true = refl
    go false = refl

-- with clears ignored, all that held before holds still
pub taken_keeps : (X sets : Set) (f : ℕ) → Is (X f) → Is (taken X none sets f)
unfolding taken joined removed none
taken_keeps X sets f h = either_l _ (sets f) (both_true (no false) (X f) (no_true false refl) h)

-- what holds after a step held before it or is set by it
pub taken_cases : (X clears sets : Set) (f : ℕ) → Is (taken X clears sets f) → Is (X f) ⊎ Is (sets f)
unfolding taken joined removed
taken_cases X clears sets f h =
    elim (either_cases (removed X clears f) (sets f) h) [ inl a ↦ inl (both_r (no (clears f)) (X f) a) | inr b ↦ inr b ]

module _ (t : Task) where
  -- ---- when a step can be taken

  pub possible_true : (X : Set) (s : ℕ) → Is (t.on s) → Sub t.facts (t.needs s) X → Is (possible t X s)
  unfolding possible
  possible_true X s on h = both_true (t.on s) _ on (within_true t.facts (t.needs s) X h)

  pub possible_on : (X : Set) (s : ℕ) → Is (possible t X s) → Is (t.on s)
  unfolding possible
  possible_on X s h = both_l (t.on s) _ h

  pub possible_needs : (X : Set) (s : ℕ) → Is (possible t X s) → Sub t.facts (t.needs s) X
  unfolding possible
  possible_needs X s h = within_at t.facts (t.needs s) X (both_r (t.on s) _ h)

  -- where more holds, no step that could be taken cannot
  pub possible_more : (X Y : Set) (s : ℕ) → Sub t.facts X Y → Is (possible t X s) → Is (possible t Y s)
  possible_more X Y s sub h =
      possible_true Y s (possible_on X s h) (λ f l k. sub f l (possible_needs X s h f l k))

  -- ---- a list of steps, by its first

  pub can_take_none : (X : Set) → Is (can_take t X [])
  unfolding can_take
  can_take_none X = refl

  pub can_take_cons : (X : Set) (s : ℕ) (w : List ℕ) → s < t.steps → Is (possible t X s) → Is (can_take t (taking t X s) w)
      → Is (can_take t X (s ∷ w))
  unfolding can_take
  can_take_cons X s w l p h = both_true (below s t.steps) _ (below_true s t.steps l) (both_true (possible t X s) _ p h)

  pub can_take_below : (X : Set) (s : ℕ) (w : List ℕ) → Is (can_take t X (s ∷ w)) → s < t.steps
  unfolding can_take
  can_take_below X s w h = below_at s t.steps (both_l _ _ h)

  pub can_take_first : (X : Set) (s : ℕ) (w : List ℕ) → Is (can_take t X (s ∷ w)) → Is (possible t X s)
  unfolding can_take
  can_take_first X s w h = both_l (possible t X s) _ (both_r (below s t.steps) _ h)

  pub can_take_rest : (X : Set) (s : ℕ) (w : List ℕ) → Is (can_take t X (s ∷ w)) → Is (can_take t (taking t X s) w)
  unfolding can_take
  can_take_rest X s w h = both_r (possible t X s) _ (both_r (below s t.steps) _ h)

  -- one list after the other
  pub after_append : (w u : List ℕ) (X : Set) → after t X (w ++ u) ≡ after t (after t X w) u
  unfolding after
  after_append [] u X = refl
  after_append (s ∷ w) u X = after_append w u (taking t X s)

  pub can_take_append : (w u : List ℕ) (X : Set) → Is (can_take t X w) → Is (can_take t (after t X w) u) → Is (can_take t X (w ++ u))
  unfolding after
  can_take_append [] u X g h = h
  can_take_append (s ∷ w) u X g h =
      can_take_cons X s (w ++ u) (can_take_below X s w g) (can_take_first X s w g)
      (can_take_append w u (taking t X s) (can_take_rest X s w g) h)

  pub walk_cost_append : (w u : List ℕ) → walk_cost t (w ++ u) ≡ walk_cost t w + walk_cost t u
  unfolding walk_cost
  walk_cost_append [] u = omega arith
  walk_cost_append (s ∷ w) u = omega (arith, walk_cost_append w u)

  -- a walk costs at most the largest cost for each entry
  pub walk_cost_most : (c : ℕ) → ((s : ℕ) → t.cost s ≤ c) → (w : List ℕ) → walk_cost t w ≤ length w * c
  unfolding walk_cost
  walk_cost_most c h [] = omega arith
  walk_cost_most c h (s ∷ w) = omega (arith, h s, walk_cost_most c h w)

-- ---- every real walk is a way

module _ (t : Task) where
  -- whether a step can be taken does not look at its clears
  pub possible_ignoring : (X : Set) (s : ℕ) → possible (ignoring_clears t) X s ≡ possible t X s
  unfolding possible
  possible_ignoring X s = refl

  taking_less : (X Y : Set) (s : ℕ) → Sub t.facts X Y → Sub t.facts (taking t X s) (taking (ignoring_clears t) Y s)
  unfolding taking
  taking_less X Y s sub f l h =
      elim (taken_cases X (t.clears s) (t.sets s) f h) [
        | inl x ↦ taken_keeps Y (t.sets s) f (sub f l x)
        | inr x ↦ taken_sets Y none (t.sets s) f x
      ]

  -- what can be taken can be taken with clears ignored, and at least as much holds in the end
  pub ignoring : (w : List ℕ) (X Y : Set) → Sub t.facts X Y → Is (can_take t X w)
      → Is (can_take (ignoring_clears t) Y w) × Sub t.facts (after t X w) (after (ignoring_clears t) Y w)
  unfolding after
  ignoring [] X Y sub g = (can_take_none (ignoring_clears t) Y, sub)
  ignoring (s ∷ w) X Y sub g =
      let rest = ignoring w (taking t X s) (taking (ignoring_clears t) Y s) (taking_less X Y s sub) (can_take_rest t X s w g) in
      let first = possible_ignoring Y s ∙ possible_more t X Y s sub (can_take_first t X s w g) in
      (can_take_cons (ignoring_clears t) Y s w (can_take_below t X s w g) first rest.0, rest.1)

  pub walk_is_way : (w : List ℕ) → Is (real_walk t w) → Is (way_to_goal t w)
  unfolding real_walk way_to_goal goal_holds
  walk_is_way w h =
      let walked = ignoring w t.start t.start (λ f l x. x) (both_l _ _ h) in
      let goal = within_at t.facts t.goal (after t t.start w) (both_r (can_take t t.start w) _ h) in
      both_true _ _ walked.0 (within_true t.facts t.goal _ (λ f l g. walked.1 f l (goal f l g)))

  -- a way to the goal is a way at whose end the goal holds
  pub way_to_goal_lem : (w : List ℕ) → way_to_goal t w ≡ both (way t w) (goal_holds t (way_end t w))
  unfolding way_to_goal way way_end real_walk goal_holds
  way_to_goal_lem w = refl
