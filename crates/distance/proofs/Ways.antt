-- Distances and ways: along a way every fact that holds is at most what was paid so far away, and at most the largest cost for each fact that holds; and a
-- derivation, taken from its leaves on, is a way.
use Prim.Native.Nat.{ℕ, zero, suc, ◌+◌, ◌*◌, ◌≤◌, ◌<◌}
use mathlib.Core.Path.{◌≡◌, sym, ap, ◌∙◌, subst}
use mathlib.Core.Bool.{false}
use mathlib.Core.List.{List, [], ◌∷◌, ◌++◌}
use mathlib.Core.Logic.{◌⊎◌, inl, inr, ◌↔◌}
use native.Mathlib.Nat.{not-suc-le-zero, mul-le-mul_right}
use native.Mathlib.Omega.{arith}
use Rattle.sets.specs.Tests.{Is}
use Rattle.sets.specs.Sets.{Set, none, count}
use Rattle.sets.proofs.Tests.{tell, not_both_ways, both_l, both_r, compare}
use Rattle.sets.proofs.Sets.{last, count_most, count_le, count_lt, within_at}
use Rattle.task.specs.Limits.{limits}
use Rattle.task.specs.Task.{Task, ignoring_clears}
use Rattle.task.specs.Tables.{Tables, view}
use Rattle.task.specs.Walks.{possible, taking, can_take, after, goal_holds, walk_cost, way, way_end, real_walk, way_to_goal}
use Rattle.task.proofs.Walks.{Sub, taken_sets, taken_keeps, taken_cases, possible_true, possible_on, possible_needs, can_take_none, can_take_cons, can_take_below, can_take_first, can_take_rest, after_append, can_take_append, ignoring, walk_is_way, way_to_goal_lem}
use Rattle.task.specs.Checked.{Checked}
use Rattle.distance.specs.Distance.{distance, goal_distance}
use Rattle.distance.specs.Derivations.{Derived, at_first, by_step}
use Rattle.distance.proofs.Equation.{through_le, distance_start, distance_mark, distance_step}
use Rattle.distance.proofs.Derivations.{distance_derived, set_distance_most}

-- the same task under other costs
abbrev pub under_costs : Task → (ℕ → ℕ) → Task
under_costs t c = record {
  facts = t.facts;
  steps = t.steps;
  needs = t.needs;
  sets = t.sets;
  clears = t.clears;
  cost = c;
  start = t.start;
  goal = t.goal;
  on = t.on;
}

-- ---- from a way to the distance

module _ (t : Task) (c : ℕ → ℕ) (mark : ℕ) where
  abbrev u : Task
  u = ignoring_clears t

  -- what a step sets is at most its cost further away than what holds
  one_step : (X : Set) (y s f : ℕ) → ((g : ℕ) → g < t.facts → Is (X g) → distance t c mark g ≤ y) → s < t.steps → Is (possible u X s) → f < t.facts
      → Is (t.sets s f) → distance t c mark f ≤ c s + y
  one_step X y s f near l can b set =
      omega (
        arith,
        distance_step t c mark s f (omega arith) l b (possible_on u X s can) set,
        through_le t c (distance t c mark) s y (λ g k h. near g k (possible_needs u X s can g k h)),
      )

  along : (w : List ℕ) (X : Set) (y : ℕ) → ((f : ℕ) → f < t.facts → Is (X f) → distance t c mark f ≤ y) → Is (can_take u X w)
      → (f : ℕ) → f < t.facts → Is (after u X w f) → distance t c mark f ≤ y + walk_cost (under_costs t c) w
  unfolding after walk_cost taking
  along [] X y near can f l h = omega (arith, near f l h)
  along (s ∷ w) X y near can f l h =
      let rest = along w (taking u X s) (y + c s)
      (λ g b k. elim (taken_cases X none (t.sets s) g k) [
        | inl x ↦ omega (arith, near g b x)
        | inr x ↦ omega (arith, one_step X y s g near (can_take_below u X s w can) (can_take_first u X s w can) b x)
      ]) (can_take_rest u X s w can) f l h in
      omega (arith, rest)

  -- no way to a fact costs less than its distance
  pub distance_way : (w : List ℕ) → Is (way t w) → (f : ℕ) → f < t.facts → Is (way_end t w f) → distance t c mark f ≤ walk_cost (under_costs t c) w
  unfolding way way_end
  distance_way w can f l h = omega (arith, along w t.start 0 (λ g b x. omega (arith, distance_start t c mark g b x)) can f l h)

  module _ (b : ℕ) (dear : (s : ℕ) → s < t.steps → c s ≤ b) where
    growing : (w : List ℕ) (X : Set) → ((f : ℕ) → f < t.facts → Is (X f) → distance t c mark f ≤ count t.facts X * b) → Is (can_take u X w)
        → (f : ℕ) → f < t.facts → Is (after u X w f) → distance t c mark f ≤ t.facts * b
    unfolding after taking
    growing [] X near can f l h = omega (arith, near f l h, mul-le-mul_right b (count_most t.facts X))
    growing (s ∷ w) X near can f l h = growing w (taking u X s) next (can_take_rest u X s w can) f l h
      where
        next : (g : ℕ) → g < t.facts → Is (taking u X s g) → distance t c mark g ≤ count t.facts (taking u X s) * b
        next g k x =
            elim (tell (X g)) [
              | inl y ↦ omega (arith, near g k y, mul-le-mul_right b (count_le t.facts X (taking u X s) (λ i j. taken_keeps X (t.sets s) i)))
              | inr y ↦ elim (taken_cases X none (t.sets s) g x) [
                | inl z ↦ not_both_ways z y
                | inr z ↦
                    omega (
                      arith,
                      dear s (can_take_below u X s w can),
                      one_step X (count t.facts X * b) s g near (can_take_below u X s w can) (can_take_first u X s w can) k z,
                      mul-le-mul_right b (count_lt t.facts X (taking u X s) (λ i j. taken_keeps X (t.sets s) i) g k y x),
                    )
              ]
            ]

    -- a fact that some way leads to is at most n times the largest cost away, so that no sum of a cost and such a distance is large
    pub distance_most : (w : List ℕ) → Is (way t w) → (f : ℕ) → f < t.facts → Is (way_end t w f) → distance t c mark f ≤ t.facts * b
    unfolding way way_end
    distance_most w can f l h = growing w t.start (λ g k x. omega (arith, distance_start t c mark g k x)) can f l h

-- ---- from a derivation to a way

module _ (t : Task) where
  abbrev v : Task
  v = ignoring_clears t

  -- clears ignored, what held still holds
  after_keeps : (w : List ℕ) (X : Set) (f : ℕ) → Is (X f) → Is (after v X w f)
  unfolding after taking
  after_keeps [] X f h = h
  after_keeps (s ∷ w) X f h = after_keeps w (taking v X s) f (taken_keeps X (t.sets s) f h)

  -- a way after a way is a way, at whose end all holds that held at the end of either
  way_then : (w u : List ℕ) → Is (way t w) → Is (way t u)
      → Is (way t (w ++ u)) × Sub t.facts (way_end t w) (way_end t (w ++ u)) × Sub t.facts (way_end t u) (way_end t (w ++ u))
  unfolding way way_end
  way_then w u p q =
      let r = ignoring v u t.start (after v t.start w) (λ f l h. after_keeps w t.start f h) q in
      let e = after_append v w u t.start in (
        can_take_append v w u t.start p r.0,
        λ f l h. ap (λ (X : Set). X f) e ∙ after_keeps u (after v t.start w) f h,
        λ f l h. ap (λ (X : Set). X f) e ∙ r.1 f l h,
      )

  -- to one fact, and to all facts of a set
  abbrev pub WayTo : ℕ → Type 0
  WayTo f = (w : List ℕ) × Is (way t w) × Is (way_end t w f)

  way_to_all : (X : Set) → ((f : ℕ) → f < t.facts → Is (X f) → WayTo f) → (n : ℕ) → n ≤ t.facts
      → (w : List ℕ) × Is (way t w) × ((f : ℕ) → f < n → Is (X f) → Is (way_end t w f))
  unfolding way
  way_to_all X each zero l = ([], can_take_none v t.start, λ f b. absurd (not-suc-le-zero b))
  way_to_all X each (suc n) l = go (way_to_all X each n (omega arith)) (tell (X n))
    where
      go : (w : List ℕ) × Is (way t w) × ((f : ℕ) → f < n → Is (X f) → Is (way_end t w f)) → Is (X n) ⊎ (X n ≡ false)
          → (w : List ℕ) × Is (way t w) × ((f : ℕ) → f < suc n → Is (X f) → Is (way_end t w f))
      go (w, p, h) (inl x) =
          let r = each n l x in
          let k = way_then w r.0 p r.1 in (
            w ++ r.0,
            k.0,
            λ f b y. elim (last n f b) [
              | inl e ↦ subst (λ (f : ℕ). Is (way_end t (w ++ r.0) f)) (sym e) (k.2 n l r.2)
              | inr j ↦ k.1 f (omega arith) (h f j y)
            ],
          )
      go (w, p, h) (inr x) = (w, p, λ f b y. elim (last n f b) [ inl e ↦ not_both_ways y (ap X e ∙ x) | inr j ↦ h f j y ])

  pub derived_way : {c : ℕ → ℕ} {f x : ℕ} → Derived t c f x → WayTo f
  unfolding way way_end after taking
  derived_way (at_first h) = ([], can_take_none v t.start, h)
  derived_way {f = f} (by_step s y l on set needs e) =
      let r = way_to_all (t.needs s) (λ g b h. derived_way (needs g b h)) t.facts (omega arith) in
      let X = after v t.start r.0 in
      let can = can_take_cons v X s [] l (possible_true v X s on r.2) (can_take_none v (taking v X s)) in (
        r.0 ++ (s ∷ []),
        can_take_append v r.0 (s ∷ []) t.start r.1 can,
        ap (λ (Y : Set). Y f) (after_append v r.0 (s ∷ []) t.start) ∙ taken_sets X none (t.sets s) f set,
      )

-- ---- finite distances

-- where the mark is above all sums, a distance is below it exactly for the facts that some way leads to
pub distance_finite : (t : Task) (c : ℕ → ℕ) (mark b : ℕ) → ((s : ℕ) → s < t.steps → c s ≤ b) → t.facts * b < mark
    → (f : ℕ) → f < t.facts → (distance t c mark f < mark) ↔ WayTo t f
distance_finite t c mark b dear fits f l = (
  λ h. derived_way t ((distance_derived t c mark f (distance t c mark f) l h).0 (omega arith)),
  λ r. omega (arith, distance_most t c mark b dear r.0 r.1 f l r.2),
)

-- a fact that no way leads to has the mark
pub distance_unreachable : (t : Task) (c : ℕ → ℕ) (mark : ℕ) (f : ℕ) → f < t.facts → ¬ WayTo t f → distance t c mark f ≡ mark
distance_unreachable t c mark f l out =
    elim (compare (distance t c mark f) mark) [
      | inl h ↦ absurd (out (derived_way t ((distance_derived t c mark f (distance t c mark f) l h).0 (omega arith))))
      | inr h ↦ omega (arith, distance_mark t c mark f l)
    ]

-- of tables that pass checking: 256 facts at 65,535 each are below the mark
pub table_finite : (t : Tables) → Checked t → (f : ℕ) → f < t.facts → (distance (view t) (view t).cost limits.mark f < limits.mark) ↔ WayTo (view t) f
table_finite t c f l =
    distance_finite (view t) (view t).cost limits.mark limits.cost (λ s k. c.costs_most s) (omega (arith, c.few_facts)) f l

-- no way to the goal, and so no real walk, costs less than the goal's distance
pub goal_distance_way : (t : Task) (mark : ℕ) (w : List ℕ) → Is (way_to_goal t w) → goal_distance t t.cost mark ≤ walk_cost t w
unfolding goal_distance goal_holds
goal_distance_way t mark w h =
    let k = sym (way_to_goal_lem t w) ∙ h in
    (set_distance_most t t.cost mark t.goal (walk_cost t w)).1
    (λ f l g. distance_way t t.cost mark w (both_l (way t w) _ k) f l (within_at t.facts t.goal (way_end t w) (both_r (way t w) _ k) f l g))

pub goal_distance_walk : (t : Task) (mark : ℕ) (w : List ℕ) → Is (real_walk t w) → goal_distance t t.cost mark ≤ walk_cost t w
goal_distance_walk t mark w h = goal_distance_way t mark w (walk_is_way t w h)
