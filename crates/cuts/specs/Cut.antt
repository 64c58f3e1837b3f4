-- One round's cut, in document 01's words. The vertices are the facts and "begin", which has the number after the last fact. A step's arcs run from its chosen
-- need to every fact that it sets; free arcs run from "begin" to each start fact, and from the goal's choice to "end".
use Rattle.std.specs.Prelude.{ℕ, suc, ◌≤◌, ◌<◌, ◌≡◌, Bool, false, List, ◌⊎◌}
use Rattle.sets.specs.Tests.{Is, no, both, either, same}
use Rattle.sets.specs.Sets.{Set, any, lowest}
use Rattle.task.specs.Task.{Task}
use Rattle.task.specs.Walks.{possible}
use Rattle.reach.specs.Least.{held, least}
use Rattle.reach.specs.Reach.{reach}
use Rattle.distance.specs.Distance.{largest, list_of, entry, distances, least as least_of}

-- ---- the choice among equally far needs

-- a choice names one of the members of X below n, given the distances d, and n where there is none
abbrev pub Choice : Type 0
Choice = ℕ → Set → (ℕ → ℕ) → ℕ

-- q is a member with the largest distance, or n where there is no member
abbrev pub Farthest : ℕ → Set → (ℕ → ℕ) → ℕ → Type 0
Farthest n X d q =
    ((q ≡ n) × ((f : ℕ) → f < n → X f ≡ false)) ⊎ ((q < n) × Is (X q) × ((f : ℕ) → f < n → Is (X f) → d f ≤ d q))

-- what the laws ask of a choice
abbrev pub ChoosesFarthest : Choice → Type 0
ChoosesFarthest choose = (n : ℕ) (X : Set) (d : ℕ → ℕ) → Farthest n X d (choose n X d)

-- document 01's choice: of equals, the lowest number
unfoldable pub lowest_farthest : Choice
lowest_farthest n X d = let most = largest n X d in lowest n (λ f. both (X f) (same (d f) most))

-- ---- arcs, zone and cut

-- the vertex that a step without needs chooses
abbrev pub begin : Task → ℕ
begin t = t.facts

-- the steps that are not dropped: each is on and has no unreachable need
unfoldable pub counted : Task → Set
counted t s = possible t (reach t) s

-- the step has an arc to a member of X
unfoldable pub arc_into : Task → Set → ℕ → Bool
arc_into t X s = both (counted t s) (any t.facts (λ f. both (t.sets s f) (X f)))

-- chosen: the chosen need of each step
module _ (t : Task) (chosen : ℕ → ℕ) where
  -- the tails of arcs into X that cost nothing under the costs c
  unfoldable pub free_tails : (ℕ → ℕ) → Set → Set
  free_tails c X u =
      either (both (same u (begin t)) (any t.facts (λ f. both (t.start f) (X f))))
      (any t.steps (λ s. both (arc_into t X s) (both (same (c s) 0) (same (chosen s) u))))

  -- the zone: all vertices with a path of zero-cost arcs to "end", that is to the goal's choice
  unfoldable pub zone : (ℕ → ℕ) → ℕ → Set
  zone c goal_choice = (least (suc t.facts) (free_tails c) (λ u. same u goal_choice)).set

  -- the heads, outside the zone Z, of arcs from X
  unfoldable pub heads_outside : Set → Set → Set
  heads_outside Z X f = both (no (Z f)) (any t.steps (λ s. both (counted t s) (both (X (chosen s)) (t.sets s f))))

  -- the region: all vertices that can be reached from "begin" without entering the zone
  unfoldable pub region : Set → Set
  region Z = (least (suc t.facts) (heads_outside Z) (λ u. either (same u (begin t)) (both (no (Z u)) (t.start u)))).set

  -- the cut: all steps with an arc from outside the zone into it, whose tail is in the region
  unfoldable pub cut : Set → Set
  cut Z = held t.steps (λ s. both (arc_into t Z s) (both (no (Z (chosen s))) (region Z (chosen s))))

-- ---- all of it under the costs c

module _ (choose : Choice) (mark : ℕ) (t : Task) (c : ℕ → ℕ) where
  -- the chosen need of each step, as a list of m numbers, and the goal's
  unfoldable pub chosen_needs : List ℕ
  chosen_needs = let d = entry (distances t c mark) in list_of t.steps (λ s. choose t.facts (t.needs s) d)

  unfoldable pub goal_choice : ℕ
  goal_choice = choose t.facts t.goal (entry (distances t c mark))

  unfoldable pub cut_of : Set
  cut_of = let chosen = entry chosen_needs in let Z = zone t chosen c goal_choice in cut t chosen Z

-- the cut's cost: the least present cost among its steps
unfoldable pub cut_cost : ℕ → Task → Set → (ℕ → ℕ) → ℕ
cut_cost mark t X c = least_of mark t.steps X c
