-- What the private workers' contracts speak of: the choices, zone, region and cut of a round of a task, with "begin" apart from the facts.
-- A step is counted if it is in a given set; its chosen need is a number of a list, and n or more stands for "begin".
use Rattle.std.specs.Prelude.{ℕ, ◌-◌, ◌<◌, ◌≤◌, ◌≡◌, Bool, List, length}
use Rattle.sets.specs.Tests.{Is, no, both, either, below, same, pick}
use Rattle.sets.specs.Sets.{Set, none, up_to, joined, met, removed, any, within}
use Rattle.sets.specs.Words.{has, words_of, row}
use Rattle.task.specs.Task.{Task}
use Rattle.reach.specs.Closing.{Facts}
use Rattle.reach.specs.Least.{least}
use Rattle.distance.specs.Distance.{list_of, entry}
use Rattle.cuts.specs.Cut.{lowest_farthest}

-- rows of needs and sets, the steps that are off, what holds at first, and the goal: all that a round looks at beside the costs
abbrev pub round_task : ℕ → ℕ → List ℕ → List ℕ → Set → Set → Set → Task
round_task facts steps needs sets off start goal = record {
  facts = facts;
  steps = steps;
  needs = λ s. has (row 4 s needs);
  sets = λ s. has (row 4 s sets);
  clears = λ s. none;
  cost = λ s. 0;
  start = start;
  goal = goal;
  on = λ s. no (off s);
}

-- the chosen needs of the steps, given a table of distances
unfoldable pub chosen_from : Task → List ℕ → List ℕ
chosen_from t table = list_of t.steps (λ s. lowest_farthest t.facts (t.needs s) (entry table))

-- the steps that are not dropped: each is on and all its needs are reached
unfoldable pub counted_from : Task → Set → Set
counted_from t reached s = both (below s t.steps) (both (t.on s) (within 256 (t.needs s) reached))

-- step s sets a member of X
unfoldable pub sets_into : Task → Set → ℕ → Bool
sets_into t X s = any 256 (λ f. both (t.sets s f) (X f))

-- the chosen need of step s is "begin" or in X
unfoldable pub tail_in : Task → List ℕ → Set → ℕ → Bool
tail_in t chosen X s = either (no (below (entry chosen s) t.facts)) (X (entry chosen s))

-- the facts of the zone: the goal's choice, and the chosen need of every counted step that costs nothing and sets a fact of the zone
unfoldable pub zone_from : Task → List ℕ → Set → List ℕ → ℕ → Set
zone_from t costs counted chosen goal =
    (least t.facts
    (λ X u. any t.steps (λ s. both (counted s) (both (same (entry costs s) 0) (both (same (entry chosen s) u) (sets_into t X s)))))
    (λ u. same u goal)).set

-- the facts of the region: the start, and every fact outside the zone that a counted step sets whose chosen need is "begin" or in the region
unfoldable pub region_from : Task → Set → List ℕ → Set → Set
region_from t counted chosen zone =
    (least t.facts
    (λ X f. both (no (zone f)) (any t.steps (λ s. both (counted s) (both (tail_in t chosen X s) (t.sets s f)))))
    t.start).set

-- the cut: the counted steps that set a fact of the zone and whose chosen need is "begin" or in the region
unfoldable pub cut_from : Task → Set → List ℕ → Set → Set → Set
cut_from t counted chosen zone region s =
    both (both (below s t.steps) (counted s)) (both (sets_into t zone s) (tail_in t chosen region s))

-- the cut, through the words of its zone and its region
unfoldable pub cut_before : Task → List ℕ → Set → List ℕ → ℕ → Set
cut_before t costs counted chosen goal =
    let zone = has (words_of 4 (zone_from t costs counted chosen goal)) in
    cut_from t counted chosen zone (has (words_of 4 (region_from t counted chosen zone)))

-- a cost taken off each step of a cut
unfoldable pub taken_off : Set → ℕ → List ℕ → List ℕ
taken_off cut cost costs = list_of (length costs) (λ s. entry costs s - pick (cut s) cost 0)

-- ---- sets grown step by step, in any order

-- step s is counted, costs nothing and sets a fact of X
unfoldable pub free_into : Task → List ℕ → Set → Set → ℕ → Bool
free_into t costs counted X s = both (counted s) (both (same (entry costs s) 0) (sets_into t X s))

-- step s is counted and its chosen need is "begin" or in X
unfoldable pub leads_from : Task → Set → List ℕ → Set → ℕ → Bool
leads_from t counted chosen X s = both (counted s) (tail_in t chosen X s)

-- what step s adds to the zone X: its chosen need
unfoldable pub zone_by : Task → List ℕ → Set → List ℕ → Set → ℕ → Set
zone_by t costs counted chosen X s u = both (free_into t costs counted X s) (same u (entry chosen s))

-- what step s adds to the region X: what it sets outside the zone
unfoldable pub region_by : Task → Set → List ℕ → Set → Set → ℕ → Set
region_by t counted chosen zone X s f = both (leads_from t counted chosen X s) (removed (t.sets s) zone f)

-- every member of X below n is one of Y
abbrev pub Inside : ℕ → Set → Set → Type 0
Inside n X Y = (f : ℕ) → f < n → Is (X f) → Is (Y f)

-- what a step adds to a set it adds to every larger one
abbrev pub RisingBy : ℕ → (Set → ℕ → Set) → Type 0
RisingBy n by = (X Y : Set) → Inside n X Y → (s f : ℕ) → Is (by X s f) → Is (by Y s f)

-- a step below m adds to a set of facts what the rule says, as far as it lies below n; `makes s X Y` says that Y may be what step s makes of X
pub record RuledBy (n m : ℕ) (by : Set → ℕ → Set) (makes : ℕ → Facts → Facts → Type 0) : Type 0 where
  pub few : n ≤ 256
  pub rising : RisingBy n by
  pub grown : (s : ℕ) (X Y : Facts) → s < m → makes s X Y → Y.words ≡ words_of 4 (joined (has X.words) (met (up_to n) (by (has X.words) s)))

-- no step below m adds to X a number below n
abbrev pub Closed : ℕ → ℕ → (Set → ℕ → Set) → Set → Type 0
Closed n m by X = (s : ℕ) → s < m → Inside n (by X s) X

-- the words are X grown by a pass over the steps below m: they hold X and only numbers below n, and lie inside every closed set that holds X; if the pass
-- added nothing, X is closed
pub record Passed (n m : ℕ) (by : Set → ℕ → Set) (X : Set) (words : List ℕ) : Type 0 where
  pub below_n : (f : ℕ) → Is (has words f) → f < n
  pub holds : Inside n X (has words)
  pub inside : (Z : Set) → Closed n m by Z → Inside n X Z → Inside n (has words) Z
  pub quiet : Inside n (has words) X → Closed n m by X

-- whatever the rule of what a step adds, a pass over the steps below m made `words` of X
pub record PassedOver (m : ℕ) (makes : ℕ → Facts → Facts → Type 0) (X words : List ℕ) : Type 0 where
  pub by_rule : (n : ℕ) (by : Set → ℕ → Set) → RuledBy n m by makes → ((f : ℕ) → Is (has X f) → f < n) → Passed n m by (has X) words

-- where X holds numbers below n only, a pass over the steps below m made Y of it
abbrev pub GrownTo : ℕ → ℕ → (Set → ℕ → Set) → Facts → Facts → Type 0
GrownTo n m by X Y = ((f : ℕ) → Is (has X.words f) → f < n) → Passed n m by (has X.words) Y.words

-- the least set that holds the seeds and all that a step below m adds to it
unfoldable pub grown_by : ℕ → ℕ → (Set → ℕ → Set) → Set → Set
grown_by n m by seeds = (least n (λ X f. any m (λ s. by X s f)) seeds).set
