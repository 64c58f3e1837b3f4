-- Distance (h-max in 001) in document 01's words, under any costs c. The mark stands for infinity: it is a number where the least begins, and nothing asks for it.
use Rattle.std.specs.Prelude.{ℕ, zero, suc, ◌+◌, max, min, List, [], ◌∷◌, get_or}
use Rattle.sets.specs.Tests.{both, pick}
use Rattle.sets.specs.Sets.{Set}
use Rattle.task.specs.Task.{Task}

-- the largest of d over the members of X below n; 0 where there is none
unfoldable pub largest : ℕ → Set → (ℕ → ℕ) → ℕ
largest zero X d = 0
largest (suc n) X d = max (largest n X d) (pick (X n) (d n) 0)

-- the least of x over the members of X below n; the mark where there is none below it
unfoldable pub least : ℕ → ℕ → Set → (ℕ → ℕ) → ℕ
least mark zero X x = mark
least mark (suc n) X x = min (least mark n X x) (pick (X n) (x n) mark)

-- the first n numbers of d as a list, so that each is computed once; and a list's number at f, 0 past its end
unfoldable pub list_of : ℕ → (ℕ → ℕ) → List ℕ
list_of zero d = []
list_of (suc n) d = d zero ∷ list_of n (λ i. d (suc i))

abbrev pub entry : List ℕ → ℕ → ℕ
entry table f = get_or table f 0

-- a step's cost plus the largest distance among its needs
unfoldable pub through_step : Task → (ℕ → ℕ) → (ℕ → ℕ) → ℕ → ℕ
through_step t c d s = c s + largest t.facts (t.needs s) d

module _ (t : Task) (c : ℕ → ℕ) (mark : ℕ) where
  -- the right side of the equation: 0 for a start fact; otherwise the least, over steps that are on and set the fact
  unfoldable pub right_side : (ℕ → ℕ) → ℕ → ℕ
  right_side d f = pick (t.start f) 0 (least mark t.steps (λ s. both (t.on s) (t.sets s f)) (through_step t c d))

  -- the cheapest by derivations at most so many steps deep: at first 0 for a start fact and the mark for any other
  unfoldable pub rounds : ℕ → List ℕ
  rounds zero = list_of t.facts (λ f. pick (t.start f) 0 mark)
  rounds (suc deep) = let d = rounds deep in list_of t.facts (right_side (entry d))

  -- no derivation needs to be deeper than there are facts
  unfoldable pub distances : List ℕ
  distances = rounds t.facts

  unfoldable pub distance : ℕ → ℕ
  distance f = entry distances f

  -- the distance of a set is the largest among its facts
  unfoldable pub set_distance : Set → ℕ
  set_distance X = largest t.facts X distance

  unfoldable pub goal_distance : ℕ
  goal_distance = set_distance t.goal
