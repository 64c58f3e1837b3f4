-- Sets of numbers as document 01 speaks of them: what is a member, which set an operation makes, and the questions asked of a set.
-- Each question looks at the numbers below a bound, and by recursion on it, so that a loop's invariant is the question at its counter.
use Rattle.std.specs.Prelude.{ℕ, zero, suc, ◌+◌, Bool, true, false, Option, Some, None, List, [], ◌∷◌, ◌++◌}
use Rattle.sets.specs.Tests.{no, both, either, implies, below, same, pick}

-- a set says of each number whether it is a member
abbrev pub Set : Type 0
Set = ℕ → Bool

unfoldable pub none : Set
none f = false

-- the numbers below n
unfoldable pub up_to : ℕ → Set
up_to n f = below f n

-- X with f put in, and with f taken out
unfoldable pub added : Set → ℕ → Set
added X f g = either (X g) (same g f)

unfoldable pub dropped : Set → ℕ → Set
dropped X f g = both (no (same g f)) (X g)

-- what is in X or in Y, in both, in X and not in Y
unfoldable pub joined : Set → Set → Set
joined X Y f = either (X f) (Y f)

unfoldable pub met : Set → Set → Set
met X Y f = both (X f) (Y f)

unfoldable pub removed : Set → Set → Set
removed X Y f = both (no (Y f)) (X f)

-- every number below n passes; some number below n passes
unfoldable pub all : ℕ → (ℕ → Bool) → Bool
all zero p = true
all (suc n) p = both (all n p) (p n)

unfoldable pub any : ℕ → (ℕ → Bool) → Bool
any zero p = false
any (suc n) p = either (any n p) (p n)

-- every member of X below n is a member of Y
unfoldable pub within : ℕ → Set → Set → Bool
within n X Y = all n (λ f. implies (X f) (Y f))

-- how many members X has below n
unfoldable pub one : Bool → ℕ
one true = 1
one false = 0

unfoldable pub count : ℕ → Set → ℕ
count zero X = 0
count (suc n) X = count n X + one (X n)

-- the lowest member of X below n, or n where there is none
unfoldable pub lowest : ℕ → Set → ℕ
lowest zero X = 0
lowest (suc n) X = let r = lowest n X in pick (below r n) r (pick (X n) n (suc n))

-- the lowest member of X below n, if there is one
unfoldable pub lowest_if_any : ℕ → Set → Option ℕ
lowest_if_any n X = let r = lowest n X in pick (below r n) (Some r) None

-- the members of X below n, lowest first
unfoldable pub members : ℕ → Set → List ℕ
members zero X = []
members (suc n) X = members n X ++ pick (X n) (n ∷ []) []
