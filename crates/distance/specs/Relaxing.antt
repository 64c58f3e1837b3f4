-- What `settle` and the workers behind it promise, free of the order in which they go. To relax a table by a step is to lower what it holds for a fact that the
-- step sets to the step's cost plus the largest that the table holds for its needs.
use Rattle.std.specs.Prelude.{ℕ, zero, suc, ◌+◌, ◌≤◌, ◌<◌, ◌≡◌, Bool, true, false, List, ◌⊎◌, length}
use Rattle.sets.specs.Tests.{Is}
use Rattle.sets.specs.Sets.{Set}
use Rattle.task.specs.Task.{Task}
use Rattle.distance.specs.Distance.{entry, through_step}

-- e is nowhere above d
abbrev pub Under : ℕ → (ℕ → ℕ) → (ℕ → ℕ) → Type 0
Under n e d = (f : ℕ) → f < n → e f ≤ d f

-- no step from a up to b that is on relaxes d
abbrev pub Still : Task → (ℕ → ℕ) → ℕ → ℕ → (ℕ → ℕ) → Type 0
Still t c a b d = (s f : ℕ) → a ≤ s → s < b → f < t.facts → Is (t.on s) → Is (t.sets s f) → d f ≤ through_step t c d s

-- z is the largest table under d that no step relaxes
pub record LargestStill (t : Task) (c : ℕ → ℕ) (d z : List ℕ) : Type 0 where
  pub size : length z ≡ length d
  pub less : Under t.facts (entry z) (entry d)
  pub still : Still t c 0 t.steps (entry z)
  pub largest : (e : ℕ → ℕ) → Still t c 0 t.steps e → Under t.facts e (entry d) → Under t.facts e (entry z)

-- ---- the workers

-- the sum of the first n numbers of d
unfoldable pub sum : ℕ → (ℕ → ℕ) → ℕ
sum zero d = 0
sum (suc n) d = sum n d + d n

-- z came from d by lowering numbers, and lies above every table under d that no step relaxes
pub record Reduced (t : Task) (c : ℕ → ℕ) (d z : List ℕ) : Type 0 where
  pub size : length z ≡ length d
  pub less : Under t.facts (entry z) (entry d)
  pub above : (e : ℕ → ℕ) → Still t c 0 t.steps e → Under t.facts e (entry d) → Under t.facts e (entry z)

-- z is d relaxed by the steps from a up to b, and r tells whether that changed it: if not, none of them relaxes d; if so, its sum fell
pub record Relaxed (t : Task) (c : ℕ → ℕ) (a b : ℕ) (d z : List ℕ) (r : Bool) : Type 0 where
  pub reduced : Reduced t c d z
  pub kept : r ≡ false → z ≡ d
  pub still : r ≡ false → Still t c a b (entry d)
  pub fell : r ≡ true → sum t.facts (entry z) < sum t.facts (entry d)

-- at f the table z is as d was, or f is a member of X and z holds x where d held more
abbrev pub SameOrLowered : Set → ℕ → List ℕ → List ℕ → ℕ → Type 0
SameOrLowered X x d z f = (entry z f ≡ entry d f) ⊎ (Is (X f) × (entry z f ≡ x) × (x < entry d f))

-- the members of X hold x where they held more, all else is as it was, and r tells whether anything was lowered
pub record Lowered (X : Set) (x : ℕ) (d z : List ℕ) (r : Bool) : Type 0 where
  pub size : length z ≡ length d
  pub each : (f : ℕ) → SameOrLowered X x d z f
  pub kept : r ≡ false → z ≡ d
  pub still : r ≡ false → (f : ℕ) → f < 256 → Is (X f) → entry d f ≤ x
  pub fell : r ≡ true → sum (length d) (entry z) < sum (length d) (entry d)
