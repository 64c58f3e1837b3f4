-- Tests on truth values and numbers, by names of our own. Each is shut, so that a law about `both p q` finds p and q by itself;
-- proofs/Tests.antt ties each to the library's test of the same meaning.
use Rattle.std.specs.Prelude.{ℕ, ◌≡◌, Bool, true, false, ltb, eqb}

-- the test is true
abbrev pub Is : Bool → Type 0
Is p = p ≡ true

unfoldable pub no : Bool → Bool
no true = false
no false = true

unfoldable pub both : Bool → Bool → Bool
both true q = q
both false q = false

unfoldable pub either : Bool → Bool → Bool
either true q = true
either false q = q

unfoldable pub implies : Bool → Bool → Bool
implies true q = q
implies false q = true

-- m is less than n
unfoldable pub below : ℕ → ℕ → Bool
below m n = ltb m n

-- m equals n
unfoldable pub same : ℕ → ℕ → Bool
same m n = eqb m n

-- the first where the test is true, the second where it is false
unfoldable pub pick : {A : Type 0} → Bool → A → A → A
pick true a b = a
pick false a b = b
