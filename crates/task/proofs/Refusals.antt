-- Laws of refusals given in order: by cases on the first answer of the list.
use Prim.Native.Nat.{ℕ}
use mathlib.Core.Path.{◌≡◌, refl, sym}
use mathlib.Core.Bool.{Bool, true, false}
use mathlib.Core.List.{List, [], ◌∷◌}
use native.Mathlib.Omega.{arith}
use Rattle.sets.specs.Tests.{Is, no}
use Rattle.std.specs.Prelude.{Result, Ok, Err}
use Rattle.task.specs.declared.refusal.Fault.{Fault}
use Rattle.task.specs.Refusal.{Refusal, Verdict, refusal, refused_if, or_else, first_refusal, answered}

pub refused_fine : {A : Type 0} {r : Refusal} → ◌≡◌ {A = Verdict} (Err r) (Ok tt) → A
refused_fine {A} {r} e = let z : ◌≡◌ {A = ℕ} 0 1 = cc in absurd (omega arith)

-- ---- from the tests to the verdict

-- a refusal that applies is given, before any that follows
pub refuse : {p : Bool} (k : Fault) (vs : List Verdict) → Is p → first_refusal (refused_if p k ∷ vs) ≡ Err (refusal k 0)
unfolding first_refusal or_else refused_if
refuse k vs h = rw h

-- one that does not apply leaves it to those that follow
pub skip : {p : Bool} (k : Fault) (vs : List Verdict) → p ≡ false → first_refusal (refused_if p k ∷ vs) ≡ first_refusal vs
unfolding first_refusal or_else refused_if
skip k vs h = rw h

pub skip_fine : {v : Verdict} (vs : List Verdict) → v ≡ Ok tt → first_refusal (v ∷ vs) ≡ first_refusal vs
unfolding first_refusal or_else
skip_fine vs h = rw h

-- and where none follows, nothing is refused
pub none_left : first_refusal [] ≡ Ok tt
unfolding first_refusal
none_left = refl

-- what is refused already stays so
pub stay : {v : Verdict} {r : Refusal} (vs : List Verdict) → v ≡ Err r → first_refusal (v ∷ vs) ≡ v
unfolding first_refusal or_else
stay vs h = rw h

-- ---- the answer of an operation

pub ok_not_err : {A : Type 0} {x : A} {r : Refusal} → ◌≡◌ {A = Result A Refusal} (Ok x) (Err r) → ⊥
ok_not_err {A} {x} {r} e = let z : ◌≡◌ {A = ℕ} 0 1 = cc in absurd (omega arith)

pub answered_ok : {A : Type 0} {value x : A} (v : Verdict) → answered v value ≡ Ok x → (v ≡ Ok tt) × (value ≡ x)
unfolding answered
answered_ok (Ok done) e = (refl, cc)
answered_ok (Err r) e = absurd (ok_not_err (sym e))

pub answered_err : {A : Type 0} (value : A) {r : Refusal} (v : Verdict) → answered v value ≡ Err r → v ≡ Err r
unfolding answered
answered_err value (Ok done) e = absurd (ok_not_err e)
answered_err value (Err r) e = cc

-- ---- from the verdict to the tests

-- where nothing is refused, the first is fine and so are those that follow
pub fine_first : (v : Verdict) (vs : List Verdict) → first_refusal (v ∷ vs) ≡ Ok tt → v ≡ Ok tt
unfolding first_refusal or_else
fine_first (Ok done) vs e = refl
fine_first (Err r) vs e = e

pub fine_rest : (v : Verdict) (vs : List Verdict) → first_refusal (v ∷ vs) ≡ Ok tt → first_refusal vs ≡ Ok tt
unfolding first_refusal or_else
fine_rest (Ok done) vs e = e
fine_rest (Err r) vs e = refused_fine e

pub fine_if : (p : Bool) (k : Fault) → refused_if p k ≡ Ok tt → p ≡ false
unfolding refused_if
fine_if true k e = refused_fine e
fine_if false k e = refl

-- a refusal that applies exactly if a test fails
pub fine_test : (p : Bool) (k : Fault) → refused_if (no p) k ≡ Ok tt → Is p
unfolding no
fine_test true k e = refl
fine_test false k e = sym (fine_if true k e)
