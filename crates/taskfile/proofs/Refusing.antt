-- Laws of refusals at a place: by cases on the test, and on the first of two answers.
use Prim.Native.Nat.{ℕ}
use mathlib.Core.Path.{◌≡◌, refl, sym}
use mathlib.Core.Bool.{Bool, true, false}
use mathlib.Core.List.{List, ◌∷◌}
use Rattle.std.specs.Prelude.{Ok, Err}
use Rattle.sets.specs.Tests.{Is, no}
use Rattle.sets.proofs.Tests.{no_of}
use Rattle.task.specs.declared.refusal.Fault.{Fault}
use Rattle.task.specs.Refusal.{Refusal, Verdict, refusal, or_else, first_refusal}
use Rattle.task.proofs.Refusals.{refused_fine}
use Rattle.taskfile.specs.Judging.{refused_at}

-- ---- one that applies exactly if a test holds

pub at_refused : (place : ℕ) (fault : Fault) {p : Bool} → Is p → Err (refusal fault place) ≡ refused_at place p fault
unfolding refused_at
at_refused place fault h = rw h

pub at_fine : (place : ℕ) (fault : Fault) {p : Bool} → p ≡ false → refused_at place p fault ≡ Ok tt
unfolding refused_at
at_fine place fault h = rw h refl

pub fine_at : (place : ℕ) (fault : Fault) (p : Bool) → refused_at place p fault ≡ Ok tt → p ≡ false
unfolding refused_at
fine_at place fault true e = refused_fine e
fine_at place fault false e = refl

-- ---- one that applies exactly if a test fails

pub at_test : (place : ℕ) (fault : Fault) {p : Bool} → Is p → refused_at place (no p) fault ≡ Ok tt
at_test place fault h = at_fine place fault (no_of _ h)

pub test_at : (place : ℕ) (fault : Fault) (p : Bool) → refused_at place (no p) fault ≡ Ok tt → Is p
unfolding no
test_at place fault true e = refl
test_at place fault false e = sym (fine_at place fault true e)

-- ---- two, one after the other

pub or_stay : {v : Verdict} {r : Refusal} (w : Verdict) → v ≡ Err r → or_else v w ≡ Err r
unfolding or_else
or_stay w h = rw h

pub or_fine : (v w : Verdict) → v ≡ Ok tt → w ≡ Ok tt → or_else v w ≡ Ok tt
unfolding or_else
or_fine v w h k = rw h k

pub or_first : (v w : Verdict) → or_else v w ≡ Ok tt → v ≡ Ok tt
unfolding or_else
or_first (Ok done) w e = refl
or_first (Err r) w e = e

pub or_second : (v w : Verdict) → or_else v w ≡ Ok tt → w ≡ Ok tt
unfolding or_else
or_second (Ok done) w e = e
or_second (Err r) w e = refused_fine e

-- ---- several

pub refuse_at : {p : Bool} (place : ℕ) (fault : Fault) (vs : List Verdict) → Is p → first_refusal (refused_at place p fault ∷ vs) ≡ Err (refusal fault place)
unfolding first_refusal
refuse_at place fault vs h = or_stay _ (sym (at_refused place fault h))

pub skip_at : {p : Bool} (place : ℕ) (fault : Fault) (vs : List Verdict) → p ≡ false → first_refusal (refused_at place p fault ∷ vs) ≡ first_refusal vs
unfolding first_refusal or_else
skip_at place fault vs h = rw (at_fine place fault h)
