-- A list of refusals gives the first that applies: by cases on each, and so for lists put one after the other.
use Prim.Native.Nat.{ℕ, suc}
use mathlib.Core.Path.{◌≡◌, refl, sym, ap, ◌∙◌}
use mathlib.Core.Bool.{Bool, false}
use mathlib.Core.List.{List, [], ◌∷◌, ◌++◌}
use mathlib.Core.Logic.{◌⊎◌, inl, inr, ◌↔◌}
use native.Mathlib.Omega.{arith}
use Rattle.std.specs.Prelude.{Contains, Ok, Err}
use Rattle.sets.specs.Tests.{Is}
use Rattle.sets.proofs.Tests.{tell}
use Rattle.task.specs.declared.refusal.Fault.{Fault}
use Rattle.task.specs.Refusal.{Refusal, Verdict, number_of, refused_if, or_else, first_refusal}
use Rattle.task.proofs.Refusals.{refused_fine}
use Rattle.examples.specs.Refusals.{Rule, rule, numbers_of, NoneApplies, FirstThatApplies, Judged, AtZero}

-- ---- lists put one after the other

none_join : (qs us : List Rule) → NoneApplies qs → NoneApplies us → NoneApplies (qs ++ us)
none_join [] us a b = b
none_join (q ∷ qs) us a b = (a.0, none_join qs us a.1 b)

none_left : (qs us : List Rule) → NoneApplies (qs ++ us) → NoneApplies qs
none_left [] us a = tt
none_left (q ∷ qs) us a = (a.0, none_left qs us a.1)

none_right : (qs us : List Rule) → NoneApplies (qs ++ us) → NoneApplies us
none_right [] us a = a
none_right (q ∷ qs) us a = none_right qs us a.1

-- a number of a list is one of a longer list
one_more : {k : ℕ} (n : ℕ) (ns : List ℕ) → Contains ns k → Contains (n ∷ ns) k
one_more n ns c = (suc c.0, omega (arith, c.1), c.2)

module _ (r : Refusal) where
  none_first : (qs : List Rule) → NoneApplies qs → ¬ (FirstThatApplies r qs)
  none_first [] a f = f
  none_first (q ∷ qs) a f = elim f [ inl x ↦ a.0 x.0 | inr x ↦ none_first qs a.1 x.1 ]

  -- the first of the one list stays the first
  first_left : (qs us : List Rule) → FirstThatApplies r qs → FirstThatApplies r (qs ++ us)
  first_left [] us f = absurd f
  first_left (q ∷ qs) us f = elim f [ inl x ↦ inl x | inr x ↦ inr (x.0, first_left qs us x.1) ]

  -- where none of the one list applies it is that of the other
  first_right : (qs us : List Rule) → NoneApplies qs → FirstThatApplies r us → FirstThatApplies r (qs ++ us)
  first_right [] us a f = f
  first_right (q ∷ qs) us a f = inr (a.0, first_right qs us a.1 f)

  first_past : (qs us : List Rule) → NoneApplies qs → FirstThatApplies r (qs ++ us) → FirstThatApplies r us
  first_past [] us a f = f
  first_past (q ∷ qs) us a f = elim f [ inl x ↦ absurd (a.0 x.0) | inr x ↦ first_past qs us a.1 x.1 ]

  -- where one of the one list applies it is of that list
  first_within : (d : Refusal) (qs us : List Rule) → FirstThatApplies d qs → FirstThatApplies r (qs ++ us) → FirstThatApplies r qs
  first_within d [] us g f = absurd g
  first_within d (q ∷ qs) us g f =
      elim f [
        | inl x ↦ inl x
        | inr x ↦ elim g [ inl y ↦ absurd (x.0 y.0) | inr y ↦ inr (x.0, first_within d qs us y.1 x.1) ]
      ]

  first_number : (qs : List Rule) → FirstThatApplies r qs → Contains (numbers_of qs) (number_of r.fault)
  first_number [] f = absurd f
  first_number (q ∷ qs) f =
      elim f [
        | inl x ↦ (0, omega arith, ap (λ (d : Refusal). number_of d.fault) x.1)
        | inr x ↦ one_more (number_of q.refusal.fault) (numbers_of qs) (first_number qs x.1)
      ]

-- ---- verdicts

-- v is the first of these refusals that applies, and fine where none does
pub record Lowest (qs : List Rule) (v : Verdict) : Type 0 where
  pub answers : (v ≡ Ok tt) ↔ NoneApplies qs
  pub refuses : (r : Refusal) → (v ≡ Err r) ↔ FirstThatApplies r qs

-- nothing to refuse
pub lowest_none : Lowest [] (first_refusal [])
unfolding first_refusal
lowest_none = record { answers = ((λ e. tt), (λ a. refl)); refuses = λ r. ((λ e. refused_fine (sym e)), (λ f. absurd f)) }

-- a refusal by a test that says when it applies
pub lowest_if : {b : Bool} {P : Type 0} (d : Refusal) → (Is b ↔ P) → {v : Verdict} → (Is b → v ≡ Err d) → (b ≡ false → v ≡ Ok tt)
    → Lowest (record { refusal = d; when = P } ∷ []) v
lowest_if {b} {P} d says {v} given fine = record { answers = (to, from); refuses = λ r. (first r, back r) }
  where
    to : v ≡ Ok tt → ¬ P × Unit {0}
    to e = ((λ x. refused_fine (sym (given (says.1 x)) ∙ e)), tt)

    from : ¬ P × Unit {0} → v ≡ Ok tt
    from a = elim (tell b) [ inl h ↦ absurd (a.0 (says.0 h)) | inr h ↦ fine h ]

    first : (r : Refusal) → v ≡ Err r → (P × (d ≡ r)) ⊎ (¬ P × ⊥)
    first r e =
        elim (tell b) [
          | inl h ↦ let g = given h in let x : d ≡ r = cc in inl (says.0 h, x)
          | inr h ↦ refused_fine (sym e ∙ fine h)
        ]

    back : (r : Refusal) → (P × (d ≡ r)) ⊎ (¬ P × ⊥) → v ≡ Err r
    back r f = elim f [ inl x ↦ rw x.1 at (given (says.1 x.0)) | inr x ↦ absurd x.1 ]

-- refusals one after the other
pub lowest_join : {qs us : List Rule} (v : Verdict) (vs : List Verdict) → Lowest qs v → Lowest us (first_refusal vs)
    → Lowest (qs ++ us) (first_refusal (v ∷ vs))
unfolding first_refusal or_else
lowest_join {qs} {us} (Ok done) vs a b =
    let free : NoneApplies qs = a.answers.0 refl in
    record {
      answers = ((λ e. none_join qs us free (b.answers.0 e)), (λ n. b.answers.1 (none_right qs us n)));
      refuses = λ r. ((λ e. first_right r qs us free ((b.refuses r).0 e)), (λ f. (b.refuses r).1 (first_past r qs us free f)));
    }
lowest_join {qs} {us} (Err d) vs a b =
    let first : FirstThatApplies d qs = (a.refuses d).0 refl in
    record {
      answers = ((λ e. refused_fine e), (λ n. absurd (none_first d qs (none_left qs us n) first)));
      refuses = λ r. ((λ e. first_left r qs us ((a.refuses r).0 e)), (λ f. (a.refuses r).1 (first_within r d qs us first f)));
    }

-- one that a test gives, and those after it
pub lowest_next : {b : Bool} {P : Type 0} {qs : List Rule} (d : Fault) (vs : List Verdict) → (Is b ↔ P) → Lowest qs (first_refusal vs)
    → Lowest (rule d P ∷ qs) (first_refusal (refused_if b d ∷ vs))
unfolding refused_if
lowest_next {b} d vs says rest = lowest_join (refused_if b d) vs (lowest_if _ says (λ h. rw h) (λ h. rw h)) rest

-- as it is said
pub judged : {numbers : List ℕ} {qs : List Rule} {v : Verdict} → numbers_of qs ≡ numbers → Lowest qs v → Judged numbers qs v
judged {numbers} {qs} {v} e l = record { ends = ends v l; answers = l.answers; refuses = l.refuses }
  where
    ends : (v : Verdict) → Lowest qs v → (v ≡ Ok tt) ⊎ ((r : Refusal) × Contains numbers (number_of r.fault) × (v ≡ Err r))
    ends (Ok done) l = inl refl
    ends (Err r) l = inr (r, rw e at (first_number r qs ((l.refuses r).0 refl)), refl)

-- ---- places: those of the list, and 0 where all of these are

abbrev pub places_of : List Rule → List ℕ
places_of [] = []
places_of (q ∷ qs) = q.refusal.place ∷ places_of qs

abbrev pub zeros : List Rule → List ℕ
zeros [] = []
zeros (q ∷ qs) = 0 ∷ zeros qs

first_zero : (r : Refusal) (qs : List Rule) → places_of qs ≡ zeros qs → FirstThatApplies r qs → r.place ≡ 0
first_zero r [] e f = absurd f
first_zero r (q ∷ qs) e f =
    let here : q.refusal.place ≡ 0 = cc in
    let rest : places_of qs ≡ zeros qs = cc in elim f [ inl x ↦ rw x.1 at here | inr x ↦ first_zero r qs rest x.1 ]

pub at_zero : {qs : List Rule} {v : Verdict} → places_of qs ≡ zeros qs → Lowest qs v → AtZero v
at_zero {qs} e l r h = first_zero r qs e ((l.refuses r).0 h)

-- all but the last at 0
pub last_place : (r : Refusal) (qs : List Rule) (q : Rule) → places_of qs ≡ zeros qs → FirstThatApplies r (qs ++ q ∷ [])
    → (Contains (numbers_of qs) (number_of r.fault) × (r.place ≡ 0)) ⊎ (q.when × (q.refusal ≡ r))
last_place r [] q e f = elim f [ inl x ↦ inr x | inr x ↦ absurd x.1 ]
last_place r (p ∷ qs) q e f =
    let here : p.refusal.place ≡ 0 = cc in
    let rest : places_of qs ≡ zeros qs = cc in
    elim f [
      | inl x ↦ inl ((0, omega arith, ap (λ (d : Refusal). number_of d.fault) x.1), rw x.1 at here)
      | inr x ↦ elim (last_place r qs q rest x.1) [ inl y ↦ inl (one_more _ (numbers_of qs) y.0, y.1) | inr y ↦ inr y ]
    ]
