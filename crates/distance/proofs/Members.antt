-- The loops over a table: one goes through the members of a set, lowest first, the other through all numbers of the table.
use Prim.Native.Nat.{ℕ, zero, suc, ◌+◌, ◌≤◌, ◌<◌}
use mathlib.Core.Path.{◌≡◌, refl, sym, ◌∙◌, subst}
use mathlib.Core.Bool.{Bool, true, false, true≢false, false≢true}
use mathlib.Core.List.{List, [], ◌∷◌}
use mathlib.Core.Logic.{◌⊎◌, inl, inr}
use native.Mathlib.Decide.{ℕ_discrete}
use native.Mathlib.Nat.{not-suc-le-zero}
use native.Mathlib.Omega.{arith}
use lib.ListN.{length, set, length-set, get_or-eq_default}
use lib.Seq.{get_or-set_same, get_or-set_other}
use Rattle.std.specs.Prelude.{All, Contains}
use Rattle.std.proofs.lemmas.List.Elements.{All-nil, All-cons, All-head, All-tail, All-append, All-contains, Contains-push, Contains-append_left}
use Rattle.sets.specs.Tests.{Is, pick}
use Rattle.sets.specs.Sets.{Set, dropped, lowest, members}
use Rattle.sets.specs.Words.{has, words_of}
use Rattle.sets.proofs.Tests.{not_both_ways, compare, pick_true, pick_false}
use Rattle.sets.proofs.Sets.{last, dropped_itself, dropped_other, lowest_is}
use Rattle.sets.proofs.Words.{has_made, made_has}
use Rattle.distance.specs.Distance.{entry}
use Rattle.distance.specs.Relaxing.{sum, SameOrLowered}
use Rattle.distance.proofs.Lists.{sum_lt}

-- ---- one member out of what is left

module _ (left : List ℕ) (f : ℕ) (first : f ≡ lowest 256 (has left)) (more : f < 256) where
  -- it is one
  pub first_in : Is (has left f)
  first_in = subst (λ (g : ℕ). Is (has left g)) (sym first) ((lowest_is 256 (has left)).member (omega arith))

  module _ (rest : List ℕ) (made : rest ≡ words_of 4 (dropped (has left) f)) where
    -- a member of the rest was left and is another
    pub rest_left : (g : ℕ) → Is (has rest g) → Is (has left g) × (¬ (g ≡ f))
    rest_left g h =
        let k = made_has 4 rest (dropped (has left) f) made g h in
        elim (ℕ_discrete g f) [
          | yes e ↦ not_both_ways k (dropped_itself (has left) f g e)
          | no e ↦ (sym (dropped_other (has left) f g e) ∙ k, e)
        ]

    -- what was left is in the rest, or is f
    pub left_rest : (g : ℕ) → g < 256 → has rest g ≡ false → (g ≡ f) ⊎ (has left g ≡ false)
    left_rest g l h =
        elim (ℕ_discrete g f) [
          | yes e ↦ inl e
          | no e ↦ inr (sym (dropped_other (has left) f g e) ∙ sym (has_made 4 rest (dropped (has left) f) made g l) ∙ h)
        ]

-- ---- the list of the members

-- what holds of each member holds of all in the list, and the other way round
members_all : (n : ℕ) (X : Set) → All (λ f. Is (X f)) (members n X)
unfolding members pick
members_all zero X = All-nil (λ f. Is (X f))
members_all (suc n) X = All-append (λ f. Is (X f)) (members n X) (pick (X n) (n ∷ []) []) (members_all n X) (last_of (X n) refl)
  where
    last_of : (b : Bool) → X n ≡ b → All (λ f. Is (X f)) (pick b (n ∷ []) [])
    last_of true h = All-cons (λ f. Is (X f)) n [] h (All-nil (λ f. Is (X f)))
    last_of false h = All-nil (λ f. Is (X f))

in_members : (n : ℕ) (X : Set) (f : ℕ) → f < n → Is (X f) → Contains (members n X) f
unfolding members pick
in_members zero X f l h = absurd (not-suc-le-zero l)
in_members (suc n) X f l h =
    elim (last n f l) [
      | inl e ↦ rw (e, rw e at h) (Contains-push (members n X) n)
      | inr b ↦ Contains-append_left (members n X) _ f (in_members n X f b h)
    ]

-- ---- lowering the members

-- the rest of the members of X have not been looked at yet
pub record Lowering (X : Set) (rest : List ℕ) (x : ℕ) (d z : List ℕ) (r : Bool) : Type 0 where
  pub size : length z ≡ length d
  pub each : (f : ℕ) → SameOrLowered X x d z f
  pub part : All (λ f. Is (X f)) rest
  pub kept : r ≡ false → z ≡ d
  pub still : r ≡ false → All (λ f. entry d f ≤ x) rest → (f : ℕ) → f < 256 → Is (X f) → entry d f ≤ x
  pub fell : r ≡ true → sum (length d) (entry z) < sum (length d) (entry d)

pub lower_start : (X : Set) (x : ℕ) (d : List ℕ) → Lowering X (members 256 X) x d d false
lower_start X x d =
    record {
      size = refl;
      each = λ f. inl refl;
      part = members_all 256 X;
      kept = λ e. refl;
      still = λ e all f l h. All-contains (λ f. entry d f ≤ x) (members 256 X) f all (in_members 256 X f l h);
      fell = λ e. absurd (false≢true e);
    }

pub lowered_le : (X : Set) (x : ℕ) (d z : List ℕ) (f : ℕ) → SameOrLowered X x d z f → entry z f ≤ entry d f
lowered_le X x d z f (inl e) = omega arith
lowered_le X x d z f (inr e) = omega (arith, e.1, e.2)

-- a number that can be lowered has a place in the table
more_inside : (x : ℕ) (z : List ℕ) (f : ℕ) → x < entry z f → f < length z
more_inside x z f h = elim (compare f (length z)) [ inl l ↦ l | inr l ↦ absurd (omega (arith, get_or-eq_default z 0 l)) ]

-- a turn of the loop: what the table holds here is more, or it is not
module _ {X : Set} {x : ℕ} {d z : List ℕ} {r : Bool} {f : ℕ} {all rest : List ℕ} (next : all ≡ f ∷ rest) (before : Lowering X all x d z r) where
  s : Lowering X (f ∷ rest) x d z r
  s = subst (λ (l : List ℕ). Lowering X l x d z r) next before

  pub lower_skip : entry z f ≤ x → Lowering X rest x d z r
  lower_skip h =
      record {
        size = s.size;
        each = s.each;
        part = All-tail (λ f. Is (X f)) f rest s.part;
        kept = s.kept;
        still = λ e all. s.still e (All-cons (λ f. entry d f ≤ x) f rest (subst (λ (z : List ℕ). entry z f ≤ x) (s.kept e) h) all);
        fell = s.fell;
      }

  pub lower_set : x < entry z f → Lowering X rest x d (set z f x) true
  lower_set h =
      record {
        size = length-set z f x ∙ s.size;
        each = new;
        part = All-tail (λ f. Is (X f)) f rest s.part;
        kept = λ e. absurd (true≢false e);
        still = λ e. absurd (true≢false e);
        fell = λ e. sum_lt (length d) (entry (set z f x)) (entry d) (λ g b. lowered_le X x d (set z f x) g (new g)) f (omega (arith, s.size, inside))
            (omega (arith, get_or-set_same z f x 0 inside, here));
      }
    where
      inside : f < length z
      inside = more_inside x z f h

      -- it has not been lowered before
      here : x < entry d f
      here = elim (s.each f) [ inl e ↦ omega arith | inr e ↦ absurd (omega (arith, e.1)) ]

      new : (g : ℕ) → SameOrLowered X x d (set z f x) g
      new g =
          elim (ℕ_discrete g f) [
            | yes e ↦ subst (λ (g : ℕ). SameOrLowered X x d (set z f x) g) (sym e)
                (inr (All-head (λ f. Is (X f)) f rest s.part, get_or-set_same z f x 0 inside, here))
            | no e ↦ subst (λ (q : ℕ). (q ≡ entry d g) ⊎ (Is (X g) × (q ≡ x) × (x < entry d g))) (sym (get_or-set_other z f g x 0 e)) (s.each g)
          ]

-- ---- 0 for the members of X, and the mark for the rest

-- the numbers before i are written
abbrev pub Begun : Set → ℕ → List ℕ → ℕ → Type 0
Begun X mark z i = (f : ℕ) → f < i → entry z f ≡ pick (X f) 0 mark

-- a turn of the loop: i is a member, or it is not
module _ (X : Set) (mark : ℕ) (z : List ℕ) (i : ℕ) (begun : Begun X mark z i) (more : i < length z) where
  begin_next : (x : ℕ) → x ≡ pick (X i) 0 mark → Begun X mark (set z i x) (i + 1)
  begin_next x e f l =
      elim (ℕ_discrete f i) [
        | yes q ↦ subst (λ (f : ℕ). entry (set z i x) f ≡ pick (X f) 0 mark) (sym q) (get_or-set_same z i x 0 more ∙ e)
        | no q ↦ get_or-set_other z i f x 0 q ∙ begun f (omega arith)
      ]

  pub begin_member : (x : ℕ) → Is (X i) → x ≡ 0 → Begun X mark (set z i x) (i + 1)
  begin_member x h e = begin_next x (e ∙ sym (pick_true 0 mark h))

  pub begin_other : (x : ℕ) → X i ≡ false → x ≡ mark → Begun X mark (set z i x) (i + 1)
  begin_other x h e = begin_next x (e ∙ sym (pick_false 0 mark h))
