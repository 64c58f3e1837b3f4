-- Laws of loops `for f in set.members()`: `members n X` is all that the loop visits, `done` what it has visited (`l.yielded`), and the list after that
-- what is to come, which is `members n (has left)` of the words that the iterator has left.
use Prim.Native.Nat.{ℕ, zero, suc, ◌*◌, ◌<◌}
use mathlib.Core.Path.{◌≡◌, refl, sym, ap, ◌∙◌}
use mathlib.Core.Bool.{Bool, true, false, ◌&&◌, ◌||◌}
use mathlib.Core.Logic.{inl, inr}
use mathlib.Core.List.Memᴰ
use mathlib.Core.List.{List, [], ◌∷◌, ◌++◌, append-nil, append_assoc, Memᴰ}
use native.Mathlib.Omega.{arith}
use Rattle.std.specs.List.{list_any, list_all}
use Rattle.std.proofs.lemmas.List.Folds.{list_any-append, list_all-append}
use Rattle.sets.specs.Tests.{Is, both, either, implies, pick}
use Rattle.sets.specs.Sets.{Set, dropped, all, any, lowest, members}
use Rattle.sets.specs.Words.{has, words_of}
use Rattle.sets.proofs.Tests.{not_both_ways, equal_tests, compare}
use Rattle.sets.proofs.Sets.{lowest_is}
use Rattle.sets.proofs.Words.{words_of_same}
use Rattle.sets.proofs.Listing.{members_are, listing_next}

-- ---- what has been visited, and what is to come

-- a turn visits the first of what is to come
pub visit : (done : List ℕ) {to_come rest ms : List ℕ} {f : ℕ} → done ++ to_come ≡ ms → to_come ≡ f ∷ rest → (done ++ (f ∷ [])) ++ rest ≡ ms
visit done {rest = rest} {f = f} e h = append_assoc done (f ∷ []) rest ∙ ap (λ (l : List ℕ). done ++ l) (sym h) ∙ e

-- none is to come: all have been visited
pub visited_all : (done to_come : List ℕ) {ms : List ℕ} → done ++ to_come ≡ ms → to_come ≡ [] → done ≡ ms
visited_all done to_come e h = sym (append-nil done) ∙ ap (λ (l : List ℕ). done ++ l) (sym h) ∙ e

module _ (n : ℕ) (X : Set) (done to_come : List ℕ) (split : done ++ to_come ≡ members n X) where
  -- whom a turn visits is a member
  pub visits_member : {rest : List ℕ} {f : ℕ} → to_come ≡ f ∷ rest → (f < n) × Is (X f)
  visits_member {rest} {f} h =
      (members_are n X f).0 (rw (sym (visit done split h)) (Memᴰ.append_left rest (Memᴰ.append_right done (Memᴰ.head refl))))

-- ---- questions asked of each member in turn

-- a turn asks it of one more
pub any_more : (p : ℕ → Bool) (done : List ℕ) (f : ℕ) → list_any p (done ++ (f ∷ [])) ≡ either (list_any p done) (p f)
unfolding either
any_more p done f = list_any-append p done (f ∷ []) ∙ go (list_any p done) (p f)
  where
    go : (a b : Bool) → (a || (b || false)) ≡ either a b
    go true b = refl
    go false true = refl
    go false false = refl

pub all_more : (p : ℕ → Bool) (done : List ℕ) (f : ℕ) → list_all p (done ++ (f ∷ [])) ≡ both (list_all p done) (p f)
unfolding both
all_more p done f = list_all-append p done (f ∷ []) ∙ go (list_all p done) (p f)
  where
    go : (a b : Bool) → (a && (b && true)) ≡ both a b
    go false b = refl
    go true true = refl
    go true false = refl

either_none : (a : Bool) → either a false ≡ a
unfolding either
either_none true = refl
either_none false = refl

both_all : (a : Bool) → both a true ≡ a
unfolding both
both_all true = refl
both_all false = refl

-- some member passes, every member passes
pub any_members : (n : ℕ) (X : Set) (p : ℕ → Bool) → any n (λ f. both (X f) (p f)) ≡ list_any p (members n X)
unfolding any members both pick
any_members zero X p = refl
any_members (suc n) X p = go (X n) (any_members n X p)
  where
    go : (b : Bool) {a : Bool} → a ≡ list_any p (members n X) → either a (both b (p n)) ≡ list_any p (members n X ++ pick b (n ∷ []) [])
    go true h = ap (λ (a : Bool). either a (p n)) h ∙ sym (any_more p (members n X) n)
    go false {a} h = either_none a ∙ h ∙ ap (list_any p) (sym (append-nil (members n X)))

pub all_members : (n : ℕ) (X : Set) (p : ℕ → Bool) → all n (λ f. implies (X f) (p f)) ≡ list_all p (members n X)
unfolding all members implies pick
all_members zero X p = refl
all_members (suc n) X p = go (X n) (all_members n X p)
  where
    go : (b : Bool) {a : Bool} → a ≡ list_all p (members n X) → both a (implies b (p n)) ≡ list_all p (members n X ++ pick b (n ∷ []) [])
    go true h = ap (λ (a : Bool). both a (p n)) h ∙ sym (all_more p (members n X) n)
    go false {a} h = both_all a ∙ h ∙ ap (list_all p) (sym (append-nil (members n X)))

-- ---- a turn as one of a loop that takes the lowest member out: a is left before it, b after

-- lists of members are the same only of sets with the same members
pub members_only : (n : ℕ) (X Y : Set) → members n X ≡ members n Y → (f : ℕ) → f < n → X f ≡ Y f
members_only n X Y e f l =
    equal_tests (X f) (Y f)
    (λ x. ((members_are n Y f).0 (rw (sym e) ((members_are n X f).1 (l, x)))).1)
    (λ y. ((members_are n X f).0 (rw e ((members_are n Y f).1 (l, y)))).1)

module _ (k : ℕ) (a b : List ℕ) (f : ℕ) (turn : members (k * 64) (has a) ≡ f ∷ members (k * 64) (has b)) where
  turn_member : (f < k * 64) × Is (has a f)
  turn_member = visits_member (k * 64) (has a) [] (members (k * 64) (has a)) refl turn

  -- f is the lowest member of a
  turn_some : lowest (k * 64) (has a) < k * 64
  turn_some = elim (compare (lowest (k * 64) (has a)) (k * 64)) [
    | inl l ↦ l
    | inr g ↦ not_both_ways turn_member.1 ((lowest_is (k * 64) (has a)).least f (omega (arith, turn_member.0)))
  ]

  pub turn_lowest : f ≡ lowest (k * 64) (has a)
  turn_lowest = let h = sym turn ∙ listing_next (k * 64) (has a) turn_some in cc

  -- and b is a without it
  pub turn_rest : b ≡ words_of k (has b) → b ≡ words_of k (dropped (has a) f)
  turn_rest whole = whole ∙ words_of_same k (has b) (dropped (has a) f)
      (members_only (k * 64) (has b) (dropped (has a) f)
      (let h = sym turn ∙ listing_next (k * 64) (has a) turn_some in let e = turn_lowest in cc))

pub turn_none : (k : ℕ) (a : List ℕ) → members (k * 64) (has a) ≡ [] → lowest (k * 64) (has a) ≡ k * 64
turn_none k a e = elim (compare (lowest (k * 64) (has a)) (k * 64)) [
  | inl l ↦ absurd (let h : [] ≡ lowest (k * 64) (has a) ∷ members (k * 64) _ = sym e ∙ listing_next (k * 64) (has a) l in cc)
  | inr g ↦ omega (arith, (lowest_is (k * 64) (has a)).most)
]
