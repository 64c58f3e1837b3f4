-- Each test behind a refusal is true exactly if document 01's condition holds: part by part, as the test is made.
use Prim.Native.Nat.{ℕ, zero, suc, ◌/◌, ◌≤◌, ◌<◌}
use mathlib.Core.Path.{◌≡◌, refl}
use mathlib.Core.Bool.{Bool, false}
use mathlib.Core.List.{List}
use mathlib.Core.Logic.{◌⊎◌, inl, inr, ◌↔◌}
use native.Mathlib.Omega.{arith}
use lib.ListN.{length}
use Rattle.sets.specs.Tests.{Is, no, both, either, below, same}
use Rattle.sets.specs.Sets.{up_to}
use Rattle.sets.proofs.Tests.{tell, fails, not_both_ways, both_l, both_r, both_true, both_false_l, both_false_r, either_l, either_r, either_cases, no_true, no_false, no_of, below_true, below_at, below_false, below_not, same_true, same_at, compare}
use Rattle.sets.proofs.Sets.{all_not, all_fails, within_not, within_fails}
use Rattle.sets.proofs.Words.{row_lt}
use Rattle.task.specs.Tables.{Tables, view}
use Rattle.task.specs.Walks.{goal_holds}
use Rattle.task.specs.Check.{wrong_facts, wrong_steps, right_lengths, only_facts, right_sets, right_costs}
use Rattle.task.proofs.Checking.{costs_all}
use Rattle.reach.specs.Reach.{reach}
use Rattle.replay.specs.Replay.{first_past}
use Rattle.replay.proofs.Judging.{past_is, past_none, past_most}
use Rattle.must.proofs.Demand2.{no_way_said}
use Rattle.examples.specs.Refusals.{OtherLength, HoldsPast, SetPast, CostAbove, NoWay, EntryPast}

-- ---- tests made of tests

pub below_when : (a b : ℕ) → Is (below a b) ↔ (a < b)
below_when a b = (below_at a b, below_true a b)

pub same_when : (a b : ℕ) → Is (same a b) ↔ (a ≡ b)
same_when a b = (same_at a b, same_true a b)

pub not_below_when : (a b : ℕ) → Is (no (below a b)) ↔ (b ≤ a)
not_below_when a b = ((λ h. below_not a b (no_false _ h)), (λ l. no_true _ (below_false a b l)))

module _ {p q : Bool} {P Q : Type 0} where
  pub either_when : (Is p ↔ P) → (Is q ↔ Q) → Is (either p q) ↔ (P ⊎ Q)
  either_when a b = (
    (λ h. elim (either_cases p q h) [ inl x ↦ inl (a.0 x) | inr x ↦ inr (b.0 x) ]),
    (λ c. elim c [ inl x ↦ either_l p q (a.1 x) | inr x ↦ either_r p q (b.1 x) ]),
  )

  pub both_when : (Is p ↔ P) → (Is q ↔ Q) → Is (both p q) ↔ (P × Q)
  both_when a b = ((λ h. (a.0 (both_l p q h), b.0 (both_r p q h))), (λ c. both_true p q (a.1 c.0) (b.1 c.1)))

pub not_when : {p : Bool} {P : Type 0} → (Is p ↔ P) → Is (no p) ↔ (¬ P)
not_when {p} a = ((λ h x. not_both_ways (a.1 x) (no_false p h)), (λ n. no_true p (fails p (λ h. n (a.0 h)))))

-- not both: the one is wrong, or the other
pub not_both_when : (p q : Bool) {P Q : Type 0} → (Is (no p) ↔ P) → (Is (no q) ↔ Q) → Is (no (both p q)) ↔ (P ⊎ Q)
not_both_when p q a b = (
  (λ h. elim (tell p) [
    | inl x ↦ inr (b.0 (no_true q (fails q (λ y. not_both_ways (both_true p q x y) (no_false _ h)))))
    | inr x ↦ inl (a.0 (no_true p x))
  ]),
  (λ c. elim c [
    | inl x ↦ no_true _ (both_false_l p q (no_false p (a.1 x)))
    | inr x ↦ no_true _ (both_false_r p q (no_false q (b.1 x)))
  ]),
)

-- the first number is another, or the rest is wrong
pub other_when : (a b : ℕ) (q : Bool) {Q : Type 0} → (Is (no q) ↔ Q) → Is (no (both (same a b) q)) ↔ ((¬ (a ≡ b)) ⊎ Q)
other_when a b q r = not_both_when (same a b) q (not_when (same_when a b)) r

-- ---- 1 to 5

pub facts_when : (n : ℕ) → Is (wrong_facts n) ↔ ((n ≡ 0) ⊎ (256 < n))
unfolding wrong_facts
facts_when n = either_when (same_when n 0) (below_when 256 n)

pub steps_when : (m : ℕ) → Is (wrong_steps m) ↔ (1024 < m)
unfolding wrong_steps
steps_when m = below_when 1024 m

pub lengths_when : (t : Tables)
    → Is (no (right_lengths t.steps (length t.needs) (length t.sets) (length t.clears) (length t.costs) (length t.start) (length t.goal)))
    ↔ OtherLength t
unfolding right_lengths
lengths_when t = other_when _ _ _ (other_when _ _ _ (other_when _ _ _ (other_when _ _ _ (other_when _ _ _ (not_when (same_when _ _))))))

past_when : (n : ℕ) (table : List ℕ) → Is (no (only_facts n table)) ↔ HoldsPast n table
unfolding only_facts up_to
past_when n table = (
  (λ h.
      let i = all_not (length table / 4) _ (no_false _ h) in
      let f = within_not 256 _ _ i.2 in (i.0, f.0, i.1, f.2, below_not f.0 n f.3)),
  (λ c. no_true _ (all_fails (length table / 4) _ c.0 c.2
      (within_fails 256 _ _ c.1 (row_lt 4 c.0 table c.1 c.3) c.3 (below_false c.1 n c.4)))),
)

pub sets_when : (t : Tables) → Is (no (right_sets t.facts t.needs t.sets t.clears t.start t.goal)) ↔ SetPast t
unfolding right_sets
sets_when t =
    not_both_when _ _ (past_when _ _)
    (not_both_when _ _ (past_when _ _) (not_both_when _ _ (past_when _ _) (not_both_when _ _ (past_when _ _) (past_when _ _))))

pub costs_when : (t : Tables) → Is (no (right_costs t.costs)) ↔ CostAbove t
costs_when t = rw (costs_all t.costs) (
  (λ h. let s = all_not (length t.costs) _ (no_false _ h) in (s.0, s.1, (below_when 65535 _).0 (opposite _ s.2))),
  (λ c. no_true _ (all_fails (length t.costs) _ c.0 c.1 (no_of _ (below_true 65535 _ c.2)))),
)
  where
    opposite : (p : Bool) → no p ≡ false → Is p
    opposite p e = elim (tell p) [ inl h ↦ h | inr h ↦ not_both_ways (no_true p h) e ]

-- ---- 7, 9 and 10

pub way_when : (t : Tables) → Is (no (goal_holds (view t) (reach (view t)))) ↔ NoWay t
way_when t = ((λ h. (no_way_said (view t)).0 (no_false _ h)), (λ n. no_true _ ((no_way_said (view t)).1 n)))

pub entry_when : (m : ℕ) (w : List ℕ) → Is (below (first_past m w) (length w)) ↔ EntryPast m w
entry_when m w = (
  (λ h. let l = below_at _ _ h in let e = (past_is m w (first_past m w)).0 (refl, l) in (first_past m w, l, e.1)),
  (λ c. elim (compare (first_past m w) (length w)) [
    | inl l ↦ below_true _ _ l
    | inr l ↦ absurd (omega (arith, (past_none m w).0 (omega (arith, past_most m w)) c.0 c.1, c.2))
  ]),
)

pub which_when : (which : ℕ) → Is (below 1 which) ↔ (¬ (which ≡ 0) × ¬ (which ≡ 1))
which_when which = (
  (λ h. let l = below_at 1 which h in ((λ e. omega arith), (λ e. omega arith))),
  (λ c. below_true 1 which (more which c.0 c.1)),
)
  where
    more : (k : ℕ) → ¬ (k ≡ 0) → ¬ (k ≡ 1) → 1 < k
    more zero a b = absurd (a refl)
    more (suc zero) a b = absurd (b refl)
    more (suc (suc k)) a b = omega arith
