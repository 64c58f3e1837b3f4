-- When a replay refuses and when it answers, exactly: the lowest refusal that applies is given, and the walk is looked at only where none does.
use Prim.Native.Nat.{ℕ, ◌≤◌, ◌<◌}
use mathlib.Core.Path.{◌≡◌, refl, sym, ap, ◌∙◌}
use mathlib.Core.List.{List}
use mathlib.Core.Logic.{inl, inr, ◌↔◌}
use native.Mathlib.Omega.{arith}
use lib.ListN.{length, get_or}
use Rattle.sets.specs.Tests.{Is}
use Rattle.sets.specs.Sets.{none}
use Rattle.sets.specs.Words.{has, words_of}
use Rattle.sets.proofs.Tests.{compare}
use Rattle.std.specs.Prelude.{Result, Ok, Err}
use Rattle.task.specs.declared.refusal.Fault.TheVariants.{WalkLength, StepNumber}
use Rattle.task.specs.Tables.{Tables, view}
use Rattle.task.specs.Walks.{real_walk, walk_cost}
use Rattle.task.specs.Check.{verdict_of}
use Rattle.task.specs.Refusal.{Refusal, number_of, refusal, answered}
use Rattle.task.proofs.Refusals.{answered_ok, ok_not_err}
use Rattle.replay.specs.declared.Replayed.{Replayed}
use Rattle.replay.specs.declared.Replayed.TheVariants.{Done}
use Rattle.replay.specs.Replay.{walked, first_past, walk_verdict, replayed_of}
use Rattle.replay.proofs.Walked.{Numbered, done_is}
use Rattle.replay.specs.Rows.{task_without}
use Rattle.replay.proofs.Following.{all_followed}
use Rattle.replay.proofs.Judging.{past_is, past_none, walk_task, walk_long, walk_past, walk_fine, judged}

-- two refusals that are one answer are one
same_refusal : {r s : Refusal} → ◌≡◌ {A = Result Replayed Refusal} (Err r) (Err s) → r ≡ s
same_refusal e = cc

module _ (t : Tables) (w : List ℕ) where
  -- what is wrong is refused
  pub replay_refused : {r : Refusal} → walk_verdict t w ≡ Err r → replayed_of t w ≡ Err r
  unfolding replayed_of answered
  replay_refused e = rw e refl

  -- 1 to 5: what is wrong with the task is refused whatever the walk is
  pub refused_task : {r : Refusal} → verdict_of t ≡ Err r → replayed_of t w ≡ Err r
  refused_task e = replay_refused (walk_task t w e)

  module _ (fine : verdict_of t ≡ Ok tt) where
    -- no refusal applies: the answer is that of the walk
    pub replayed_walked : length w ≤ 65535 → Numbered (view t) w → replayed_of t w ≡ Ok (walked (view t) w)
    unfolding replayed_of answered
    replayed_walked l n =
        let none : first_past t.steps w ≡ length w = (past_none t.steps w).1 n in rw (walk_fine t w fine l (omega arith)) refl

    -- an entry that is no step's number is refused
    refused_entry : length w ≤ 65535 → first_past t.steps w < length w → replayed_of t w ≡ Err (refusal StepNumber (first_past t.steps w))
    refused_entry l p = replay_refused (walk_past t w fine l p)

    -- where there is none nothing is refused
    not_refused : length w ≤ 65535 → length w ≤ first_past t.steps w → {r : Refusal} → ¬ (replayed_of t w ≡ Err r)
    unfolding replayed_of answered
    not_refused l q e = ok_not_err (rw (walk_fine t w fine l q) at e)

    -- 8: the walk has more than 65,535 entries
    pub long_is : (replayed_of t w ≡ Err (refusal WalkLength 0)) ↔ (65535 < length w)
    long_is = (only, (λ l. replay_refused (walk_long t w fine l)))
      where
        only : replayed_of t w ≡ Err (refusal WalkLength 0) → 65535 < length w
        only e =
            elim (compare 65535 (length w)) [
              | inl l ↦ l
              | inr l ↦
                  elim (compare (first_past t.steps w) (length w)) [
                    | inl p ↦ absurd (omega (arith, ap (λ (r : Refusal). number_of r.fault) (same_refusal (sym e ∙ refused_entry l p))))
                    | inr p ↦ absurd (not_refused l p e)
                  ]
            ]

    -- 9: an entry is no step's number; the place is that of the first such entry, also where the walk is stuck before it
    pub past_refused_is : length w ≤ 65535 → (i : ℕ)
        → (replayed_of t w ≡ Err (refusal StepNumber i)) ↔ ((i < length w) × (t.steps ≤ get_or w i 0) × ((k : ℕ) → k < i → get_or w k 0 < t.steps))
    past_refused_is l i = (only, there)
      where
        only : replayed_of t w ≡ Err (refusal StepNumber i) → (i < length w) × (t.steps ≤ get_or w i 0) × ((k : ℕ) → k < i → get_or w k 0 < t.steps)
        only e =
            elim (compare (first_past t.steps w) (length w)) [
              | inl p ↦
                  let same : first_past t.steps w ≡ i = ap (λ (r : Refusal). r.place) (same_refusal (sym (refused_entry l p) ∙ e)) in
                  (past_is t.steps w i).0 (same, omega arith)
              | inr p ↦ absurd (not_refused l p e)
            ]

        there : (i < length w) × (t.steps ≤ get_or w i 0) × ((k : ℕ) → k < i → get_or w k 0 < t.steps) → replayed_of t w ≡ Err (refusal StepNumber i)
        there h = let first = (past_is t.steps w i).1 h in rw first.0 at (refused_entry l (omega (arith, first.0, first.1)))

  -- done, exactly: nothing is refused, and the walk is a real walk of that cost
  pub replayed_done_is : (cost : ℕ)
      → (replayed_of t w ≡ Ok (Done cost)) ↔ ((walk_verdict t w ≡ Ok tt) × Is (real_walk (view t) w) × (walk_cost (view t) w ≡ cost))
  unfolding replayed_of answered
  replayed_done_is cost = (
    (λ e.
        let a = answered_ok (walk_verdict t w) e in
        let real = (done_is (view t) w (judged t w a.0).numbered cost).0 a.1 in (a.0, real.0, real.1)),
    (λ h. rw h.0 (ap Ok ((done_is (view t) w (judged t w h.0).numbered cost).1 (h.1, h.2)))),
  )

-- with no step off, following a walk that nothing is wrong with gives the answer for the tables
pub all_answered : (t : Tables) (w : List ℕ) → walk_verdict t w ≡ Ok tt → {off : List ℕ} → off ≡ words_of 16 none → {r : Replayed}
    → r ≡ walked (task_without t (has off)) w → Ok r ≡ replayed_of t w
unfolding replayed_of answered
all_answered t w fine none_off e = rw fine (ap Ok (e ∙ all_followed t none_off w))
