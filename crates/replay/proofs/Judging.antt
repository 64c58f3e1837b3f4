-- Why a walk is judged as document 01 says: each answer from the tests that lead to it. And what is known of a walk that nothing is wrong with.
use Prim.Native.Nat.{ℕ, ◌≤◌, ◌<◌}
use mathlib.Core.Path.{◌≡◌, refl, sym, ap, ◌∙◌}
use mathlib.Core.Bool.{Bool, true, false}
use mathlib.Core.List.{List, [], ◌∷◌}
use mathlib.Core.Logic.{inl, inr, ◌↔◌}
use native.Mathlib.Omega.{arith}
use lib.ListN.{length, get_or}
use Rattle.sets.specs.Tests.{Is, no, below, pick}
use Rattle.sets.specs.Sets.{lowest}
use Rattle.sets.proofs.Tests.{tell, no_of, no_true, no_false, below_true, below_at, below_false, below_not, pick_true, pick_false}
use Rattle.sets.proofs.Sets.{lowest_is, lowest_only}
use Rattle.std.specs.Prelude.{Ok, Err, Some, None, nat_le}
use Rattle.std.specs.List.{position, position_or_len}
use Rattle.std.proofs.lemmas.Bool.{leb-true, leb-false}
use Rattle.std.proofs.lemmas.Grind.{common_steps}
use Rattle.std.proofs.lemmas.List.Quantifiers.{position-Some}
use Rattle.std.proofs.lemmas.List.Sums.{fails_before_first}
use Rattle.task.specs.declared.refusal.Fault.TheVariants.{WalkLength, StepNumber}
use Rattle.task.specs.Tables.{Tables, view}
use Rattle.task.specs.Refusal.{Refusal, Verdict, refusal, first_refusal}
use Rattle.task.specs.Check.{verdict_of}
use Rattle.task.specs.Checked.{Checked}
use Rattle.task.proofs.Refusals.{refuse, skip, none_left, skip_fine, stay, fine_first, fine_rest, fine_if, refused_fine}
use Rattle.task.proofs.Checking.{checked}
use Rattle.replay.specs.Replay.{first_past, refused_past, walk_verdict}
use Rattle.replay.proofs.Walked.{Numbered}

-- ---- the first entry that is m or more

-- a test whose opposite is false is true
no_wrong : (p : Bool) → no p ≡ false → Is p
unfolding no
no_wrong true e = refl
no_wrong false e = sym e

module _ (m : ℕ) (w : List ℕ) where
  -- entry i is the number of a step
  abbrev pub is_step : ℕ → Bool
  is_step i = below (get_or w i 0) m

  -- it is the first such entry, exactly
  pub past_is : (i : ℕ) → ((first_past m w ≡ i) × (i < length w)) ↔ ((i < length w) × (m ≤ get_or w i 0) × ((k : ℕ) → k < i → get_or w k 0 < m))
  unfolding first_past
  past_is i = (there, only)
    where
      there : (lowest (length w) (λ k. no (is_step k)) ≡ i) × (i < length w) → (i < length w) × (m ≤ get_or w i 0) × ((k : ℕ) → k < i → get_or w k 0 < m)
      there h =
          let first = rw h.0 at (lowest_is (length w) (λ k. no (is_step k))) in
          (h.1, below_not _ m (no_false _ (first.member h.1)), (λ k l. below_at _ m (no_wrong (is_step k) (first.least k l))))

      only : (i < length w) × (m ≤ get_or w i 0) × ((k : ℕ) → k < i → get_or w k 0 < m) → (lowest (length w) (λ k. no (is_step k)) ≡ i) × (i < length w)
      only h = (
        sym (lowest_only (length w) (λ k. no (is_step k)) i
            record {
              least = λ k b. no_of (is_step k) (below_true _ m (h.2 k b));
              member = λ b. no_true (is_step i) (below_false _ m h.1);
              most = omega (arith, h.0);
            }),
        h.0,
      )

  -- and the walk's length exactly if there is none
  pub past_none : (first_past m w ≡ length w) ↔ ((k : ℕ) → k < length w → get_or w k 0 < m)
  unfolding first_past
  past_none = (
    (λ e k l. below_at _ m (no_wrong (is_step k) ((rw e at (lowest_is (length w) (λ k. no (is_step k)))).least k l))),
    (λ h.
        sym (lowest_only (length w) (λ k. no (is_step k)) (length w)
        record {
          least = λ k b. no_of (is_step k) (below_true _ m (h k b));
          member = λ b. absurd (omega arith);
          most = omega arith;
        })),
  )

  -- it is never more
  pub past_most : first_past m w ≤ length w
  unfolding first_past
  past_most = (lowest_is (length w) (λ k. no (is_step k))).most

  -- the search for it from the first entry on finds it, or there is none
  pub position_found : {i : ℕ} → Some i ≡ position (nat_le m) w → (first_past m w ≡ i) × (i < length w)
  position_found {i} e =
      let found = position-Some (nat_le m) w i 0 (sym e) in
      (past_is i).1 (found.0, leb-true _ _ found.1, (λ k l. leb-false _ _ (found.2 k l)))

  pub position_missing : None ≡ position (nat_le m) w → length w ≤ first_past m w
  position_missing e =
      let last : length w ≤ position_or_len (nat_le m) w = grind (arith, common_steps) in
      let all_steps = past_none.1 (λ k l. leb-false _ _ (fails_before_first (nat_le m) w k 0 (omega arith))) in
      omega (arith, all_steps)

-- ---- each answer of `check_entries` and `check_walk`

module _ (m : ℕ) (w : List ℕ) where
  pub entries_past : {i : ℕ} → Some i ≡ position (nat_le m) w → Err (refusal StepNumber i) ≡ refused_past m w
  unfolding refused_past
  entries_past e =
      let first = position_found m w e in
      sym (pick_true (Err (refusal StepNumber (first_past m w))) (Ok tt) (below_true _ (length w) (omega (arith, first.0, first.1)))
      ∙ ap (λ (i : ℕ). Err (refusal StepNumber i)) first.0)

  pub entries_fine : None ≡ position (nat_le m) w → Ok tt ≡ refused_past m w
  unfolding refused_past
  entries_fine e = sym (pick_false _ (Ok tt) (below_false _ (length w) (position_missing m w e)))

module _ (t : Tables) (w : List ℕ) where
  -- 1 to 5: the task's own
  pub walk_task : {r : Refusal} → verdict_of t ≡ Err r → walk_verdict t w ≡ Err r
  unfolding walk_verdict
  walk_task e = stay _ e ∙ e

  module _ (fine : verdict_of t ≡ Ok tt) where
    -- 8: too many entries
    pub walk_long : 65535 < length w → walk_verdict t w ≡ Err (refusal WalkLength 0)
    unfolding walk_verdict
    walk_long h = skip_fine _ fine ∙ refuse WalkLength _ (below_true 65535 _ h)

    module _ (short : length w ≤ 65535) where
      -- otherwise 9 is left
      length_passes : walk_verdict t w ≡ first_refusal (refused_past t.steps w ∷ [])
      unfolding walk_verdict
      length_passes = skip_fine _ fine ∙ skip WalkLength _ (below_false 65535 _ short)

      pub walk_past : first_past t.steps w < length w → walk_verdict t w ≡ Err (refusal StepNumber (first_past t.steps w))
      unfolding refused_past
      walk_past l =
          let there = pick_true (Err (refusal StepNumber (first_past t.steps w))) (Ok tt) (below_true _ (length w) l) in length_passes ∙ stay [] there ∙ there

      pub walk_fine : length w ≤ first_past t.steps w → walk_verdict t w ≡ Ok tt
      unfolding refused_past
      walk_fine l = length_passes ∙ skip_fine [] (pick_false _ (Ok tt) (below_false _ (length w) l)) ∙ none_left

-- ---- what is known where nothing is wrong

pub record Judged (t : Tables) (w : List ℕ) : Type 0 where
  pub task : Checked t
  pub short : length w ≤ 65535
  pub numbered : Numbered (view t) w

-- it follows from the verdict
pub judged : (t : Tables) (w : List ℕ) → walk_verdict t w ≡ Ok tt → Judged t w
unfolding walk_verdict refused_past
judged t w e =
    let after_task = fine_rest _ _ e in
    let past = fine_first _ _ (fine_rest _ _ after_task) in
    record {
      task = checked t (fine_first _ _ e);
      short = below_not 65535 _ (fine_if _ WalkLength (fine_first _ _ after_task));
      numbered = (past_none t.steps w).0 (none_past past);
    }
  where
    none_past : ◌≡◌ {A = Verdict} (pick (below (first_past t.steps w) (length w)) (Err (refusal StepNumber (first_past t.steps w))) (Ok tt)) (Ok tt) → first_past t.steps w ≡ length w
    none_past p =
        elim (tell (below (first_past t.steps w) (length w))) [
          | inl b ↦ refused_fine (sym (pick_true (Err (refusal StepNumber (first_past t.steps w))) (Ok tt) b) ∙ p)
          | inr b ↦ omega (arith, below_not _ (length w) b, past_most t.steps w)
        ]
