-- Demand 1, word by word: "Any tables, any file and any order of calls end in an answer or in a numbered refusal. No caller need have checked first. After a
-- refusal, every lent table is as it was before the call." It holds because each verdict lists its refusals in document 01's order, and what is written follows
-- the verdict. What is said of a call speaks of its own arguments alone, whatever they are, so that no call asks for another before it.
use Prim.Native.Nat.{ℕ, ◌*◌, ◌<◌}
use mathlib.Core.Path.{◌≡◌, refl, sym, ap, ◌∙◌}
use mathlib.Core.List.{List, [], ◌∷◌, ◌++◌}
use mathlib.Core.Logic.{◌⊎◌, inl, inr, ◌↔◌}
use lib.ListN.{length}
use Rattle.std.specs.Prelude.{Contains, Ok, Err}
use Rattle.sets.specs.Tests.{Is}
use Rattle.sets.proofs.Tests.{below_at, pick_true, pick_false}
use Rattle.task.specs.declared.refusal.Fault.TheVariants as fault
use Rattle.task.specs.Tables.{Tables, view}
use Rattle.task.specs.Refusal.{Refusal, Verdict, number_of, refusal, answered}
use Rattle.task.specs.Check.{sizes_verdict, verdict_of}
use Rattle.task.specs.Row.{row_verdict, handed_out}
use Rattle.reach.specs.Answer.{reached_of}
use Rattle.distance.specs.Answer.{distances_verdict, written_by, distances_written}
use Rattle.must.specs.Must.{must_row, just_before}
use Rattle.must.specs.Answer.{rows_verdict, rows_written, pass_verdict, passed_of, taken_of}
use Rattle.cuts.specs.Answer.{cuts_verdict, cutting_by, cuts_written, prices_written, left_written}
use Rattle.replay.specs.Replay.{first_past, refused_past, walked, walk_verdict, replayed_of}
use Rattle.replay.proofs.Judging.{past_is}
use Rattle.taskfile.specs.declared.cursor.Room.{Room}
use Rattle.taskfile.specs.Sound.{Contents, Sound}
use Rattle.taskfile.specs.Judging.{file_verdict}
use Rattle.taskfile.specs.Answer.{fits_in, reading_by, reading_of, read_into}
use Rattle.taskfile.proofs.Bytes.{Bytes}
use Rattle.taskfile.proofs.Soundness.{accepts}
use Rattle.examples.specs.Refusals.{Rule, rule, numbers_of, FirstPast, FileJudged, Judged, refused_by, AtZero, Untouched, size_refusals, task_refusals, table_refusals, pass_refusals, cut_refusals, walk_refusals, row_refusals}
use Rattle.examples.proofs.Lowest.{Lowest, lowest_none, lowest_if, lowest_join, lowest_next, judged, places_of, zeros, at_zero, last_place}
use Rattle.examples.proofs.FileRefusals.{file_judged}
use Rattle.examples.proofs.Conditions.{below_when, either_when, not_below_when, not_when, same_when, other_when, facts_when, steps_when, lengths_when, sets_when, costs_when, way_when, entry_when, which_when}

-- ---- the statements

-- an answer or a refusal of one of these numbers: the lowest that applies, exactly when it does, at place 0
abbrev pub Ends : List ℕ → List Rule → Verdict → Type 0
Ends numbers qs v = Judged numbers qs v × AtZero v

pub record Demand1 : Type 0 where
  -- checking and reach
  pub check : (t : Tables) → Ends (1 ∷ 2 ∷ 3 ∷ 4 ∷ 5 ∷ []) (task_refusals t) (verdict_of t)
  pub reach : (t : Tables) → Ends (1 ∷ 2 ∷ 3 ∷ 4 ∷ 5 ∷ []) (task_refusals t) (refused_by (reached_of t))
  -- distances, and the table lent for them
  pub distances : (t : Tables) (out : List ℕ)
      → Ends (1 ∷ 2 ∷ 3 ∷ 4 ∷ 5 ∷ 6 ∷ []) (table_refusals t (length out) t.facts) (distances_verdict t (length out))
  pub distances_table : (t : Tables) (out : List ℕ) → Untouched (distances_verdict t (length out)) out (distances_written t out)
  -- must rows and just-before rows, and the table lent for them
  pub rows : (t : Tables) (out : List ℕ)
      → Ends (1 ∷ 2 ∷ 3 ∷ 4 ∷ 5 ∷ 6 ∷ []) (table_refusals t (length out) (4 * t.facts)) (rows_verdict t (length out))
  pub must_rows_table : (t : Tables) (out : List ℕ)
      → Untouched (rows_verdict t (length out)) out (rows_written (rows_verdict t (length out)) t.facts (must_row (view t)) out)
  pub just_before_table : (t : Tables) (out : List ℕ)
      → Untouched (rows_verdict t (length out)) out (rows_written (rows_verdict t (length out)) t.facts (just_before (view t)) out)
  -- must-pass facts and steps
  pub must_pass : (t : Tables) → Ends (1 ∷ 2 ∷ 3 ∷ 4 ∷ 5 ∷ 7 ∷ []) (pass_refusals t) (refused_by (passed_of t))
  pub must_take : (t : Tables) → Ends (1 ∷ 2 ∷ 3 ∷ 4 ∷ 5 ∷ 7 ∷ []) (pass_refusals t) (refused_by (taken_of t))
  -- cuts, and the tables lent for them, for their costs and for the costs left
  pub cuts : (t : Tables) (rows prices left : List ℕ)
      → Ends (1 ∷ 2 ∷ 3 ∷ 4 ∷ 5 ∷ 6 ∷ 7 ∷ []) (cut_refusals t (length rows) (length prices) (length left))
      (refused_by (cutting_by (cuts_verdict t (length rows) (length prices) (length left)) (view t)))
  pub cuts_tables : (t : Tables) (rows prices left : List ℕ)
      → let v = cuts_verdict t (length rows) (length prices) (length left) in
      Untouched v rows (cuts_written v (view t) rows) × Untouched v prices (prices_written v (view t) prices) × Untouched v left (left_written v (view t) left)
  -- replaying a walk: at place 0, but for 9, which is at the first entry that is m or more
  pub replay : (t : Tables) (w : List ℕ) → Judged (1 ∷ 2 ∷ 3 ∷ 4 ∷ 5 ∷ 8 ∷ 9 ∷ []) (walk_refusals t w) (refused_by (replayed_of t w))
  pub replay_place : (t : Tables) (w : List ℕ) (r : Refusal) → replayed_of t w ≡ Err r
      → (Contains (1 ∷ 2 ∷ 3 ∷ 4 ∷ 5 ∷ 8 ∷ []) (number_of r.fault) × (r.place ≡ 0)) ⊎ ((r.fault ≡ fault.StepNumber) × FirstPast t.steps w r.place)
  -- the row of a step, and the part handed out: an empty one where it is refused
  pub row : (n m : ℕ) (needs sets : List ℕ) (step which : ℕ)
      → Ends (1 ∷ 2 ∷ 3 ∷ 9 ∷ 10 ∷ []) (row_refusals n m needs sets step which) (row_verdict n m needs sets step which)
  pub row_part : (n m : ℕ) (needs sets : List ℕ) (step which : ℕ) (r : Refusal) → row_verdict n m needs sets step which ≡ Err r
      → handed_out (row_verdict n m needs sets step which) step which needs sets ≡ []
  -- the reader of a file: it reads exactly the sound files whose steps there is room for; and each of the six tables lent for it, whatever it was to hold
  pub read : (room : Room) (file : List ℕ) → FileJudged file (refused_by (reading_of room file))
  pub read_sound : (room : Room) (file : List ℕ) → Bytes file
      → (refused_by (reading_of room file) ≡ Ok tt) ↔ ((c : Contents) × Sound file c × Is (fits_in room (length c.blocks)))
  pub read_table : (room : Room) (file words out : List ℕ)
      → Untouched (file_verdict (fits_in room) file) out (read_into (file_verdict (fits_in room) file) words out)

-- ---- why they hold

sizes_lowest : (n m : ℕ) → Lowest (size_refusals n m) (sizes_verdict n m)
unfolding sizes_verdict
sizes_lowest n m = lowest_next fault.FactCount _ (facts_when n) (lowest_next fault.StepCount _ (steps_when m) lowest_none)

task_lowest : (t : Tables) → Lowest (task_refusals t) (verdict_of t)
unfolding verdict_of
task_lowest t =
    lowest_join _ _ (sizes_lowest t.facts t.steps)
    (lowest_next fault.TableLength _ (lengths_when t) (lowest_next fault.FactNumber _ (sets_when t) (lowest_next fault.StepCost _ (costs_when t) lowest_none)))

-- those that an operation gives after checking
module _ (t : Tables) where
  distances_lowest : (room : ℕ) → Lowest (table_refusals t room t.facts) (distances_verdict t room)
  unfolding distances_verdict
  distances_lowest room = lowest_join _ _ (task_lowest t) (lowest_next fault.ShortResult _ (below_when room t.facts) lowest_none)

  rows_lowest : (room : ℕ) → Lowest (table_refusals t room (4 * t.facts)) (rows_verdict t room)
  unfolding rows_verdict
  rows_lowest room = lowest_join _ _ (task_lowest t) (lowest_next fault.ShortResult _ (below_when room (4 * t.facts)) lowest_none)

  pass_lowest : Lowest (pass_refusals t) (pass_verdict t)
  unfolding pass_verdict
  pass_lowest = lowest_join _ _ (task_lowest t) (lowest_next fault.NoWay _ (way_when t) lowest_none)

  cuts_lowest : (words prices left : ℕ) → Lowest (cut_refusals t words prices left) (cuts_verdict t words prices left)
  unfolding cuts_verdict
  cuts_lowest words prices left =
      lowest_join _ _ (task_lowest t)
      (lowest_next fault.ShortResult _ (either_when (below_when _ _) (either_when (below_when _ _) (below_when _ _))) (lowest_next fault.NoWay _ (way_when t) lowest_none))

  walk_lowest : (w : List ℕ) → Lowest (walk_refusals t w) (walk_verdict t w)
  unfolding walk_verdict refused_past
  walk_lowest w =
      lowest_join _ _ (task_lowest t)
      (lowest_next fault.WalkLength _ (below_when _ _)
      (lowest_join _ [] (lowest_if (refusal fault.StepNumber (first_past t.steps w)) (entry_when t.steps w) (λ h. pick_true _ _ h) (λ h. pick_false _ _ h)) lowest_none))

row_lowest : (n m : ℕ) (needs sets : List ℕ) (step which : ℕ) → Lowest (row_refusals n m needs sets step which) (row_verdict n m needs sets step which)
unfolding row_verdict
row_lowest n m needs sets step which =
    lowest_join _ _ (sizes_lowest n m)
    (lowest_next fault.TableLength _ (other_when _ _ _ (not_when (same_when _ _)))
    (lowest_next fault.StepNumber _ (not_below_when step m) (lowest_next fault.RowKind _ (which_when which) lowest_none)))

-- ---- what an operation refuses is its verdict

answered_verdict : {A : Type 0} (v : Verdict) (value : A) → refused_by (answered v value) ≡ v
unfolding answered
answered_verdict (Ok done) value = refl
answered_verdict (Err r) value = refl

-- ---- all of it

ends : {numbers : List ℕ} {qs : List Rule} {v u : Verdict} → numbers_of qs ≡ numbers → places_of qs ≡ zeros qs → u ≡ v → Lowest qs v → Ends numbers qs u
ends n p e l = rw e (judged n l, at_zero p l)

pub demand1 : Demand1
unfolding reached_of replayed_of distances_written written_by rows_written passed_of taken_of cutting_by cuts_written prices_written left_written handed_out reading_of
    reading_by read_into
demand1 = record {
  check = λ t. ends refl refl refl (task_lowest t);
  reach = λ t. ends refl refl (answered_verdict (verdict_of t) _) (task_lowest t);
  distances = λ t out. ends refl refl refl (distances_lowest t (length out));
  distances_table = λ t out r e. rw e;
  rows = λ t out. ends refl refl refl (rows_lowest t (length out));
  must_rows_table = λ t out r e. rw e;
  just_before_table = λ t out r e. rw e;
  must_pass = λ t. ends refl refl (answered_verdict (pass_verdict t) _) (pass_lowest t);
  must_take = λ t. ends refl refl (answered_verdict (pass_verdict t) _) (pass_lowest t);
  cuts = λ t rows prices left. ends refl refl (answered_verdict _ _) (cuts_lowest t (length rows) (length prices) (length left));
  cuts_tables = λ t rows prices left. ((λ r e. rw e), (λ r e. rw e), (λ r e. rw e));
  replay = λ t w. rw (answered_verdict (walk_verdict t w) (walked (view t) w)) (judged refl (walk_lowest t w));
  replay_place = place;
  row = λ n m needs sets step which. ends refl refl refl (row_lowest n m needs sets step which);
  row_part = λ n m needs sets step which r e. rw e;
  read = λ room file. rw (answered_verdict (file_verdict (fits_in room) file) _) (file_judged (fits_in room) file);
  read_sound = λ room file bytes. rw (answered_verdict (file_verdict (fits_in room) file) _) (accepts (fits_in room) file bytes);
  read_table = λ room file words out r e. rw e;
}
  where
    place : (t : Tables) (w : List ℕ) (r : Refusal) → replayed_of t w ≡ Err r
        → (Contains (1 ∷ 2 ∷ 3 ∷ 4 ∷ 5 ∷ 8 ∷ []) (number_of r.fault) × (r.place ≡ 0)) ⊎ ((r.fault ≡ fault.StepNumber) × FirstPast t.steps w r.place)
    place t w r e =
        let first = ((walk_lowest t w).refuses r).0 (sym (answered_verdict (walk_verdict t w) (walked (view t) w)) ∙ ap refused_by e) in
        elim (last_place r (task_refusals t ++ rule fault.WalkLength (65535 < length w) ∷ []) _ refl first) [
          | inl z ↦ inl z
          | inr z ↦ inr (
            ap (λ (d : Refusal). d.fault) (sym z.1),
            rw (ap (λ (d : Refusal). d.place) z.1) at ((past_is t.steps w _).0 (refl, below_at _ _ ((entry_when t.steps w).1 z.0))),
          )
        ]
