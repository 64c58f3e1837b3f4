-- What the reader answers and leaves in the tables. A file that is judged fine begins with a head, and its contents are what the records after it say, for
-- which there is room; of one that is refused nothing is written.
use Prim.Native.Nat.{ℕ, ◌*◌, ◌≤◌}
use mathlib.Core.Path.{◌≡◌, sym, ap, ap₂, ◌∙◌}
use mathlib.Core.List.{List, [], ◌∷◌, ◌++◌}
use native.Mathlib.Omega.{arith}
use lib.ListN.{length, drop}
use Rattle.std.specs.Prelude.{Ok, Err}
use Rattle.sets.specs.Tests.{Is}
use Rattle.sets.specs.Sets.{Set}
use Rattle.sets.specs.Words.{words_of, with_row, table_of}
use Rattle.sets.proofs.Tests.{both_l, both_r, no_false, below_not}
use Rattle.sets.proofs.Words.{length_words_of}
use Rattle.sets.proofs.Writing.{write_start, write_next, write_end}
use Rattle.task.specs.Refusal.{Refusal, Verdict, answered}
use Rattle.taskfile.specs.declared.cursor.Room.{Room}
use Rattle.taskfile.specs.declared.format.Part.TheVariants.{Start, Goal, Needs, Sets, Clears}
use Rattle.taskfile.specs.declared.format.Record.TheVariants.{Head}
use Rattle.taskfile.specs.declared.iter.Records.{Records}
use Rattle.taskfile.specs.Records.{Record, file_records}
use Rattle.taskfile.specs.Sound.{Contents, Sound}
use Rattle.taskfile.specs.Meaning.{first_namings, blocks_in, contents_of, contents_in, named_for, costs_of, step_table, contents_tables, file_tables}
use Rattle.taskfile.specs.Judging.{file_verdict}
use Rattle.taskfile.specs.Answer.{fits_in, reading_by, reading_of, read_into}
use Rattle.taskfile.specs.Workers.{records_from, records_left, RoomFor}
use Rattle.taskfile.proofs.Bytes.{Bytes}
use Rattle.taskfile.proofs.Contents.{records_as}
use Rattle.taskfile.proofs.Soundness.{fine_sound, sound_records}

-- an iterator at the beginning has all records of the file left
pub all_left : (file : List ℕ) (records : Records) → records.file.now ≡ file → records.at ≡ 0 → file_records file ≡ records_left records
unfolding file_records records_from
all_left file records f a = sym (ap₂ records_from f a)

-- ---- room for a task of m steps

-- all six lengths
record Fitting (room : Room) (m : ℕ) : Type 0 where
  need_rows : 4 * m ≤ room.needs
  set_rows : 4 * m ≤ room.sets
  clear_rows : 4 * m ≤ room.clears
  cost_list : m ≤ room.costs
  start_row : 4 ≤ room.start
  goal_row : 4 ≤ room.goal

fitting : (room : Room) (m : ℕ) → Is (fits_in room m) → Fitting room m
unfolding fits_in
fitting room m fits =
    let a = both_r _ _ fits in
    let b = both_r _ _ a in
    let c = both_r _ _ b in
    let d = both_r _ _ c in
    record {
      need_rows = below_not _ _ (no_false _ (both_l _ _ fits));
      set_rows = below_not _ _ (no_false _ (both_l _ _ a));
      clear_rows = below_not _ _ (no_false _ (both_l _ _ b));
      cost_list = below_not _ _ (no_false _ (both_l _ _ c));
      start_row = below_not _ _ (no_false _ (both_l _ _ d));
      goal_row = below_not _ _ (no_false _ (both_r _ _ d));
    }

-- ---- a set that is put into a table's first row

pub set_put : (X : Set) (first : List ℕ) {words after : List ℕ} → 4 ≤ length first → words ≡ words_of 4 X → after ≡ with_row 4 0 words first
    → after ≡ read_into (Ok tt) (words_of 4 X) first
unfolding read_into table_of
set_put X first {after = after} room e a =
    write_end (λ s. X) first after 1 1 (omega arith) (omega arith) (write_next (λ s. X) first first 0 1 (omega arith) (omega arith) (write_start _ first) e a)
    ∙ ap (λ (k : ℕ). words_of 4 X ++ drop k first) (sym (length_words_of 4 X))

-- ---- the answer, and the six tables after it

module _ (file : List ℕ) (room : Room) {v : Verdict} (judged : v ≡ file_verdict (fits_in room) file) where
  -- refused: so is the reading, and each table is as it was
  pub not_read : {r : Refusal} → v ≡ Err r → Err r ≡ reading_of room file
  unfolding reading_of reading_by answered
  not_read e = ap (λ (u : Verdict). reading_by u (file_tables file)) (sym e ∙ judged)

  pub stays : {r : Refusal} → v ≡ Err r → (words before : List ℕ) → before ≡ read_into (file_verdict (fits_in room) file) words before
  unfolding read_into
  stays e words before = ap (λ (u : Verdict). read_into u words before) (sym e ∙ judged)

  -- fine: the file is sound, and there is room
  module _ (bytes : Bytes file) (fine : v ≡ Ok tt) where
    accepted : Sound file (contents_in file) × Is (fits_in room (length (contents_in file).blocks))
    accepted = fine_sound (fits_in room) file bytes (sym judged ∙ fine)

    begins : (n : ℕ) × (m : ℕ) × (rest : List Record) × (file_records file ≡ Head n m ∷ rest)
    begins =
        let c = contents_in file in
        (c.facts, length c.blocks, _, sound_records accepted.0 ∙ records_as c)

    -- so a head is first
    pub some_record : file_records file ≡ [] → ⊥
    some_record e = let none = sym begins.3 ∙ e in let z : ◌≡◌ {A = ℕ} 0 1 = cc in omega arith

    pub head_first : (r : Record) (rest : List Record) → file_records file ≡ r ∷ rest → ((n m : ℕ) → ¬ (r ≡ Head n m)) → ⊥
    head_first r rest e other = let both = sym begins.3 ∙ e in let is : Head begins.0 begins.1 ≡ r = cc in other begins.0 begins.1 (sym is)

    module _ {n m : ℕ} {rest : List Record} (first : file_records file ≡ Head n m ∷ rest) where
      contents_are : contents_in file ≡ record { facts = n; firsts = first_namings rest; blocks = blocks_in rest }
      unfolding contents_in contents_of
      contents_are = ap contents_of first

      steps_are : length (contents_in file).blocks ≡ m
      steps_are =
          let c = contents_in file in
          let both = sym (sound_records accepted.0 ∙ records_as c) ∙ first in
          let is : ◌≡◌ {A = Record} (Head c.facts (length c.blocks)) (Head n m) = cc in cc

      fit : Fitting room (length (blocks_in rest))
      fit = fitting room _ (ap (λ (c : Contents). fits_in room (length c.blocks)) (sym contents_are) ∙ accepted.1)

      -- what filling asks for
      pub read_room : (needs sets clears costs : List ℕ) → room.needs ≡ length needs → room.sets ≡ length sets → room.clears ≡ length clears → room.costs ≡ length costs
          → RoomFor (blocks_in rest) needs sets clears costs
      read_room needs sets clears costs a b c d = record {
        need_rows = omega (arith, fit.need_rows);
        set_rows = omega (arith, fit.set_rows);
        clear_rows = omega (arith, fit.clear_rows);
        cost_list = omega (arith, fit.cost_list);
      }

      pub sizes_read : {facts steps : ℕ} → facts ≡ n → steps ≡ m → Ok (record { facts = facts; steps = steps }) ≡ reading_of room file
      unfolding reading_of reading_by answered file_tables contents_tables
      sizes_read {facts} {steps} a b =
          let facts_are : (contents_in file).facts ≡ facts = ap (λ (c : Contents). c.facts) contents_are ∙ sym a in
          ap₂ (λ (k l : ℕ). Ok (record { facts = k; steps = l })) (sym facts_are) (b ∙ sym steps_are)
          ∙ ap (λ (u : Verdict). reading_by u (file_tables file)) (sym fine ∙ judged)

      -- the words of a table of the file
      read_words : (before : List ℕ) {after : List ℕ} (words : Contents → List ℕ)
          → after ≡ read_into (Ok tt) (words (record { facts = n; firsts = first_namings rest; blocks = blocks_in rest })) before
          → after ≡ read_into (file_verdict (fits_in room) file) (words (contents_in file)) before
      read_words before words a =
          a ∙ ap₂ (λ (u : Verdict) (c : Contents). read_into u (words c) before) (sym fine ∙ judged) (sym contents_are)

      module _ (before : List ℕ) {after : List ℕ} where
        pub needs_read : after ≡ read_into (Ok tt) (step_table Needs (blocks_in rest)) before → after ≡ read_into (file_verdict (fits_in room) file) (file_tables file).needs before
        unfolding file_tables contents_tables
        needs_read = read_words before (λ c. step_table Needs c.blocks)

        pub sets_read : after ≡ read_into (Ok tt) (step_table Sets (blocks_in rest)) before → after ≡ read_into (file_verdict (fits_in room) file) (file_tables file).sets before
        unfolding file_tables contents_tables
        sets_read = read_words before (λ c. step_table Sets c.blocks)

        pub clears_read : after ≡ read_into (Ok tt) (step_table Clears (blocks_in rest)) before → after ≡ read_into (file_verdict (fits_in room) file) (file_tables file).clears before
        unfolding file_tables contents_tables
        clears_read = read_words before (λ c. step_table Clears c.blocks)

        pub costs_read : after ≡ read_into (Ok tt) (costs_of (blocks_in rest)) before → after ≡ read_into (file_verdict (fits_in room) file) (file_tables file).costs before
        unfolding file_tables contents_tables
        costs_read = read_words before (λ c. costs_of c.blocks)

        module _ {words : List ℕ} where
          pub start_read : room.start ≡ length before → words ≡ words_of 4 (named_for Start (first_namings rest)) → after ≡ with_row 4 0 words before
              → after ≡ read_into (file_verdict (fits_in room) file) (file_tables file).start before
          unfolding file_tables contents_tables
          start_read l e a = read_words before (λ c. words_of 4 (named_for Start c.firsts)) (set_put _ before (omega (arith, fit.start_row)) e a)

          pub goal_read : room.goal ≡ length before → words ≡ words_of 4 (named_for Goal (first_namings rest)) → after ≡ with_row 4 0 words before
              → after ≡ read_into (file_verdict (fits_in room) file) (file_tables file).goal before
          unfolding file_tables contents_tables
          goal_read l e a = read_words before (λ c. words_of 4 (named_for Goal c.firsts)) (set_put _ before (omega (arith, fit.goal_row)) e a)
