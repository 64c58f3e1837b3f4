-- The task that document 01's file of 67 bytes stands for, and what reading it leaves in tables that are longer than it needs: by computing.
use Prim.Native.Nat.{ℕ}
use mathlib.Core.Path.{◌≡◌, refl}
use mathlib.Core.List.{List, [], ◌∷◌}
use Rattle.sets.specs.Tests.{both, either, below, same, pick}
use Rattle.sets.specs.Sets.{one}
use Rattle.sets.specs.Words.{word_of, words_of, table_of}
use Rattle.std.specs.Prelude.{Ok, Err}
use Rattle.task.specs.declared.refusal.Fault.TheVariants.{ShortResult}
use Rattle.task.specs.Refusal.{refusal}
use Rattle.task.specs.Tables.{tables}
use Rattle.taskfile.specs.Records.{number_at, body_length, record_of, found_as, found_at, after_record, records_on, records_in, file_records}
use Rattle.taskfile.specs.Meaning.{first_namings, blocks_in, contents_of, contents_in, some_of, named_for, parts_of, costs_of, step_table, contents_tables, file_tables}
use Rattle.taskfile.specs.Answer.{read_into}

abbrev pub first_bytes : List ℕ
first_bytes = 1 ∷ 5 ∷ 0 ∷ 5 ∷ 0 ∷ 3 ∷ 4 ∷ 0 ∷ 4 ∷ 1 ∷ 0 ∷ 0 ∷ 0 ∷ 6 ∷ 0 ∷ 0 ∷ 4 ∷ 3 ∷ 0 ∷ 0 ∷ 0 ∷ 5 ∷ 0 ∷ 0 ∷ 6 ∷ 1 ∷ 0 ∷ 6 ∷ 2 ∷ 0 ∷ 4 ∷ 1 ∷ 0 ∷ 0 ∷ 0 ∷ 5 ∷ 0 ∷ 0 ∷ 6 ∷ 2 ∷ 0 ∷ 4 ∷ 2 ∷ 0 ∷ 0 ∷ 0 ∷ 5 ∷ 0 ∷ 0 ∷ 6 ∷ 3 ∷ 0 ∷ 4 ∷ 1 ∷ 0 ∷ 0 ∷ 0 ∷ 5 ∷ 2 ∷ 0 ∷ 5 ∷ 3 ∷ 0 ∷ 6 ∷ 4 ∷ 0 ∷ 0 ∷ []

pub first_tables : file_tables first_bytes ≡ tables 5 5
    (0 ∷ 0 ∷ 0 ∷ 0 ∷ 1 ∷ 0 ∷ 0 ∷ 0 ∷ 1 ∷ 0 ∷ 0 ∷ 0 ∷ 1 ∷ 0 ∷ 0 ∷ 0 ∷ 12 ∷ 0 ∷ 0 ∷ 0 ∷ [])
    (1 ∷ 0 ∷ 0 ∷ 0 ∷ 6 ∷ 0 ∷ 0 ∷ 0 ∷ 4 ∷ 0 ∷ 0 ∷ 0 ∷ 8 ∷ 0 ∷ 0 ∷ 0 ∷ 16 ∷ 0 ∷ 0 ∷ 0 ∷ [])
    (0 ∷ 0 ∷ 0 ∷ 0 ∷ 0 ∷ 0 ∷ 0 ∷ 0 ∷ 0 ∷ 0 ∷ 0 ∷ 0 ∷ 0 ∷ 0 ∷ 0 ∷ 0 ∷ 0 ∷ 0 ∷ 0 ∷ 0 ∷ [])
    (1 ∷ 3 ∷ 1 ∷ 2 ∷ 1 ∷ [])
    (0 ∷ 0 ∷ 0 ∷ 0 ∷ [])
    (16 ∷ 0 ∷ 0 ∷ 0 ∷ [])
unfolding file_tables contents_tables contents_in contents_of first_namings blocks_in some_of named_for parts_of costs_of step_table file_records records_in records_on after_record found_at found_as record_of body_length number_at table_of words_of word_of one both either below same pick
first_tables = refl

-- words beyond the task stay, and all of them where the file is refused
pub goal_read : read_into (Ok tt) (file_tables first_bytes).goal (9 ∷ 9 ∷ 9 ∷ 9 ∷ 8 ∷ []) ≡ 16 ∷ 0 ∷ 0 ∷ 0 ∷ 8 ∷ []
unfolding read_into file_tables contents_tables contents_in contents_of first_namings some_of named_for file_records records_in records_on after_record found_at found_as record_of body_length number_at words_of word_of one both either below same pick
goal_read = refl

pub goal_left : read_into (Err (refusal ShortResult 0)) (file_tables first_bytes).goal (9 ∷ 9 ∷ []) ≡ 9 ∷ 9 ∷ []
unfolding read_into
goal_left = refl
