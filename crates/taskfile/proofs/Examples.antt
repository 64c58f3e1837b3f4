-- Document 01's file of 67 bytes, and files at each refusal's border: each by computing.
use Prim.Native.Nat.{ℕ}
use mathlib.Core.Bool.{true, false}
use mathlib.Core.Path.{◌≡◌, refl}
use mathlib.Core.List.{List, [], ◌∷◌}
use Rattle.sets.specs.Tests.{no, both, either, below, same, pick}
use Rattle.std.specs.Prelude.{Ok, Err}
use Rattle.task.specs.declared.refusal.Fault.TheVariants.{FactCount, StepCount, StepCost, ShortResult, RecordKind, CutOff, Misplaced, RecordFact, StepRecords}
use Rattle.task.specs.Refusal.{Verdict, refusal, or_else, first_refusal, answered}
use Rattle.task.specs.Check.{wrong_facts, wrong_steps}
use Rattle.taskfile.specs.Records.{found_at, found_as, record_of, body_length, number_at}
use Rattle.taskfile.specs.Judging.{file_verdict, records_verdict, judged_at, found_judged, went_on, if_fine, onward, record_verdict, numbers_verdict, in_place, fact_in_place, refused_at}

-- judged with room for any number of steps
abbrev pub judged : List ℕ → Verdict
judged file = file_verdict (λ m. true) file

pub first_file : judged (1 ∷ 5 ∷ 0 ∷ 5 ∷ 0 ∷ 3 ∷ 4 ∷ 0 ∷ 4 ∷ 1 ∷ 0 ∷ 0 ∷ 0 ∷ 6 ∷ 0 ∷ 0 ∷ 4 ∷ 3 ∷ 0 ∷ 0 ∷ 0 ∷ 5 ∷ 0 ∷ 0 ∷ 6 ∷ 1 ∷ 0 ∷ 6 ∷ 2 ∷ 0 ∷ 4 ∷ 1 ∷ 0 ∷ 0 ∷ 0 ∷ 5 ∷ 0 ∷ 0 ∷ 6 ∷ 2 ∷ 0 ∷ 4 ∷ 2 ∷ 0 ∷ 0 ∷ 0 ∷ 5 ∷ 0 ∷ 0 ∷ 6 ∷ 3 ∷ 0 ∷ 4 ∷ 1 ∷ 0 ∷ 0 ∷ 0 ∷ 5 ∷ 2 ∷ 0 ∷ 5 ∷ 3 ∷ 0 ∷ 6 ∷ 4 ∷ 0 ∷ 0 ∷ []) ≡ Ok tt
unfolding file_verdict records_verdict judged_at found_judged went_on if_fine onward record_verdict numbers_verdict in_place fact_in_place refused_at or_else first_refusal answered found_at found_as record_of body_length number_at wrong_facts wrong_steps no both either below same pick
first_file = refl

-- no room is 6 at the head
pub no_room : file_verdict (λ m. false) (1 ∷ 5 ∷ 0 ∷ 5 ∷ 0 ∷ []) ≡ Err (refusal ShortResult 0)
unfolding file_verdict records_verdict judged_at found_judged went_on if_fine onward record_verdict numbers_verdict in_place fact_in_place refused_at or_else first_refusal answered found_at found_as record_of body_length number_at wrong_facts wrong_steps no both either below same pick
no_room = refl

-- the empty file
pub empty : judged ([]) ≡ Err (refusal CutOff 0)
unfolding file_verdict records_verdict judged_at found_judged went_on if_fine onward record_verdict numbers_verdict in_place fact_in_place refused_at or_else first_refusal answered found_at found_as record_of body_length number_at wrong_facts wrong_steps no both either below same pick
empty = refl

-- `01 05`
pub cut_head : judged (1 ∷ 5 ∷ []) ≡ Err (refusal CutOff 0)
unfolding file_verdict records_verdict judged_at found_judged went_on if_fine onward record_verdict numbers_verdict in_place fact_in_place refused_at or_else first_refusal answered found_at found_as record_of body_length number_at wrong_facts wrong_steps no both either below same pick
cut_head = refl

-- a lone end
pub lone_end : judged (0 ∷ []) ≡ Err (refusal Misplaced 0)
unfolding file_verdict records_verdict judged_at found_judged went_on if_fine onward record_verdict numbers_verdict in_place fact_in_place refused_at or_else first_refusal answered found_at found_as record_of body_length number_at wrong_facts wrong_steps no both either below same pick
lone_end = refl

-- another record before the head
pub step_first : judged (4 ∷ 1 ∷ 0 ∷ 0 ∷ 0 ∷ []) ≡ Err (refusal Misplaced 0)
unfolding file_verdict records_verdict judged_at found_judged went_on if_fine onward record_verdict numbers_verdict in_place fact_in_place refused_at or_else first_refusal answered found_at found_as record_of body_length number_at wrong_facts wrong_steps no both either below same pick
step_first = refl

-- a kind that there is not
pub unknown_kind : judged (1 ∷ 5 ∷ 0 ∷ 1 ∷ 0 ∷ 8 ∷ 0 ∷ 0 ∷ []) ≡ Err (refusal RecordKind 5)
unfolding file_verdict records_verdict judged_at found_judged went_on if_fine onward record_verdict numbers_verdict in_place fact_in_place refused_at or_else first_refusal answered found_at found_as record_of body_length number_at wrong_facts wrong_steps no both either below same pick
unknown_kind = refl

-- a second head, whatever it holds
pub second_head : judged (1 ∷ 5 ∷ 0 ∷ 1 ∷ 0 ∷ 1 ∷ 0 ∷ 0 ∷ 0 ∷ 0 ∷ []) ≡ Err (refusal Misplaced 5)
unfolding file_verdict records_verdict judged_at found_judged went_on if_fine onward record_verdict numbers_verdict in_place fact_in_place refused_at or_else first_refusal answered found_at found_as record_of body_length number_at wrong_facts wrong_steps no both either below same pick
second_head = refl

-- no facts
pub no_facts : judged (1 ∷ 0 ∷ 0 ∷ 255 ∷ 255 ∷ []) ≡ Err (refusal FactCount 0)
unfolding file_verdict records_verdict judged_at found_judged went_on if_fine onward record_verdict numbers_verdict in_place fact_in_place refused_at or_else first_refusal answered found_at found_as record_of body_length number_at wrong_facts wrong_steps no both either below same pick
no_facts = refl

-- 1,025 steps
pub too_many_steps : judged (1 ∷ 1 ∷ 0 ∷ 1 ∷ 4 ∷ []) ≡ Err (refusal StepCount 0)
unfolding file_verdict records_verdict judged_at found_judged went_on if_fine onward record_verdict numbers_verdict in_place fact_in_place refused_at or_else first_refusal answered found_at found_as record_of body_length number_at wrong_facts wrong_steps no both either below same pick
too_many_steps = refl

-- a start fact after a step, with a number too large
pub late_start : judged (1 ∷ 5 ∷ 0 ∷ 1 ∷ 0 ∷ 4 ∷ 0 ∷ 0 ∷ 0 ∷ 0 ∷ 2 ∷ 9 ∷ 0 ∷ []) ≡ Err (refusal Misplaced 10)
unfolding file_verdict records_verdict judged_at found_judged went_on if_fine onward record_verdict numbers_verdict in_place fact_in_place refused_at or_else first_refusal answered found_at found_as record_of body_length number_at wrong_facts wrong_steps no both either below same pick
late_start = refl

-- a need before any step
pub early_needs : judged (1 ∷ 5 ∷ 0 ∷ 1 ∷ 0 ∷ 5 ∷ 0 ∷ 0 ∷ []) ≡ Err (refusal Misplaced 5)
unfolding file_verdict records_verdict judged_at found_judged went_on if_fine onward record_verdict numbers_verdict in_place fact_in_place refused_at or_else first_refusal answered found_at found_as record_of body_length number_at wrong_facts wrong_steps no both either below same pick
early_needs = refl

-- a step too many that is too dear
pub too_dear : judged (1 ∷ 5 ∷ 0 ∷ 1 ∷ 0 ∷ 4 ∷ 0 ∷ 0 ∷ 0 ∷ 0 ∷ 4 ∷ 0 ∷ 0 ∷ 1 ∷ 0 ∷ []) ≡ Err (refusal StepCost 10)
unfolding file_verdict records_verdict judged_at found_judged went_on if_fine onward record_verdict numbers_verdict in_place fact_in_place refused_at or_else first_refusal answered found_at found_as record_of body_length number_at wrong_facts wrong_steps no both either below same pick
too_dear = refl

-- a step too many
pub step_too_many : judged (1 ∷ 5 ∷ 0 ∷ 1 ∷ 0 ∷ 4 ∷ 0 ∷ 0 ∷ 0 ∷ 0 ∷ 4 ∷ 1 ∷ 0 ∷ 0 ∷ 0 ∷ []) ≡ Err (refusal StepRecords 10)
unfolding file_verdict records_verdict judged_at found_judged went_on if_fine onward record_verdict numbers_verdict in_place fact_in_place refused_at or_else first_refusal answered found_at found_as record_of body_length number_at wrong_facts wrong_steps no both either below same pick
step_too_many = refl

-- a step too many that is cut off
pub cut_step : judged (1 ∷ 5 ∷ 0 ∷ 1 ∷ 0 ∷ 4 ∷ 0 ∷ 0 ∷ 0 ∷ 0 ∷ 4 ∷ 0 ∷ 0 ∷ 1 ∷ []) ≡ Err (refusal CutOff 10)
unfolding file_verdict records_verdict judged_at found_judged went_on if_fine onward record_verdict numbers_verdict in_place fact_in_place refused_at or_else first_refusal answered found_at found_as record_of body_length number_at wrong_facts wrong_steps no both either below same pick
cut_step = refl

-- a fact numbered n
pub fact_n : judged (1 ∷ 5 ∷ 0 ∷ 1 ∷ 0 ∷ 3 ∷ 5 ∷ 0 ∷ []) ≡ Err (refusal RecordFact 5)
unfolding file_verdict records_verdict judged_at found_judged went_on if_fine onward record_verdict numbers_verdict in_place fact_in_place refused_at or_else first_refusal answered found_at found_as record_of body_length number_at wrong_facts wrong_steps no both either below same pick
fact_n = refl

-- too few steps, with a byte after the end
pub too_few : judged (1 ∷ 5 ∷ 0 ∷ 1 ∷ 0 ∷ 0 ∷ 9 ∷ []) ≡ Err (refusal StepRecords 5)
unfolding file_verdict records_verdict judged_at found_judged went_on if_fine onward record_verdict numbers_verdict in_place fact_in_place refused_at or_else first_refusal answered found_at found_as record_of body_length number_at wrong_facts wrong_steps no both either below same pick
too_few = refl

-- a byte after a sound end
pub after_end : judged (1 ∷ 5 ∷ 0 ∷ 1 ∷ 0 ∷ 4 ∷ 0 ∷ 0 ∷ 0 ∷ 0 ∷ 0 ∷ 9 ∷ []) ≡ Err (refusal Misplaced 11)
unfolding file_verdict records_verdict judged_at found_judged went_on if_fine onward record_verdict numbers_verdict in_place fact_in_place refused_at or_else first_refusal answered found_at found_as record_of body_length number_at wrong_facts wrong_steps no both either below same pick
after_end = refl

-- a file that stops between records
pub between : judged (1 ∷ 5 ∷ 0 ∷ 1 ∷ 0 ∷ 4 ∷ 0 ∷ 0 ∷ 0 ∷ 0 ∷ []) ≡ Err (refusal CutOff 10)
unfolding file_verdict records_verdict judged_at found_judged went_on if_fine onward record_verdict numbers_verdict in_place fact_in_place refused_at or_else first_refusal answered found_at found_as record_of body_length number_at wrong_facts wrong_steps no both either below same pick
between = refl
