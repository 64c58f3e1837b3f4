-- The tables that were read hold the task of the file at their beginning, so the report on them is the report on the file.
use Prim.Native.Nat.{ℕ, ◌*◌, ◌≤◌}
use mathlib.Core.Path.{◌≡◌, refl, sym, ap, ◌∙◌}
use mathlib.Core.Bool.{Bool, true, false}
use mathlib.Core.List.{List, [], ◌++◌, append-nil}
use native.Mathlib.Omega.{arith}
use lib.ListN.{length, take, drop, drop_of_length-le}
use lib.Seq.{take_at}
use Rattle.std.specs.Prelude.{Ok, Err}
use Rattle.sets.specs.Tests.{Is, no, both, below}
use Rattle.sets.proofs.Tests.{below_false, below_not, below_iff, no_false}
use Rattle.task.specs.declared.tables.Sizes.{Sizes}
use Rattle.task.specs.Tables.{Tables, tables}
use Rattle.task.specs.Refusal.{Refusal, Verdict, or_else, number_of}
use Rattle.task.specs.Check.{verdict_of}
use Rattle.task.specs.Checked.{Checked}
use Rattle.task.proofs.Refusals.{answered_ok, answered_err}
use Rattle.task.proofs.Checking.{checked}
use Rattle.must.specs.Answer.{pass_verdict}
use Rattle.taskfile.specs.Judging.{file_verdict}
use Rattle.taskfile.specs.Meaning.{contents_in, contents_tables, file_tables}
use Rattle.taskfile.specs.Answer.{fits_in, reading_by, reading_of, read_into}
use Rattle.taskfile.proofs.Bytes.{Bytes}
use Rattle.taskfile.proofs.Soundness.{fine_sound}
use Rattle.taskfile.proofs.Checked.{sound_checks}
use Rattle.report.specs.declared.text.Page.{Page as Lent}
use Rattle.report.specs.Text.{refused_line}
use Rattle.report.specs.Report.{set_lines, round_lines, unless_refused, task_text, steps_room, report_room, report_text}
use Rattle.report.specs.Writing.{Writes, WritesUnless}
use Rattle.report.specs.Workers.{first_steps, report_verdict}
use Rattle.report.proofs.Writing.{writes_on, writes_as}

-- ---- the room

all_same : (p : Bool) → both p (both p (both p (both p (both true true)))) ≡ p
unfolding both
all_same true = refl
all_same false = refl

-- the tables have room for 256 steps and no more
pub room_exact : (m : ℕ) → fits_in report_room m ≡ no (below steps_room m)
unfolding fits_in no
room_exact m = rw (below_iff 1024 (4 * m) 256 m (λ h. omega arith) (λ h. omega arith), below_false 4 4 (omega arith)) (all_same (no (below steps_room m)))

pub room_few : (m : ℕ) → Is (fits_in report_room m) → m ≤ steps_room
room_few m h = below_not steps_room m (no_false _ (sym (room_exact m) ∙ h))

pub file_few : (file : List ℕ) → Bytes file → file_verdict (fits_in report_room) file ≡ Ok tt → (file_tables file).steps ≤ steps_room
unfolding file_tables contents_tables
file_few file bytes fine = room_few (length (contents_in file).blocks) (fine_sound (fits_in report_room) file bytes fine).1

-- its tables pass checking
pub file_checks : (file : List ℕ) → Bytes file → file_verdict (fits_in report_room) file ≡ Ok tt → verdict_of (file_tables file) ≡ Ok tt
unfolding file_tables
file_checks file bytes fine = sound_checks (fine_sound (fits_in report_room) file bytes fine).0

-- ---- what was read

-- what was read stands at the beginning of the table
read_front : (v : Verdict) (words before table : List ℕ) (n : ℕ) → v ≡ Ok tt → table ≡ read_into v words before → length words ≡ n → take n table ≡ words
unfolding read_into
read_front v words before table n fine e long = rw (e, fine) (take_at words (drop (length words) before) n long)

-- and is all of it, where there is no more room
read_whole : (v : Verdict) (words before table : List ℕ) → v ≡ Ok tt → table ≡ read_into v words before → length before ≤ length words → table ≡ words
unfolding read_into
read_whole v words before table fine e full = rw (e, fine, drop_of_length-le before full) (append-nil words)

module _ (file : List ℕ) where
  abbrev verdict : Verdict
  verdict = file_verdict (fits_in report_room) file

  pub file_refused : (r : Refusal) → reading_of report_room file ≡ Err r → report_verdict file ≡ Err r
  unfolding reading_of reading_by or_else
  file_refused r told = rw (answered_err _ verdict told)

  module _ (sizes : Sizes) (told : reading_of report_room file ≡ Ok sizes) where
    pub read_fine : verdict ≡ Ok tt
    unfolding reading_of reading_by
    read_fine = (answered_ok verdict told).0

    read_sizes : sizes ≡ record { facts = (file_tables file).facts; steps = (file_tables file).steps }
    unfolding reading_of reading_by
    read_sizes = sym (answered_ok verdict told).1

    module _ (bytes : Bytes file) where
      fit : Checked (file_tables file)
      fit = checked (file_tables file) (file_checks file bytes read_fine)

      pub read_few : sizes.steps ≤ steps_room
      read_few = omega (arith, file_few file bytes read_fine, ap (λ (s : Sizes). s.steps) read_sizes)

      module _ (needs₀ needs sets₀ sets clears₀ clears costs₀ costs start₀ start goal₀ goal : List ℕ)
          (needs_read : needs ≡ read_into verdict (file_tables file).needs needs₀)
          (sets_read : sets ≡ read_into verdict (file_tables file).sets sets₀)
          (clears_read : clears ≡ read_into verdict (file_tables file).clears clears₀)
          (costs_read : costs ≡ read_into verdict (file_tables file).costs costs₀)
          (start_read : start ≡ read_into verdict (file_tables file).start start₀)
          (goal_read : goal ≡ read_into verdict (file_tables file).goal goal₀)
          (start_full : length start₀ ≤ 4)
          (goal_full : length goal₀ ≤ 4) where
        abbrev room : Tables
        room = tables sizes.facts sizes.steps needs sets clears costs start goal

        tables_read : first_steps room ≡ file_tables file
        tables_read =
            rw (
              read_sizes,
              read_front verdict (file_tables file).needs needs₀ needs (4 * (file_tables file).steps) read_fine needs_read fit.needs_length,
              read_front verdict (file_tables file).sets sets₀ sets (4 * (file_tables file).steps) read_fine sets_read fit.sets_length,
              read_front verdict (file_tables file).clears clears₀ clears (4 * (file_tables file).steps) read_fine clears_read fit.clears_length,
              read_front verdict (file_tables file).costs costs₀ costs (file_tables file).steps read_fine costs_read fit.costs_length,
              read_whole verdict (file_tables file).start start₀ start read_fine start_read (omega (arith, fit.start_length)),
              read_whole verdict (file_tables file).goal goal₀ goal read_fine goal_read (omega (arith, fit.goal_length)),
            )

        -- the verdict on those tables, and what is written of them, are those of the file
        pub file_reported : (t : Tables) (v : Verdict) (p q : Lent) → t ≡ first_steps room → v ≡ pass_verdict t → WritesUnless v (set_lines t ++ round_lines t) p q
            → record { verdict : v ≡ report_verdict file; written : WritesUnless v (set_lines (file_tables file) ++ round_lines (file_tables file)) p q }
        unfolding or_else
        file_reported t v p q cut judged put =
            let same : t ≡ file_tables file = cut ∙ tables_read in
            record {
              verdict = rw read_fine (judged ∙ ap pass_verdict same);
              written = rw same at put;
            }

-- ---- the report

module _ (file : List ℕ) where
  two_verdicts : (v w : Verdict) (text : List ℕ) → unless_refused v (unless_refused w text) ≡ unless_refused (or_else v w) text
  unfolding unless_refused or_else
  two_verdicts (Ok done) w text = refl
  two_verdicts (Err r) w text = refl

  report_told : report_text file ≡ unless_refused (report_verdict file) (set_lines (file_tables file) ++ round_lines (file_tables file))
  unfolding report_text task_text
  report_told = two_verdicts (file_verdict (fits_in report_room) file) (pass_verdict (file_tables file)) _

  -- a refusal is the only line
  pub refused_written : (r : Refusal) (number : ℕ) (p q s : Lent) → Err r ≡ report_verdict file → Writes [] p q → number ≡ number_of r.fault → Writes (refused_line number r.place) q s
      → Writes (report_text file) p s
  unfolding unless_refused
  refused_written r number p q s told none numbered put =
      writes_as _ (report_text file) p s (sym (rw (← told) at report_told))
      (writes_on [] (refused_line (number_of r.fault) r.place) p q s none (rw numbered at put))

  pub fine_written : (p q : Lent) → Ok tt ≡ report_verdict file → Writes (set_lines (file_tables file) ++ round_lines (file_tables file)) p q → Writes (report_text file) p q
  unfolding unless_refused
  fine_written p q told put = writes_as _ (report_text file) p q (sym (rw (← told) at report_told)) put
