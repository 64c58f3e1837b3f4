-- No report is longer than 300,000 bytes: a number below 1,000 is written in three digits at most, the fields of a set are at most as many as the numbers
-- below its bound, a cut holds only steps of the task, and there are at most as many rounds as steps.
use Prim.Native.Nat.{ℕ, zero, suc, ◌+◌, ◌*◌, ◌/◌, ◌%◌, ◌^◌, ◌≤◌, ◌<◌}
use mathlib.Core.Path.{◌≡◌, refl, ap, ◌∙◌}
use mathlib.Core.Bool.{Bool, true, false}
use mathlib.Core.Logic.{inl, inr}
use mathlib.Core.List.{List, [], ◌∷◌, ◌++◌}
use native.Mathlib.Nat.{pow-suc, suc-mul}
use native.Mathlib.Omega.{arith}
use lib.ListN.{length, length-append}
use Rattle.sets.specs.Tests.{pick}
use Rattle.sets.specs.Sets.{Set, members}
use Rattle.sets.proofs.Tests.{tell, compare, pick_true, pick_false}
use Rattle.std.specs.Prelude.{Ok, Err}
use Rattle.task.specs.Refusal.{Verdict, number_of}
use Rattle.report.proofs.Fields.{fields_append}
use Rattle.task.specs.Limits.{limits}
use Rattle.task.specs.Task.{Task}
use Rattle.task.specs.Tables.{Tables, view}
use Rattle.reach.specs.Reach.{reach}
use Rattle.must.specs.Must.{must_facts, must_steps}
use Rattle.must.specs.Answer.{pass_verdict}
use Rattle.task.proofs.Checking.{checked}
use Rattle.distance.proofs.Extremes.{least_mark}
use Rattle.cuts.specs.Cut.{cut_cost, lowest_farthest}
use Rattle.cuts.specs.Rounds.{Round, EachRound, round_of, rounds_from, all_rounds, goal_away, lowered, floor_of}
use Rattle.cuts.specs.Answer.{rounds_of}
use Rattle.cuts.proofs.Choice.{lowest_is_farthest}
use Rattle.cuts.proofs.Rounds.{all_each}
use Rattle.report.specs.Text.{blank, digit, task_word, reach_word, must_word, take_word, cut_word, floor_word, refused_word, number_text, fields, line, task_line, reach_line, must_line, take_line, cut_line, floor_line}
use Rattle.report.specs.Report.{set_lines, cut_lines, round_lines, unless_refused, task_text, report_room, longest_report, report_text}
use Rattle.taskfile.specs.Records.{longest_file}
use Rattle.taskfile.specs.Judging.{file_verdict}
use Rattle.taskfile.specs.Meaning.{file_tables}
use Rattle.taskfile.specs.Answer.{fits_in}
use Rattle.taskfile.proofs.Bytes.{Bytes}
use Rattle.report.proofs.FileLines.{file_few}
use Rattle.report.proofs.Places.{Within, within_more, pass_within, file_within}
use Rattle.report.proofs.TaskLines.{pass_checked}
use Rattle.report.proofs.Numbers.{number_one, number_more}

-- ---- numbers

-- at most so many digits before the last
pub number_short : (d n : ℕ) → n < 10 ^ suc d → length (number_text n) ≤ suc d
number_short zero n l = rw (number_one n (omega arith)) (omega arith)
number_short (suc d) n l =
    elim (compare n 10) [
      | inl s ↦ rw (number_one n s) (omega arith)
      | inr s ↦ rw (number_more n s) (omega (arith, length-append (number_text (n / 10)) (digit (n % 10) ∷ []), number_short d (n / 10) (omega (arith, pow-suc 10 (suc d)))))
    ]

-- ---- fields

fields_more_long : (x : ℕ) (xs : List ℕ) → length (fields (x ∷ xs)) ≡ 1 + length (number_text x) + length (fields xs)
unfolding fields
fields_more_long x xs = length-append (blank ∷ number_text x) (fields xs) ∙ omega arith

fields_none_long : length (fields []) ≡ 0
unfolding fields
fields_none_long = refl

-- the members below n, where each number takes at most `wide` bytes with its blank
members_short : (wide n : ℕ) (X : Set) → ((i : ℕ) → i < n → length (number_text i) < wide) → length (fields (members n X)) ≤ n * wide
unfolding members
members_short wide zero X each = omega (arith, fields_none_long)
members_short wide (suc n) X each =
    let rest = members_short wide n X (λ i l. each i (omega arith)) in
    rw (fields_append (members n X) (pick (X n) (n ∷ []) []), length-append (fields (members n X)) (fields (pick (X n) (n ∷ []) [])), suc-mul n wide)
    (elim (tell (X n)) [
      | inl x ↦ rw (pick_true (n ∷ []) [] x) (omega (arith, rest, fields_more_long n [], fields_none_long, each n (omega arith)))
      | inr x ↦ rw (pick_false (n ∷ []) [] x) (omega (arith, rest, fields_none_long))
    ])

line_long : (word numbers : List ℕ) → length (line word numbers) ≡ length word + length (fields numbers) + 1
unfolding line
line_long word numbers = length-append (word ++ fields numbers) (10 ∷ []) ∙ ap (λ (n : ℕ). n + 1) (length-append word (fields numbers))

-- a word and the members of a set below a number up to 256
members_line : (word : List ℕ) (n : ℕ) (X : Set) → n ≤ 256 → length (line word (members n X)) ≤ length word + 1025
members_line word n X few =
    omega (arith, line_long word (members n X), members_short 4 n X (λ i l. omega (arith, number_short 2 i (omega arith))))

-- ---- the rounds

-- no cut costs more than the mark, which its least begins at
abbrev Priced : Round → Type 0
Priced r = r.cost ≤ limits.mark

cut_short : (m : ℕ) (r : Round) → m ≤ 256 → Priced r → length (cut_line m r.cost r.cut) ≤ 1039
cut_short m r few price =
    omega (
      arith,
      line_long cut_word (r.cost ∷ members m r.cut),
      fields_more_long r.cost (members m r.cut),
      number_short 9 r.cost (omega (arith, price)),
      members_short 4 m r.cut (λ i l. omega (arith, number_short 2 i (omega arith))),
    )

cuts_short : (m : ℕ) (rs : List Round) → m ≤ 256 → EachRound Priced rs → length (cut_lines m rs) ≤ length rs * 1039
unfolding cut_lines
cuts_short m [] few each = omega arith
cuts_short m (r ∷ rs) few each =
    omega (arith, length-append (cut_line m r.cost r.cut) (cut_lines m rs), cut_short m r few each.0, cuts_short m rs few each.1)

floor_small : (rs : List Round) → EachRound Priced rs → floor_of rs ≤ length rs * limits.mark
unfolding floor_of
floor_small [] each = omega arith
floor_small (r ∷ rs) each = omega (arith, each.0, floor_small rs each.1)

module _ (t : Task) where
  rounds_priced : EachRound Priced (rounds_of t).list
  unfolding rounds_of round_of cut_cost
  rounds_priced = all_each lowest_farthest lowest_is_farthest limits.mark t Priced (λ costs away. least_mark _ _ _ t.steps)

  rounds_few : (most : ℕ) (away : Bool) (costs : List ℕ) → length (rounds_from lowest_farthest limits.mark t most away costs).list ≤ most
  unfolding rounds_from
  rounds_few zero true costs = omega arith
  rounds_few zero false costs = omega arith
  rounds_few (suc most) false costs = omega arith
  rounds_few (suc most) true costs =
      let next = lowered t (round_of lowest_farthest limits.mark t costs) costs in omega (arith, rounds_few most (goal_away limits.mark t next) next)

  all_few : length (rounds_of t).list ≤ t.steps
  unfolding rounds_of all_rounds
  all_few = rounds_few t.steps _ _

-- ---- the report on a task

pair_short : (word : List ℕ) (d e a b : ℕ) → a < 10 ^ suc d → b < 10 ^ suc e → length (line word (a ∷ b ∷ [])) ≤ length word + d + e + 5
pair_short word d e a b l h =
    omega (arith, line_long word (a ∷ b ∷ []), fields_more_long a (b ∷ []), fields_more_long b [], fields_none_long, number_short d a l, number_short e b h)

module _ (t : Tables) (few_facts : t.facts ≤ 256) (few_steps : t.steps ≤ 256) where
  sets_short : length (set_lines t) ≤ 3101
  unfolding set_lines
  sets_short =
      let task = task_line t.facts t.steps in
      let reached = reach_line t.facts (reach (view t)) in
      let must = must_line t.facts (must_facts (view t)) in
      let take = take_line t.steps (must_steps (view t)) in
      omega (
        arith,
        length-append (task ++ reached ++ must) take,
        length-append (task ++ reached) must,
        length-append task reached,
        pair_short task_word 2 2 t.facts t.steps (omega arith) (omega arith),
        members_line reach_word t.facts (reach (view t)) few_facts,
        members_line must_word t.facts (must_facts (view t)) few_facts,
        members_line take_word t.steps (must_steps (view t)) few_steps,
      )

  rounds_short : length (round_lines t) ≤ 266004
  unfolding round_lines
  rounds_short =
      let rs = (rounds_of (view t)).list in
      let priced = rounds_priced (view t) in
      omega (
        arith,
        length-append (cut_lines t.steps rs) (floor_line (floor_of rs)),
        cuts_short t.steps rs few_steps priced,
        all_few (view t),
        line_long floor_word (floor_of rs ∷ []),
        fields_more_long (floor_of rs) [],
        fields_none_long,
        number_short 12 (floor_of rs) (omega (arith, floor_small rs priced, all_few (view t))),
      )

-- ---- the report on a file

-- a refusal's line is short
unless_short : (v : Verdict) (text : List ℕ) → Within longest_file v → (v ≡ Ok tt → length text ≤ longest_report) → length (unless_refused v text) ≤ longest_report
unfolding unless_refused
unless_short (Ok done) text within fine = fine refl
unless_short (Err r) text within fine =
    omega (arith, pair_short refused_word 1 4 (number_of r.fault) r.place (omega (arith, within.0)) (omega (arith, within.1)))

task_short : (t : Tables) → t.steps ≤ 256 → length (task_text t) ≤ longest_report
unfolding task_text
task_short t few =
    unless_short (pass_verdict t) (set_lines t ++ round_lines t) (within_more 0 longest_file (pass_verdict t) (omega arith) (pass_within t))
    (λ fine. let sizes = checked t (pass_checked t fine) in
    omega (arith, length-append (set_lines t) (round_lines t), sets_short t sizes.few_facts few, rounds_short t sizes.few_facts few))

-- every report fits a buffer of LONGEST bytes
pub report_short : (file : List ℕ) → Bytes file → length (report_text file) ≤ longest_report
unfolding report_text
report_short file bytes =
    unless_short (file_verdict (fits_in report_room) file) (task_text (file_tables file)) (file_within (fits_in report_room) file)
    (λ fine. task_short (file_tables file) (file_few file bytes fine))
