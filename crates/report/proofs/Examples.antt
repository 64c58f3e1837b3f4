-- Reports computed: of the example of document 01, whose file of 67 bytes has nine lines, and of three small files.
use Prim.Native.Nat.{ℕ}
use mathlib.Core.Path.{◌≡◌, refl}
use mathlib.Core.List.{List, [], ◌∷◌}
use Rattle.sets.specs.Tests.{no, both, either, implies, below, same, pick}
use Rattle.sets.specs.Sets.{joined, removed, all, any, within, one, lowest, members, up_to}
use Rattle.sets.specs.Words.{bit, has, word_of, words_of, row, table_of}
use Rattle.task.specs.Refusal.{refused_if, or_else, first_refusal, answered}
use Rattle.task.specs.Check.{wrong_facts, wrong_steps, right_lengths, only_facts, right_sets, right_costs, sizes_verdict, verdict_of}
use Rattle.task.specs.Walks.{possible, goal_holds}
use Rattle.reach.specs.Least.{held, pass, quiet, repeated, least}
use Rattle.reach.specs.Reach.{made, closure, reach}
use Rattle.must.specs.Labels.{on_every_way}
use Rattle.must.specs.Must.{must_row, goal_union, must_facts, must_steps}
use Rattle.must.specs.Answer.{pass_verdict}
use Rattle.distance.specs.Distance.{largest, least as least_of, list_of, through_step, right_side, rounds, distances, distance, set_distance, goal_distance}
use Rattle.cuts.specs.Cut.{lowest_farthest, counted, arc_into, free_tails, zone, heads_outside, region, cut, chosen_needs, goal_choice, cut_of, cut_cost}
use Rattle.cuts.specs.Rounds.{given_costs, goal_away, lowered, round_of, rounds_from, all_rounds, floor_of}
use Rattle.cuts.specs.Answer.{rounds_of}
use Rattle.taskfile.specs.Records.{found_as, number_at, body_length, record_of, found_at, after_record, records_on, records_in, file_records}
use Rattle.taskfile.specs.Judging.{refused_at, fact_in_place, in_place, numbers_verdict, record_verdict, went_on, if_fine, found_judged, judged_at, onward, records_verdict, file_verdict}
use Rattle.taskfile.specs.Meaning.{first_namings, blocks_in, contents_of, contents_in, some_of, named_for, parts_of, costs_of, step_table, contents_tables, file_tables}
use Rattle.taskfile.specs.Answer.{fits_in}
use Rattle.report.specs.Text.{digits_of, number_text, fields, line, refused_line}
use Rattle.report.specs.Report.{set_lines, cut_lines, round_lines, unless_refused, task_text, report_text}

abbrev pub example_file : List ℕ
example_file =
    1 ∷ 5 ∷ 0 ∷ 5 ∷ 0 ∷ 3 ∷ 4 ∷ 0 ∷ 4 ∷ 1 ∷ 0 ∷ 0 ∷ 0 ∷ 6 ∷ 0 ∷ 0 ∷ 4 ∷ 3 ∷ 0 ∷ 0 ∷ 0 ∷ 5 ∷ 0 ∷ 0 ∷ 6 ∷ 1 ∷ 0 ∷ 6 ∷ 2 ∷ 0 ∷ 4 ∷ 1 ∷ 0 ∷ 0 ∷ 0 ∷ 5 ∷
    0 ∷ 0 ∷ 6 ∷ 2 ∷ 0 ∷ 4 ∷ 2 ∷ 0 ∷ 0 ∷ 0 ∷ 5 ∷ 0 ∷ 0 ∷ 6 ∷ 3 ∷ 0 ∷ 4 ∷ 1 ∷ 0 ∷ 0 ∷ 0 ∷ 5 ∷ 2 ∷ 0 ∷ 5 ∷ 3 ∷ 0 ∷ 6 ∷ 4 ∷ 0 ∷ 0 ∷ []

-- "task 5 5" to "floor 5"
abbrev pub example_text : List ℕ
example_text =
    116 ∷ 97 ∷ 115 ∷ 107 ∷ 32 ∷ 53 ∷ 32 ∷ 53 ∷ 10 ∷ 114 ∷ 101 ∷ 97 ∷ 99 ∷ 104 ∷ 32 ∷ 48 ∷ 32 ∷ 49 ∷ 32 ∷ 50 ∷ 32 ∷ 51 ∷ 32 ∷ 52 ∷ 10 ∷ 109 ∷ 117 ∷
    115 ∷ 116 ∷ 32 ∷ 48 ∷ 32 ∷ 50 ∷ 32 ∷ 51 ∷ 32 ∷ 52 ∷ 10 ∷ 116 ∷ 97 ∷ 107 ∷ 101 ∷ 32 ∷ 48 ∷ 32 ∷ 51 ∷ 32 ∷ 52 ∷ 10 ∷ 99 ∷ 117 ∷ 116 ∷ 32 ∷ 49 ∷
    32 ∷ 52 ∷ 10 ∷ 99 ∷ 117 ∷ 116 ∷ 32 ∷ 50 ∷ 32 ∷ 51 ∷ 10 ∷ 99 ∷ 117 ∷ 116 ∷ 32 ∷ 49 ∷ 32 ∷ 49 ∷ 32 ∷ 50 ∷ 10 ∷ 99 ∷ 117 ∷ 116 ∷ 32 ∷ 49 ∷ 32 ∷ 48 ∷
    10 ∷ 102 ∷ 108 ∷ 111 ∷ 111 ∷ 114 ∷ 32 ∷ 53 ∷ 10 ∷ []

-- one fact, which starts and is the goal, and no steps: the word "take" stands alone, and there is no round
abbrev pub start_file : List ℕ
start_file =
    1 ∷ 1 ∷ 0 ∷ 0 ∷ 0 ∷ 2 ∷ 0 ∷ 0 ∷ 3 ∷ 0 ∷ 0 ∷ 0 ∷ []

abbrev pub start_text : List ℕ
start_text =
    116 ∷ 97 ∷ 115 ∷ 107 ∷ 32 ∷ 49 ∷ 32 ∷ 48 ∷ 10 ∷ 114 ∷ 101 ∷ 97 ∷ 99 ∷ 104 ∷ 32 ∷ 48 ∷ 10 ∷ 109 ∷ 117 ∷ 115 ∷ 116 ∷ 32 ∷ 48 ∷ 10 ∷ 116 ∷ 97 ∷
    107 ∷ 101 ∷ 10 ∷ 102 ∷ 108 ∷ 111 ∷ 111 ∷ 114 ∷ 32 ∷ 48 ∷ 10 ∷ []

-- no steps, and a goal fact that is not in the start (P8)
abbrev pub wayless : List ℕ
wayless =
    1 ∷ 2 ∷ 0 ∷ 0 ∷ 0 ∷ 2 ∷ 0 ∷ 0 ∷ 3 ∷ 1 ∷ 0 ∷ 0 ∷ []

pub examples : (report_text example_file ≡ example_text) × (report_text start_file ≡ start_text) × (report_text wayless ≡ refused_line 7 0) × (report_text [] ≡ refused_line 12 0)
unfolding report_text unless_refused task_text set_lines round_lines cut_lines line fields number_text digits_of members
    file_verdict records_verdict onward judged_at found_judged if_fine went_on record_verdict numbers_verdict in_place fact_in_place refused_at fits_in
    file_tables contents_tables step_table costs_of parts_of named_for some_of contents_in contents_of blocks_in first_namings
    file_records records_in records_on after_record found_at found_as record_of body_length number_at
    pass_verdict verdict_of sizes_verdict right_costs right_sets only_facts right_lengths wrong_steps wrong_facts first_refusal or_else refused_if answered goal_holds up_to
    must_facts must_steps goal_union must_row on_every_way rounds_of floor_of all_rounds rounds_from round_of lowered goal_away given_costs cut_of cut_cost goal_choice chosen_needs cut region heads_outside zone
    free_tails arc_into counted lowest_farthest least repeated quiet pass held reach closure made possible within all any lowest joined removed word_of words_of table_of one goal_distance
    set_distance distance distances rounds list_of right_side through_step largest least_of pick both either no implies below has bit same row
examples = (refl, refl, refl, refl)
