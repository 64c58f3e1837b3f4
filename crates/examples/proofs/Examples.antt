-- Document 01's examples P1 to P12 hold, in one claim over one table: by computing every answer.
use Prim.Native.Nat.{zero, suc}
use mathlib.Core.Path.{refl}
use native.Mathlib.Omega.{arith}
use Rattle.sets.specs.Tests.{no, both, either, implies, below, same, pick}
use Rattle.sets.specs.Sets.{none, up_to, joined, removed, all, any, within, one, lowest}
use Rattle.sets.specs.Words.{bit, word_of, words_of, has, row}
use Rattle.task.specs.Walks.{taken, possible, taking, after, goal_holds, walk_cost}
use Rattle.task.specs.Refusal.{refused_if, or_else, first_refusal, answered}
use Rattle.task.specs.Check.{wrong_facts, wrong_steps, right_lengths, only_facts, right_sets, right_costs, sizes_verdict, verdict_of}
use Rattle.reach.specs.Least.{held, pass, quiet, repeated, least}
use Rattle.reach.specs.Reach.{made, closure, reach, passes}
use Rattle.reach.specs.Answer.{reached_by, reached_of}
use Rattle.replay.specs.Replay.{taken_before, walked, first_past, refused_past, walk_verdict, replayed_of}
use Rattle.must.specs.Labels.{on_every_way}
use Rattle.must.specs.Must.{must_row, goal_union, must_facts, must_steps}
use Rattle.must.specs.Answer.{pass_verdict, passed_of, taken_of}
use Rattle.distance.specs.Distance.{largest, least as least_of, list_of, through_step, right_side, rounds, distances, distance, set_distance, goal_distance}
use Rattle.distance.specs.Answer.{distances_verdict, written_by}
use Rattle.cuts.specs.Cut.{lowest_farthest, counted, arc_into, free_tails, zone, heads_outside, region, cut, chosen_needs, goal_choice, cut_of, cut_cost}
use Rattle.cuts.specs.Rounds.{given_costs, goal_away, lowered, round_of, rounds_from, all_rounds, floor_of}
use Rattle.cuts.specs.Answer.{cuts_verdict, rounds_of, cutting_by, cut_words, cut_costs, cuts_written, prices_written, left_written}
use Rattle.examples.specs.Claim.{AllRight}

pub examples : AllRight
unfolding verdict_of sizes_verdict wrong_facts wrong_steps right_lengths only_facts right_sets right_costs refused_if first_refusal or_else answered reached_of reached_by
    reach passes closure made possible least repeated quiet pass held distances_verdict written_by distances rounds list_of right_side through_step largest least_of distance
    set_distance goal_distance pass_verdict passed_of taken_of must_facts must_steps goal_union must_row on_every_way goal_holds cuts_verdict cutting_by cuts_written
    prices_written left_written rounds_of cut_words cut_costs floor_of all_rounds rounds_from round_of lowered goal_away given_costs cut_of cut_cost goal_choice chosen_needs
    cut region heads_outside zone free_tails arc_into counted lowest_farthest replayed_of walk_verdict refused_past first_past walked taken_before after walk_cost taking
    taken none up_to joined removed all any within one lowest word_of words_of has bit row no both either implies below same pick
-- P1 to P4 and P11; P5 and P6; P7; P8; P9; P10; P12
examples zero d l = record { check = refl; reach = refl; distances = refl; must = refl; take = refl; cutting = refl; rows = refl; prices = refl; left = refl; walks = refl }
examples (suc zero) d l = record { check = refl; reach = refl; distances = refl; must = refl; take = refl; cutting = refl; rows = refl; prices = refl; left = refl; walks = refl }
examples (suc (suc zero)) d l = record { check = refl; reach = refl; distances = refl; must = refl; take = refl; cutting = refl; rows = refl; prices = refl; left = refl; walks = refl }
examples (suc (suc (suc zero))) d l = record { check = refl; reach = refl; distances = refl; must = refl; take = refl; cutting = refl; rows = refl; prices = refl; left = refl; walks = refl }
examples (suc (suc (suc (suc zero)))) d l = record { check = refl; reach = refl; distances = refl; must = refl; take = refl; cutting = refl; rows = refl; prices = refl; left = refl; walks = refl }
examples (suc (suc (suc (suc (suc zero))))) d l = record { check = refl; reach = refl; distances = refl; must = refl; take = refl; cutting = refl; rows = refl; prices = refl; left = refl; walks = refl }
examples (suc (suc (suc (suc (suc (suc zero)))))) d l = record { check = refl; reach = refl; distances = refl; must = refl; take = refl; cutting = refl; rows = refl; prices = refl; left = refl; walks = refl }
examples (suc (suc (suc (suc (suc (suc (suc k))))))) d l = absurd (omega (arith, l))
