-- The answers as plain numbers: each field is one of the library's own answer, so that the numbers of refusals, places, passes, rounds and costs are those of document 01.
use Rattle.std.specs.Prelude.{Result, Ok, Err}
use Rattle.task.specs.declared.tables.Sizes.{Sizes}
use Rattle.task.specs.Refusal.{Refusal, number_of}
use Rattle.reach.specs.declared.Reached.{Reached}
use Rattle.cuts.specs.declared.Cutting.{Cutting}
use Rattle.replay.specs.declared.Replayed.{Replayed}
use Rattle.replay.specs.declared.Replayed.TheVariants.{Done, Stuck, Short}
use Rattle.exports.specs.declared.answers.Answer.{Answer}
use Rattle.exports.specs.declared.answers.ReachAnswer.{ReachAnswer}
use Rattle.exports.specs.declared.answers.CutsAnswer.{CutsAnswer}
use Rattle.exports.specs.declared.answers.ReplayAnswer.{ReplayAnswer}
use Rattle.exports.specs.declared.answers.ReadAnswer.{ReadAnswer}

-- number and place of a refusal; 0 and 0 where nothing is refused, whatever is answered
abbrev pub answer_of : {A : Type 0} → Result A Refusal → Answer
answer_of (Ok value) = record { number = 0; place = 0 }
answer_of (Err r) = record { number = number_of r.fault; place = r.place }

-- the same, with the number of passes
abbrev pub reach_answer_of : Result Reached Refusal → ReachAnswer
reach_answer_of (Ok reached) = record { number = 0; place = 0; passes = reached.passes }
reach_answer_of (Err r) = record { number = number_of r.fault; place = r.place; passes = 0 }

-- the same, with the number of rounds and the floor
abbrev pub cuts_answer_of : Result Cutting Refusal → CutsAnswer
cuts_answer_of (Ok cutting) = record { number = 0; place = 0; rounds = cutting.rounds; floor = cutting.floor }
cuts_answer_of (Err r) = record { number = number_of r.fault; place = r.place; rounds = 0; floor = 0 }

-- which answer a replay gives: 0 done, 1 stuck, 2 short of the goal, 3 refused; the refusal's number, the entry where the walk is stuck or the refusal's place,
-- and the cost of a walk that is done
abbrev pub replay_answer_of : Result Replayed Refusal → ReplayAnswer
replay_answer_of (Ok (Done cost)) = record { outcome = 0; number = 0; place = 0; cost = cost }
replay_answer_of (Ok (Stuck entry)) = record { outcome = 1; number = 0; place = entry; cost = 0 }
replay_answer_of (Ok Short) = record { outcome = 2; number = 0; place = 0; cost = 0 }
replay_answer_of (Err r) = record { outcome = 3; number = number_of r.fault; place = r.place; cost = 0 }

-- the sizes of the task that was read, or the refusal of the file
abbrev pub read_answer_of : Result Sizes Refusal → ReadAnswer
read_answer_of (Ok sizes) = record { number = 0; place = 0; facts = sizes.facts; steps = sizes.steps }
read_answer_of (Err r) = record { number = number_of r.fault; place = r.place; facts = 0; steps = 0 }
