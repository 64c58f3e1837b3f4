use mathlib.Core.Path.{refl, ap, ◌∙◌}
use borrow.Author.Rules.{rules}
use mathlib.Core.List.{◌∷◌}
use native.Mathlib.Omega.{arith}
use Rattle.std.proofs.lemmas.Result.{err_from_is_err_and}
use Rattle.taskfile.specs.Workers.{records_left}
use Rattle.taskfile.proofs.Reader.{all_left, not_read, stays, some_record, head_first, read_room, sizes_read, needs_read, sets_read, clears_read, costs_read, start_read, goal_read}
use Rattle.taskfile.proofs.read.read_task.Goals as goal

pub returns-in_err-judge_file : goal.returns-in_err-judge_file
returns-in_err-judge_file c =
    let p = err_from_is_err_and c.from_residual.result c.from_residual.ensures.1 in
    let was = c.in_err-judge_file.was in
    record {
      answer = rw (p.1, p.2) (not_read c.args.file.now _ c.judge_file.ensures was);
      needs = stays c.args.file.now _ c.judge_file.ensures was _ c.args.needs.now;
      sets = stays c.args.file.now _ c.judge_file.ensures was _ c.args.sets.now;
      clears = stays c.args.file.now _ c.judge_file.ensures was _ c.args.clears.now;
      costs = stays c.args.file.now _ c.judge_file.ensures was _ c.args.costs.now;
      start = stays c.args.file.now _ c.judge_file.ensures was _ c.args.start.now;
      goal = stays c.args.file.now _ c.judge_file.ensures was _ c.args.goal.now;
    }

pub unreachable-requires : goal.unreachable-requires
unreachable-requires c =
    let known = c.type_inv.file in
    let all = all_left c.args.file.now c.new-records.result c.new-records.ensures.file c.new-records.ensures.at in
    some_record c.args.file.now _ c.judge_file.ensures (λ i. omega (arith, known i)) c.in_ok-judge_file.was (all ∙ c.in_default.ensures.steps.0)

pub unreachable-requires-in_default-first : goal.unreachable-requires-in_default-first
unreachable-requires-in_default-first c =
    let known = c.type_inv.file in
    let all = all_left c.args.file.now c.new-records.result c.new-records.ensures.file c.new-records.ensures.at in
    head_first c.args.file.now _ c.judge_file.ensures (λ i. omega (arith, known i)) c.in_ok-judge_file.was c.in-Some.first _ (all ∙ c.in-Some.ensures.steps)
    c.in_default-first.not-Head

pub fill_steps-requires : goal.fill_steps-requires
fill_steps-requires c =
    let known = c.type_inv.file in
    let all = all_left c.args.file.now c.new-records.result c.new-records.ensures.file c.new-records.ensures.at in
    let first = all ∙ c.in-Some.ensures.steps ∙ ap (λ r. r ∷ records_left c.next.new.self) c.in-Head.is in
    read_room c.args.file.now _ c.judge_file.ensures (λ i. omega (arith, known i)) c.in_ok-judge_file.was first _ _ _ _ refl refl refl refl

pub returns : goal.returns
returns c =
    let known = c.type_inv.file in
    let all = all_left c.args.file.now c.new-records.result c.new-records.ensures.file c.new-records.ensures.at in
    let first = all ∙ c.in-Some.ensures.steps ∙ ap (λ r. r ∷ records_left c.next.new.self) c.in-Head.is in
    record {
      answer = sizes_read c.args.file.now _ c.judge_file.ensures (λ i. omega (arith, known i)) c.in_ok-judge_file.was first c.from.ensures c.from-2.ensures;
      needs = needs_read c.args.file.now _ c.judge_file.ensures (λ i. omega (arith, known i)) c.in_ok-judge_file.was first _ (search rules ∙ c.fill_steps.ensures.needs);
      sets = sets_read c.args.file.now _ c.judge_file.ensures (λ i. omega (arith, known i)) c.in_ok-judge_file.was first _ (search rules ∙ c.fill_steps.ensures.sets);
      clears = clears_read c.args.file.now _ c.judge_file.ensures (λ i. omega (arith, known i)) c.in_ok-judge_file.was first _ (search rules ∙ c.fill_steps.ensures.clears);
      costs = costs_read c.args.file.now _ c.judge_file.ensures (λ i. omega (arith, known i)) c.in_ok-judge_file.was first _ (search rules ∙ c.fill_steps.ensures.costs);
      start = start_read c.args.file.now _ c.judge_file.ensures (λ i. omega (arith, known i)) c.in_ok-judge_file.was first _ refl c.facts_named.ensures c.put_row.ensures;
      goal = goal_read c.args.file.now _ c.judge_file.ensures (λ i. omega (arith, known i)) c.in_ok-judge_file.was first _ refl c.facts_named-2.ensures c.put_row-2.ensures;
    }
