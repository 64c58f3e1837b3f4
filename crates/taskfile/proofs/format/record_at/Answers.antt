use mathlib.Core.Path.{ap, sym, ◌∙◌}
use Rattle.std.proofs.Common.{Err}
use Rattle.taskfile.proofs.Records.{found_past, found_unknown, found_body}
use Rattle.taskfile.proofs.format.record_at.Goals as goal

pub returns-then-at-file : goal.returns-then-at-file
returns-then-at-file c = ap Err c.at.ensures ∙ sym (found_past c.args.file.now c.args.at c.if-at-file.true)

pub returns-in-Ok : goal.returns-in-Ok
returns-in-Ok c = found_body c.args.file.now c.args.at c.if-at-file.false c.in-Ok.ensures c.body_at.ensures c.at-in-Ok.ensures c.ok_or.ensures.value

pub returns-in-Err : goal.returns-in-Err
returns-in-Err c = ap Err c.at-in-Err.ensures ∙ sym (found_unknown c.args.file.now c.args.at (sym c.in-Err.ensures))
