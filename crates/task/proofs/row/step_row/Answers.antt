use mathlib.Core.Path.{sym, ap, ◌∙◌}
use native.Mathlib.Omega.{arith}
use Prim.Native.Nat.{ℕ}
use Rattle.std.specs.Prelude.{Ok}
use Rattle.task.proofs.Refusals.{answered_ok}
use Rattle.task.proofs.HandingOut.{row_sound, handed_none, handed_needs, handed_sets}
use Rattle.task.proofs.row.step_row.Goals as goal

pub part-requires : goal.part-requires
part-requires c =
    let s = row_sound _ _ _ _ _ _ (answered_ok _ (sym c.asked_row.ensures ∙ c.in-Ok-Needs.is)).0 in omega arith

pub part-requires-in-Ok-Sets : goal.part-requires-in-Ok-Sets
part-requires-in-Ok-Sets c =
    let s = row_sound _ _ _ _ _ _ (answered_ok _ (sym c.asked_row.ensures ∙ c.in-Ok-Sets.is)).0 in omega arith

pub returns-in-Ok-Needs : goal.returns-in-Ok-Needs
returns-in-Ok-Needs c =
    let handed = handed_needs _ c.args.step c.args.which c.args.needs.now c.args.sets.now c.args.needs.ref_ptr c.args.sets.ref_ptr (sym c.asked_row.ensures ∙ c.in-Ok-Needs.is ∙ ap Ok c.in-Ok-Needs.field-0-is) in
    record { words = c.part.ensures.words ∙ handed.0; place = c.part.ensures.place ∙ handed.1 }

pub returns-in-Ok-Sets : goal.returns-in-Ok-Sets
returns-in-Ok-Sets c =
    let handed = handed_sets _ c.args.step c.args.which c.args.needs.now c.args.sets.now c.args.needs.ref_ptr c.args.sets.ref_ptr (sym c.asked_row.ensures ∙ c.in-Ok-Sets.is ∙ ap Ok c.in-Ok-Sets.field-0-is) in
    record { words = c.part-in-Ok-Sets.ensures.words ∙ handed.0; place = c.part-in-Ok-Sets.ensures.place ∙ handed.1 }

pub returns-in-Err : goal.returns-in-Err
returns-in-Err c =
    let handed = handed_none _ c.args.step c.args.which c.args.needs.now c.args.sets.now c.args.needs.ref_ptr c.args.sets.ref_ptr (sym c.asked_row.ensures ∙ c.in-Err.is) in
    record { words = handed.0; place = ap (λ (k : ℕ). (c.args.needs.ref_ptr.0, k)) (omega arith) ∙ handed.1 }
