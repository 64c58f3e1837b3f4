use mathlib.Core.Path.{sym, ◌∙◌}
use lib.Seq.{length-take-le}
use borrow.Author.Rules.{rules}
use Rattle.report.proofs.TaskLines.{cuts_refused, rounds_room, rounds_written}
use Rattle.report.proofs.analysis.rounds_report.Goals as goal

pub unreachable-requires : goal.unreachable-requires
unreachable-requires c =
    cuts_refused _ _ _ _ _ c.requires.steps (search rules) (search rules) (search rules) c.requires.fine (sym c.cuts.ensures.answer ∙ c.in_default.is)

pub slice_bounds-prices-end : goal.slice_bounds-prices-end
slice_bounds-prices-end c = rounds_room _ _ _ _ _ (sym c.cuts.ensures.answer ∙ c.in-Ok.is) _ _ c.cuts.ensures.prices

pub slice_bounds-cut_lines-end-2 : goal.slice_bounds-cut_lines-end-2
slice_bounds-cut_lines-end-2 c = sym (length-take-le _ _ (rounds_room _ _ _ _ _ (sym c.cuts.ensures.answer ∙ c.in-Ok.is) _ _ c.cuts.ensures.prices))

pub returns : goal.returns
returns c =
    rounds_written _ _ _ _ _ (sym c.cuts.ensures.answer ∙ c.in-Ok.is) _ _ c.cuts.ensures.prices _ _ _ _ _ c.requires.steps c.cuts.ensures.rows c.cut_lines.ensures c.line.ensures
