use native.Mathlib.Omega.{arith}
use borrow.Author.Rules.{rules}
use Rattle.report.proofs.Printed.{whole_report}
use Rattle.report.proofs.printing.print_report.Goals as goal

pub returns : goal.returns
returns g c =
    let bytes = c.type_inv.file in
    rw (whole_report c.args.file.now _ _ c.report-written.result (λ i. omega (arith, bytes i)) (search rules) c.report-written.ensures.text c.report-written.ensures.answer) at c.write_all.ensures.bytes
