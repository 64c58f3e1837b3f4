use mathlib.Core.Path.{refl}
use native.Mathlib.Omega.{arith}
use Rattle.report.proofs.Laying.{text_put}
use Rattle.report.proofs.text.Page.text.Goals as goal

pub returns : goal.returns
returns c = record {
  same_buffer = refl;
  wrote = text_put c.args.text.now c.args.self.now.out.now _ c.args.self.now.at _ _ c.args.self.now.within c.min-count.ensures (omega arith) c.copy_from_slice.ensures.after;
}
