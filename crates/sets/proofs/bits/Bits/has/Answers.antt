use Rattle.std.proofs.Common.{rules, ap, ◌∙◌, bit_and, nat_eq, ◌/◌, ◌%◌, ◌^◌}
use Rattle.sets.proofs.Methods.{has_bit}
use Rattle.sets.proofs.bits.Bits.has.Goals as goal

pub returns-in-Some : goal.returns-in-Some
returns-in-Some g c = ap (λ w. nat_eq (bit_and (w / 2 ^ (c.args.f % 64)) 1) 1) (search rules) ∙ has_bit c.args.self.words c.args.f
