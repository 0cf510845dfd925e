use Rattle.std.proofs.Common.{arith}
use Rattle.std.proofs.Math.Pow.{pow_mono}
use Rattle.ps_hoa.proofs.body.is_power_of_two.Goals as goal

pub returns-else-exponent-lt64 : goal.returns-else-exponent-lt64
returns-else-exponent-lt64 c = grind (arith, pow_mono c.if-exponent-lt64.false)
