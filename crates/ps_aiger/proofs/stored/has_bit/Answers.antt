use Rattle.std.proofs.Common.{◌≡◌, ◌<◌, ◌^◌, arith}
use Rattle.std.specs.Int.{bit_at}
use Rattle.std.proofs.lemmas.Nat.Bits.{bit_at_above}
use Rattle.ps_aiger.proofs.stored.has_bit.Goals as goal

pub returns-else-place-lt64 : goal.returns-else-place-lt64
returns-else-place-lt64 c =
    let small : c.args.number < 2 ^ 64 = omega arith in
    let none : bit_at c.args.number c.args.place ≡ 0 =
    bit_at_above c.args.number 64 c.args.place small c.if-place-lt64.false in
    grind arith
