use Rattle.std.proofs.Common.{◌≡◌, ◌≤◌, take}
use Rattle.ps_text.specs.Digits.{decimal_value}
use Rattle.ps_hoa.specs.Grammar.Operands.{number_limit}
use Rattle.ps_hoa.proofs.signs.int_of.Given as goal

abbrev pub invariant-loop-digit : goal.invariant-loop-digit
invariant-loop-digit l = (l.value ≡ decimal_value (take l.digit-index l.digits)) × (l.value ≤ number_limit)
