use Rattle.std.proofs.Common.{◌≡◌, drop}
use Rattle.ps_hoa.specs.Grammar.Header.{has_control}
use Rattle.ps_hoa.proofs.header.new_names.has_control.Given as goal

abbrev pub invariant-loop-byte : goal.invariant-loop-byte
invariant-loop-byte l = has_control (drop l.byte-index l.name) ≡ has_control l.name
