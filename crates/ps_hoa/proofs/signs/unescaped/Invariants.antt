use Rattle.std.proofs.Common.{◌≡◌, ◌++◌, drop, false}
use Rattle.ps_hoa.specs.Grammar.Header.{unescaped}
use Rattle.ps_hoa.proofs.signs.unescaped.Given as goal

abbrev pub invariant-loop-byte : goal.invariant-loop-byte
invariant-loop-byte l = l.bytes.items ++ unescaped l.escaped (drop l.byte-index l.inner) ≡ unescaped false l.inner
