use Rattle.std.proofs.Common.{◌≡◌, drop}
use Rattle.ps_circuit.specs.Building.{Extends}
use Rattle.ps_aiger.specs.Inner.Functions.{bits_wired}
use Rattle.ps_aiger.proofs.WiredLemmas.{behind}
use Rattle.ps_aiger.proofs.encoding.literals_of.Given as goal

abbrev pub invariant-loop-bit : goal.invariant-loop-bit
invariant-loop-bit l = record {
  extends : Extends l.fn.builder l.builder;
  made : bits_wired l.machine l.latches l.wanted l.fn.builder ≡ behind l.literals.items
      (bits_wired l.machine l.latches (drop l.bit-index l.wanted) l.builder);
}
