use Rattle.ps_diagram.specs.Inner.Bits.{AreBitsBelow}
use Rattle.ps_diagram.proofs.store.Store.least_bits.Given as goal

abbrev pub invariant-loop-proposition : goal.invariant-loop-proposition
invariant-loop-proposition l = AreBitsBelow l.fn.self l.self l.fn.node l.hidden l.proposition l.rest l.bits.items
