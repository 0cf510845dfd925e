use Rattle.ps_diagram.specs.Inner.Bits.{AreLetterBitsBelow}
use Rattle.ps_diagram.proofs.store.Store.letter_bits.Given as goal

abbrev pub invariant-loop-proposition : goal.invariant-loop-proposition
invariant-loop-proposition l = AreLetterBitsBelow l.self l.mask l.letter l.proposition l.bits.items
