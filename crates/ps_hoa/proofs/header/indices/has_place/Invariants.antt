use Rattle.std.proofs.Common.{◌≡◌, drop}
use Rattle.ps_hoa.specs.Grammar.Header.{has_place, slot_of}
use Rattle.ps_hoa.proofs.header.indices.has_place.Given as goal

abbrev pub invariant-loop-other : goal.invariant-loop-other
invariant-loop-other l =
    has_place (slot_of l.number) (drop l.other-index l.numbers) ≡ has_place (slot_of l.number) l.numbers
