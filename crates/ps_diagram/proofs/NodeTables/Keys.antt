-- The equality test of the table of cells decides whether packed cells are equal.
use Rattle.std.proofs.Common.{◌≡◌, Bool, true, rules, ◌&&◌}
use Rattle.std.proofs.lemmas.Bool.{eqb-true}
use Rattle.ps_diagram.specs.declared.packed.Packed.{Packed}
use Rattle.ps_diagram.specs.contracts.packed.PackedPartialEq.TheImpl as packed_eq

-- a conjunction is true only if both of its operands are true
pub and_both : (a b : Bool) → (a && b) ≡ true → (a ≡ true) × (b ≡ true)
and_both a b e = search rules

pub same_packed : (a b : Packed) → (packed_eq.eq-value).it a b ≡ true → a ≡ b
same_packed a b e = search (rules, eqb-true, and_both)

pub packed_same : (a : Packed) → (packed_eq.eq-value).it a a ≡ true
packed_same a = search rules
