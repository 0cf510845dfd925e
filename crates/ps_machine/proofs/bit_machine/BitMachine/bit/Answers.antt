use Rattle.std.proofs.Common.{◌≡◌, ◌∙◌, ℕ, ◌<◌, List, [], Vec, ap, arith, length, map, subst, sym}
use Rattle.std.specs.Global.{Global}
use Rattle.std.specs.Prelude.{slice_index, slice_index_or}
use Rattle.std.proofs.lemmas.List.{get_or-map, length-map, get_or_default}
use Rattle.ps_diagram.specs.Table.{IsNode}
use Rattle.ps_machine.specs.BitMachines.{BitMachineData, IsWholeBitMachine, bits_in, nodes_of}
use Rattle.ps_machine.proofs.bit_machine.BitMachine.bit.Goals as goal

module _ (m : BitMachineData) (bits : List (Vec ℕ Global)) (memory : ℕ) (row : Vec ℕ Global)
    (whole : IsWholeBitMachine m) (are : map nodes_of bits ≡ m.bits) (within : memory < length m.nodes)
    (is : row ≡ slice_index_or bits memory row) where
  row_is : row.items ≡ bits_in m memory
  row_is = ap nodes_of is ∙ sym (get_or-map nodes_of bits memory row []
      (omega (arith, within, whole.many, ap length are, length-map bits nodes_of)))
      ∙ ap (λ (rows : List (List ℕ)). slice_index_or rows memory []) are

  row_full : length row.items ≡ length m.outputs
  row_full = ap length row_is ∙ whole.full memory within

  held : (place node : ℕ) → place < length m.outputs → node ≡ slice_index_or row.items place node → IsNode m.store node
  held place node less at = subst (IsNode m.store)
      (sym (at ∙ get_or_default row.items place node 0 (omega (arith, less, row_full))
      ∙ ap (λ (nodes : List ℕ). slice_index nodes place) row_is)) (whole.bits_held memory place within less)

pub index-requires-2 : goal.index-requires-2
index-requires-2 c =
    let full = row_full c.args.self.now c.self.inside.parts.bits.items c.args.memory c.index.result.now
    (subst IsWholeBitMachine c.self.view_is c.self.invariant) (ap (λ (m : BitMachineData). m.bits) c.self.view_is)
    c.requires.memory c.index.ensures in
    grind (arith, full, c.requires.place)

pub returns-clause-held : goal.returns-clause-held
returns-clause-held c = held c.args.self.now c.self.inside.parts.bits.items c.args.memory c.index.result.now
    (subst IsWholeBitMachine c.self.view_is c.self.invariant) (ap (λ (m : BitMachineData). m.bits) c.self.view_is)
    c.requires.memory c.index.ensures c.args.place c.index-2.result.now c.requires.place c.index-2.ensures
