use Rattle.std.proofs.Common.{◌∙◌, ℕ, ◌<◌, ap, length, refl, subst, sym}
use Rattle.std.proofs.lemmas.List.{length-map}
use Rattle.ps_machine.specs.BitMachines.{BitMachineData, nodes_of}
use Rattle.ps_machine.specs.BuiltBoards.{board_of}
use Rattle.ps_machine.specs.Inner.BitAssembling.{IsBitComposed}
use Rattle.ps_machine.specs.Inner.Stored.{bit_machine_of}
use Rattle.ps_machine.proofs.Machines.OwnPropositions.{own}
use Rattle.ps_machine.proofs.Machines.WholeBitMachines.{is_whole}
use Rattle.ps_machine.proofs.extracting.machine_of_bits.Goals as goal

pub new-requires : goal.new-requires
new-requires c =
    let said = c.in_ok-propositions.ensures in
    let p = c.in_ok-propositions.propositions in
    let parts = c.requires.parts in
    let board = board_of c.args.order c.args.automaton.now in
    let composed : IsBitComposed board (bit_machine_of c.args.player c.args.moves_first p c.args.parts) = record {
      few_names = rw said.names said.few;
      are_names = rw said.names said.sound;
      as_many = ap length said.names;
      letters = parts.letters ∙ sym (ap length said.names);
      player = c.requires.player;
      some = parts.some;
      roles = said.roles;
      each = parts.each;
      many = length-map c.args.parts.bits.items nodes_of ∙ parts.many;
      full = λ memory within. parts.full memory within ∙ sym (ap length (own said.roles));
      bits = λ memory place within less. parts.bits memory place within
          (subst (λ (n : ℕ). place < n) (ap length (own said.roles)) less);
    } in
    is_whole composed

pub returns-clause-outputs : goal.returns-clause-outputs
returns-clause-outputs c =
    ap (λ (m : BitMachineData). m.outputs) c.new.ensures ∙ own c.in_ok-propositions.ensures.roles

pub returns-clause-propositions : goal.returns-clause-propositions
returns-clause-propositions c =
    let said = c.in_ok-propositions.ensures in
    rw c.new.ensures (record { names_are = said.names; as_many = refl; reads = said.roles.read.are })
