use Rattle.std.proofs.Common.{◌≡◌, arith}
use Rattle.ps_diagram.proofs.NodeTables.KnownLemmas.{keeps_trans}
use Rattle.ps_diagram.proofs.TreeOperations.BitLists.{are_constants, are_of_letter, start_letter}
use Rattle.ps_diagram.proofs.store.Store.letter_bits.Goals as goal

pub loop-proposition-init : goal.loop-proposition-init
loop-proposition-init c = start_letter c.none.new.self c.args.mask c.args.letter c.new-bits.result.items
    c.new-bits.ensures.items

pub add_bit-requires : goal.add_bit-requires
add_bit-requires c = omega (arith, c.loop-proposition-test.true, c.propositions-proposition-end.ensures.few)

pub loop-proposition-preserved : goal.loop-proposition-preserved
loop-proposition-preserved c =
    let one = c.in_ok-one.ensures in
    let none = c.in_ok-none.ensures in
    c.in_ok-add_bit.ensures c.none.new.self
    (are_constants c.in_ok-one.one c.in_ok-none.none c.none.ensures.keeps one.held one.leaf none.held none.leaf)
    c.loop-proposition.invariant

pub returns-clause-bits : goal.returns-clause-bits
returns-clause-bits c =
    let all : c.loop-proposition.proposition ≡ c.none.new.self.propositions = omega (
      arith,
      c.loop-proposition.auto.proposition-end,
      c.loop-proposition-test.false,
      c.propositions-proposition-end.ensures.value,
    ) in
    are_of_letter c.args.mask c.args.letter c.loop-proposition.proposition c.loop-proposition.bits.items all
    c.loop-proposition.invariant

pub returns-clause-keeps : goal.returns-clause-keeps
returns-clause-keeps c = keeps_trans c.leaf.ensures.keeps c.none.ensures.keeps
