use Rattle.std.proofs.Common.{◌≡◌, arith}
use Rattle.ps_diagram.proofs.NodeTables.KnownLemmas.{keeps_trans}
use Rattle.ps_diagram.proofs.TreeOperations.BitLists.{are_least, start_bits}
use Rattle.ps_diagram.proofs.store.Store.least_bits.Goals as goal

pub loop-proposition-init : goal.loop-proposition-init
loop-proposition-init c = start_bits c.args.self.now c.args.hidden c.args.node c.new-bits.result.items
    c.new-bits.ensures.items c.requires.held

pub add_least_bit-requires-clause-held : goal.add_least_bit-requires-clause-held
add_least_bit-requires-clause-held c = c.loop-proposition.invariant.held

pub add_least_bit-requires-clause-named : goal.add_least_bit-requires-clause-named
add_least_bit-requires-clause-named c = omega (
  arith,
  c.loop-proposition-test.true,
  c.propositions-proposition-end.ensures.value,
  c.loop-proposition.invariant.keeps.propositions,
)

pub returns-in_err-rest-clause-keeps : goal.returns-in_err-rest-clause-keeps
returns-in_err-rest-clause-keeps c = keeps_trans c.loop-proposition.invariant.keeps c.add_least_bit.ensures.keeps

pub loop-proposition-preserved : goal.loop-proposition-preserved
loop-proposition-preserved c = c.in_ok-rest.ensures.adds c.args.self.now c.args.node c.loop-proposition.invariant

pub returns-clause-keeps : goal.returns-clause-keeps
returns-clause-keeps c = c.loop-proposition.invariant.keeps

pub returns-clause-bits : goal.returns-clause-bits
returns-clause-bits c =
    let all : c.loop-proposition.proposition ≡ c.args.self.now.propositions = omega (
      arith,
      c.loop-proposition.auto.proposition-end,
      c.loop-proposition-test.false,
      c.propositions-proposition-end.ensures.value,
    ) in
    are_least c.args.hidden c.args.node c.loop-proposition.proposition c.loop-proposition.rest
    c.loop-proposition.bits.items c.propositions-proposition-end.ensures.sound c.requires.held all
    c.loop-proposition.invariant
