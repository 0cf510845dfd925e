use Rattle.std.proofs.Common.{rules, Some}
use Rattle.std.proofs.lemmas.Iterator.{items_from_collect, YieldsList-from_slice, YieldsList-from_map}
use Rattle.std.proofs.lemmas.Iterator.Consumers.{YieldsList-at, YieldsList-from_copied, YieldsList-from_chain}
use Rattle.std.proofs.lemmas.Iterator.Adapters.{YieldsList-from_once}
use Rattle.ps_circuit.specs.Literals.{variable}
use Rattle.ps_simulate.proofs.places.variables_of.Goals as goal

pub returns-clause-variables : goal.returns-clause-variables
returns-clause-variables c =
    let circuit = c.args.circuit.now in
    items_from_collect c.collect.result c.collect.ensures.ran (YieldsList-from_chain
    (YieldsList-at c.chain-2.ensures.first (YieldsList-from_once (Some 0) c.once.ensures.item))
    (YieldsList-at c.chain-2.ensures.second (YieldsList-from_map _ variable
    (YieldsList-at c.map.ensures.source (YieldsList-from_chain (YieldsList-at c.chain-defined.ensures.first
    (YieldsList-from_chain (YieldsList-at c.chain.ensures.first
    (YieldsList-from_copied (YieldsList-from_slice circuit.inputs (cc))))
    (YieldsList-at c.chain.ensures.second (YieldsList-from_map _ (λ l. l.literal)
    (YieldsList-from_slice circuit.latches (cc)) c.map-latches.ensures.closure (λ x r q k. search rules)))
    c.chain.ensures.first_done c.chain.ensures.second_done)) (YieldsList-at c.chain-defined.ensures.second
    (YieldsList-from_map _ (λ g. g.literal) (YieldsList-from_slice circuit.gates (cc)) c.map-gates.ensures.closure
    (λ x r q k. search rules))) c.chain-defined.ensures.first_done c.chain-defined.ensures.second_done))
    c.map.ensures.closure (λ x r q k. search rules))) c.chain-2.ensures.first_done c.chain-2.ensures.second_done)
