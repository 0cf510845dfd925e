use Rattle.ps_product.proofs.CircuitFunctions.GroupLemmas.{ok_map}
use Rattle.ps_models.specs.Sentences.{named_formula}
use Rattle.ps_models.proofs.JudgedCircuits.JudgingLemmas.{judgement_of, product_of}
use Rattle.ps_models.proofs.satisfying.judged.Goals as goal

pub returns : goal.returns
returns c = ok_map _ _ c.told.result c.told.ensures (λ judgement told order in_time.
    let f = named_formula c.args.sentence in
    let role = c.args.role in
    let circuit = c.args.circuit.now in
    let is = c.parts_fit.ensures in
    let m = c.in_ok-graph.ensures in
    judgement_of f role m order
    (λ none. c.fair_cycle_decides.ensures.wins order role f circuit m.tableau_is 0 (product_of f role m)
    c.args.sentence.distinct is c.requires.symbols in_time m.is_for m.is_product none)
    (λ stem lap cycle leads. c.fair_cycle_decides.ensures.loses order role f circuit m.tableau_is 0
    (product_of f role m) stem lap is c.requires.symbols in_time m.is_for m.is_product cycle leads) judgement told)
