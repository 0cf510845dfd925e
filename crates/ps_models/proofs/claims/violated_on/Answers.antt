use Rattle.std.proofs.Common.{subst, sym}
use Rattle.std.proofs.lemmas.Result.{IfOk-weaker}
use Rattle.ps_sentences.specs.Tables.{listed_formulas}
use Rattle.ps_tableau_product.proofs.LassoWords.WordSteps.{some_letter}
use Rattle.ps_verify.proofs.WordsOn.{word_on}
use Rattle.ps_verify.specs.declared.judgement.Judgement.{Judgement}
use Rattle.ps_models.proofs.TriedCircuits.TrialLemmas.{hold_on}
use Rattle.ps_models.specs.Inner.Claims.{HoldOn}
use Rattle.ps_models.proofs.claims.violated_on.Goals as goal

pub first_violated-requires-clause-some_letter : goal.first_violated-requires-clause-some_letter
first_violated-requires-clause-some_letter c = some_letter (word_on c.in_ok-word-in-Loses.ensures).word

pub returns-in_ok-word-in-Loses-clause-none : goal.returns-in_ok-word-in-Loses-clause-none
returns-in_ok-word-in-Loses-clause-none c =
    let t = c.args.trial in
    let is_circuit = c.parts_fit.ensures in
    let fs = listed_formulas c.args.table.now c.args.formulas.now in
    IfOk-weaker c.first_violated.result _ _ (λ found none empty.
    subst (λ (j : Judgement). HoldOn t j fs) (sym c.in-Loses.is)
    (hold_on t is_circuit (c.circuit_has_one_values.ensures t.circuit.now is_circuit) c.requires.symbols
    c.in-Loses.stimulus c.in_ok-word-in-Loses.word c.in_ok-word-in-Loses.ensures fs (none empty)))
    c.first_violated.ensures.none
