use Rattle.std.proofs.Common.{◌≡◌, ◌∙◌, ap, length, map, subst, sym}
use Rattle.std.proofs.lemmas.List.{length-map}
use Rattle.ps_label.specs.Truth.{is_in}
use Rattle.ps_models.specs.Sentences.{named_formula}
use Rattle.ps_models.proofs.JudgedCircuits.MaskedSentences.{KeepsMentioned, keeps_mentioned, outputs_small}
use Rattle.ps_models.proofs.JudgedCircuits.MaskedSentences.{roles_of_part, symbols_of_mask, verdict_alike}
use Rattle.ps_models.proofs.verdict.verdict.Goals as goal
use Rattle.ps_models.proofs.verdict.verdict.Goals.{In_ok-part}
use Rattle.ps_cone.proofs.PartWords.{symbols_of_part}
use Rattle.ps_product.proofs.CircuitFunctions.GroupLemmas.{ok_map}

keeps : (c : In_ok-part) → KeepsMentioned (named_formula c.args.sentence) c.args.circuit.now c.deref-2.result.now
keeps c =
    let f = named_formula c.args.sentence in
    let letter = c.in_ok-letter.letter in
    let same : c.deref-2.result.now ≡ map (λ p. is_in p letter) c.args.roles.now.outputs.items =
    c.deref-2.ensures.value ∙ c.in_ok-kept.ensures ∙ ap (map (λ p. is_in p letter)) c.deref.ensures.value in
    subst (KeepsMentioned f c.args.circuit.now) (sym same) (keeps_mentioned f c.args.circuit.now c.args.roles.now letter
    c.args.sentence.distinct c.requires.roles c.in_ok-letter.ensures)

pub are_in-requires : goal.are_in-requires
are_in-requires c = rw c.deref.ensures.value
    (outputs_small (named_formula c.args.sentence) c.args.circuit.now c.args.roles.now c.requires.roles)

pub reduced_to-requires : goal.reduced_to-requires
reduced_to-requires c =
    let letter = c.in_ok-letter.letter in
    ap length (c.deref-2.ensures.value ∙ c.in_ok-kept.ensures)
    ∙ length-map c.deref.result.now (λ p. is_in p letter) ∙ ap length c.deref.ensures.value
    ∙ c.requires.roles.outputs_each ∙ c.parts_fit.ensures.draft.outputs_named

pub judged-requires-clause-roles : goal.judged-requires-clause-roles
judged-requires-clause-roles c =
    let at = (goal.at.judged-requires-clause-roles c).In_ok-part in
    roles_of_part c.args.sentence.distinct c.requires.symbols (keeps at) c.in_ok-part.ensures.part c.requires.roles

pub judged-requires-clause-symbols : goal.judged-requires-clause-symbols
judged-requires-clause-symbols c =
    let at = (goal.at.judged-requires-clause-symbols c).In_ok-part in
    symbols_of_part c.in_ok-part.ensures.part
    (symbols_of_mask c.args.sentence.distinct c.requires.symbols (keeps at))

pub returns : goal.returns
returns c =
    let at = (goal.at.returns c).In_ok-part in
    let one = c.circuit_has_one_values.ensures c.args.circuit.now c.parts_fit.ensures in
    ok_map _ _ c.judged.result c.judged.ensures
    (verdict_alike c.args.sentence.distinct c.requires.symbols (keeps at) c.in_ok-part.ensures.part one)
