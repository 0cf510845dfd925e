use Rattle.ps_tlsf.specs.SpecificationViews.{specification_data}
use Rattle.ps_specification.proofs.TranslationReasons.{is_translation_of}
use Rattle.ps_specification.proofs.translating.is_translation.Goals as goal

pub returns-clause-translation : goal.returns-clause-translation
returns-clause-translation c =
    let of = c.in_ok-automaton.ensures.automaton in
    is_translation_of c.one_answer.ensures c.args.hoa.now (specification_data c.args.specification.now) of.file
    of.accepted (c.in_ok-agrees.ensures of.file of.chain of.built)
