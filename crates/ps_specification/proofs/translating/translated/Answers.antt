use Rattle.ps_synthesis.proofs.Reporting.{err_all}
use Rattle.ps_tlsf.specs.SpecificationViews.{specification_data}
use Rattle.ps_specification.specs.Translating.{MayGive}
use Rattle.ps_specification.specs.TranslationFaults.{IsTranslationFault, IsTranslationFaultBy}
use Rattle.ps_specification.proofs.TranslationReasons.{translation_reason}
use Rattle.ps_specification.proofs.translating.translated.Goals as goal

pub returns-clause-refused : goal.returns-clause-refused
returns-clause-refused g c =
    let gives : MayGive = g.T.Translator.may_give c.args.translator.now in
    let text = c.args.text.now in
    let spec = specification_data c.args.specification.now in
    let gave = rw c.in-Some.is at c.in_ok-hoa.ensures in
    err_all (IsTranslationFaultBy spec c.in-Some.hoa.items) (IsTranslationFault gives text)
    (translation_reason gives text spec c.in-Some.hoa.items c.requires.reads gave)
    c.passed.result c.passed.ensures.refused
