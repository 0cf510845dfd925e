use Rattle.ps_tlsf.specs.SpecificationViews.{specification_data}
use Rattle.ps_program.specs.Commands.ShrinkingTlsf.{AnswersShrinkTlsf, ShrinksSpecified}
use Rattle.ps_program.specs.Replies.{reply_of}
use Rattle.ps_program.specs.Texts.{CutsInTwo, ReadsSpecificationText}
use Rattle.ps_program.proofs.ByCommand.OutcomeLemmas.{first_failed, first_read, gives_passed}
use Rattle.ps_program.proofs.commands.shrink_tlsf.shrink_tlsf.Goals as goal

pub returns-in_err-specification : goal.returns-in_err-specification
returns-in_err-specification c = gives_passed reply_of (AnswersShrinkTlsf c.args.role c.args.texts.now) _ _
    c.from_residual-in_err-specification.ensures.1
    (first_failed specification_data (CutsInTwo c.args.texts.now) (λ parts. ReadsSpecificationText parts.0) reply_of
    (λ spec parts. ShrinksSpecified c.args.role spec parts.1) (c.in_ok-tlsf.tlsf.now, c.in_ok-tlsf.aag.now)
    c.in_err-specification.field-0.0 c.in_ok-tlsf.ensures c.in_err-specification.ensures.read)

pub returns : goal.returns
returns c = first_read (CutsInTwo c.args.texts.now) (λ parts. ReadsSpecificationText parts.0) reply_of
    (λ spec parts. ShrinksSpecified c.args.role spec parts.1) (c.in_ok-tlsf.tlsf.now, c.in_ok-tlsf.aag.now)
    (specification_data c.in_ok-specification.specification) c.shrink_text.result c.in_ok-tlsf.ensures
    c.in_ok-specification.ensures.read c.shrink_text.ensures
