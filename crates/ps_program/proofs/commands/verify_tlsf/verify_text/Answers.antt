use Rattle.ps_tlsf.specs.SpecificationViews.{specification_data}
use Rattle.ps_program.specs.Replies.{reply_of}
use Rattle.ps_program.specs.Texts.{ReadsCircuitText}
use Rattle.ps_program.specs.Commands.VerifyingTlsf.{TellsSpecified}
use Rattle.ps_program.proofs.ByCommand.OutcomeLemmas.{gives_after}
use Rattle.ps_program.proofs.commands.verify_tlsf.verify_text.Goals as goal

pub returns : goal.returns
returns c = gives_after (ReadsCircuitText c.args.aag.now) reply_of
    (TellsSpecified c.args.role (specification_data c.args.specification.now)) c.in_ok-circuit.circuit c.tell.result
    c.in_ok-circuit.ensures c.tell.ensures
