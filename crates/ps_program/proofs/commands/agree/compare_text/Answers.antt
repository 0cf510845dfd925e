use Rattle.ps_hoa.specs.Files.{FileData}
use Rattle.ps_tlsf.specs.SpecificationViews.{specification_data}
use Rattle.ps_program.specs.Automata.{IsOfFile, ReadsAutomaton}
use Rattle.ps_program.specs.Commands.Comparing.{ComparesText, TellsAgreement}
use Rattle.ps_program.specs.Replies.{reply_of}
use Rattle.ps_program.proofs.ByCommand.AutomatonLemmas.{automaton_failed}
use Rattle.ps_program.proofs.ByCommand.OutcomeLemmas.{gives_after, gives_failed, gives_passed}
use Rattle.ps_program.proofs.commands.agree.compare_text.Goals as goal

pub returns-in_err-automaton : goal.returns-in_err-automaton
returns-in_err-automaton c =
    let spec = specification_data c.args.specification.now in
    let fault = c.in_err-automaton.field-0.0 in
    gives_passed reply_of (ComparesText spec c.args.hoa.now) _ _ c.from_residual.ensures.1
    (gives_failed {X = FileData} {V = FileData} (λ file. file) (ReadsAutomaton c.args.hoa.now) reply_of
    (TellsAgreement spec) fault (automaton_failed IsOfFile c.args.hoa.now fault c.in_err-automaton.ensures))

pub returns : goal.returns
returns c =
    let a = c.in_ok-automaton.ensures in
    gives_after (ReadsAutomaton c.args.hoa.now) reply_of
    (TellsAgreement (specification_data c.args.specification.now)) a.0 c.tell.result a.1
    (c.tell.ensures a.0 a.2.0 a.2.1)
