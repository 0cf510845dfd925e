use Rattle.std.proofs.Common.{Ok, ap, inr}
use Rattle.ps_specification.specs.Proposing.{ProposerData}
use Rattle.ps_program.specs.declared.answer.Refusal.{Refusal}
use Rattle.ps_program.specs.declared.answer.Refusal.TheVariants as refusal
use Rattle.ps_program.specs.Replies.{reply_of}
use Rattle.ps_program.specs.Commands.SynthesisTlsf.{AnswersSynthTlsf, IsSpecificationTold}
use Rattle.ps_program.proofs.ByCommand.OutcomeLemmas.{gives_handed, gives_passed}
use Rattle.ps_program.proofs.ByCommand.SynthTlsfLemmas.{specification_fault}
use Rattle.ps_program.proofs.commands.synth_tlsf.synth_tlsf.Goals as goal

pub returns-in_err-winner : goal.returns-in_err-winner
returns-in_err-winner g c =
    let proposer : ProposerData = g.P.Proposer.known c.args.proposer.now in
    let text = c.args.text.now in
    let fault = c.in_err-winner.field-0.0 in
    gives_handed reply_of (AnswersSynthTlsf proposer text) c.from_residual.result (IsSpecificationTold fault)
    c.from_residual.ensures.1 (λ (refused : Refusal) told.
    specification_fault proposer text fault refused c.in_err-winner.ensures.refused told)

pub returns-in_err-print_winner : goal.returns-in_err-print_winner
returns-in_err-print_winner g c = gives_passed reply_of
    (AnswersSynthTlsf (g.P.Proposer.known c.args.proposer.now) c.args.text.now)
    c.from_residual-in_err-print_winner.result refusal.OutOfMemory
    c.from_residual-in_err-print_winner.ensures.1 tt

pub returns : goal.returns
returns g c =
    let winner = c.in_ok-winner.winner in
    inr (
      (winner.role, winner.circuit),
      c.in_ok-winner.ensures.promise,
      (c.in_ok-print_winner.ensures.printed, ap Ok c.in_ok-print_winner.ensures.answer),
    )
