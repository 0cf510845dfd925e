use Rattle.std.proofs.Common.{subst, ℕ, List}
use Rattle.ps_program.specs.Program.{AnswersInput, Writes}
use Rattle.ps_program.specs.Replies.{reply_of}
use Rattle.ps_program.specs.Finders.{Finders, finders_of}
use Rattle.ps_program.specs.Streams.{sink_state}
use Rattle.ps_program.proofs.ProgramLemmas.{replies_answer}
use Rattle.psyn.proofs.run.run_by.Goals as goal

pub returns-in-Ok-answer_to-clause-answered : goal.returns-in-Ok-answer_to-clause-answered
returns-in-Ok-answer_to-clause-answered g c =
    let finders : Finders = finders_of (g.S.Solver.known c.args.built_in.now) (g.T.Solver.known c.args.replay.now)
    (g.P.Proposer.known c.args.proposer.now) (g.U.Translator.may_give c.args.translator.now) in
    let state = sink_state g.W.Sink.contents g.W.Sink.has_failed g.W.Sink.has_stalled g.W.Sink.is_flushed in
    let answer = c.in-Ok-answer_to.answer in
    let read = c.in-Ok.ensures.read in (
      reply_of answer,
      replies_answer finders _ _ c.in-Ok.input.items _ read.0 read.1 read.2
          (subst (λ (input : List ℕ). AnswersInput finders input (reply_of answer)) c.as_slice.ensures.value
          c.in-Ok-answer_to.ensures.answer),
      subst (λ (text : List ℕ). Writes (state c.args.writer.now) (state c.write_reply.new.writer)
          (record { text = text; status = answer.status }) c.write_reply.result)
          c.as_slice-in-Ok-answer_to.ensures.value c.write_reply.ensures,
    )
