use Rattle.std.proofs.Common.{◌≡◌, ℕ, List, [], None, Some, ap, subst}
use Rattle.std.specs.Prelude.{Option}
use Rattle.ps_solver.specs.Solving.{own_solver, replay_of}
use Rattle.ps_specification.specs.Proposing.{own_proposer}
use Rattle.ps_specification.specs.Translating.{own_translator}
use Rattle.ps_program.specs.Program.{Replies, Writes}
use Rattle.ps_program.specs.Replies.{Reply}
use Rattle.ps_program.specs.Finders.{finders_of}
use Rattle.ps_program.specs.Streams.{sink_state}
use Rattle.psyn.proofs.answered.Goals as goal

text_of : Option (List ℕ) → List ℕ
text_of None = []
text_of (Some text) = text

empty : (text : List ℕ) → Some text ≡ Some [] → text ≡ []
unfolding text_of
empty text same = ap text_of same

pub returns-clause-answered : goal.returns-clause-answered
returns-clause-answered g c =
    let state = sink_state g.W.Sink.contents g.W.Sink.has_failed g.W.Sink.has_stalled g.W.Sink.is_flushed in
    subst (λ (text : List ℕ). (reply : Reply)
    × Replies (finders_of own_solver (replay_of text) (own_proposer 1) own_translator)
    (g.R.Source.remaining c.args.reader.now)
    (g.R.Source.has_failed c.run_by.new.reader) reply
    × Writes (state c.args.writer.now) (state c.run_by.new.writer) reply c.run_by.result)
    (empty c.new-replay.result.text.items c.new-replay.ensures) c.run_by.ensures.answered
