use Rattle.std.proofs.Common.{length, ◌-◌, ◌≡◌, false, ◌≤◌, take}
use Rattle.std.specs.Io.KnownBytes.{Appends}
use Rattle.ps_program.proofs.sending.send.Given as goal

-- the bytes written so far are a prefix of the text, no call has failed, and no write has stalled (accepted none of its
-- bytes)
abbrev pub invariant-chunks : goal.invariant-chunks
invariant-chunks g l = record {
  within : l.sent ≤ length l.text;
  sound : g.W.Sink.has_failed l.writer ≡ false;
  moving : g.W.Sink.has_stalled l.writer ≡ false;
  appended : Appends (g.W.Sink.contents l.initial.writer) (g.W.Sink.contents l.writer) (take l.sent l.text);
}

abbrev pub decreases-chunks : goal.decreases-chunks
decreases-chunks g l = length l.text - l.sent
