use Rattle.std.proofs.Common.{rules}
use Rattle.ps_program.proofs.StreamLemmas.{Appends-next}
use Rattle.ps_program.proofs.sending.send.Goals as goal

pub chunks-preserved : goal.chunks-preserved
chunks-preserved g c = search (rules, Appends-next)
