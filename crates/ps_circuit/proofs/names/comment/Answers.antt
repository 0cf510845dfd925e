use Rattle.std.proofs.Common.{arith, ◌∙◌, sym}
use Rattle.ps_circuit.proofs.ReadCircuits.SymbolLemmas.{comment_none, comment_reads}
use Rattle.ps_circuit.proofs.names.comment.Goals as goal

pub returns-in-None : goal.returns-in-None
returns-in-None c = comment_none (sym c.peek.ensures ∙ c.in-None.is)

pub returns-in-Some-eq99 : goal.returns-in-Some-eq99
returns-in-Some-eq99 c = comment_reads (grind arith) c.finish.ensures.pieces c.finish.ensures.end
