use Rattle.std.proofs.Common.{◌≡◌, take}
use Rattle.ps_sentences.proofs.copying.copied.Given as goal

abbrev pub invariant-loop-node : goal.invariant-loop-node
invariant-loop-node l = l.table ≡ take l.node-index l.fn.formulas
