use Rattle.std.proofs.Common.{◌↔◌, drop}
use Rattle.ps_hoa.specs.Grammar.Header.{AnIndexBeyond}
use Rattle.ps_hoa.proofs.header.flaws.is_index_beyond.Given as goal

abbrev pub invariant-loop-index : goal.invariant-loop-index
invariant-loop-index l = AnIndexBeyond l.count (drop l.index-index l.indices) ↔ AnIndexBeyond l.count l.indices
