use Rattle.std.proofs.Common.{[], length}
use Rattle.ps_text.specs.Parts.{many}
use Rattle.ps_text.specs.Readers.{Carries}
use Rattle.ps_hoa.specs.Causes.{hoa_causes}
use Rattle.ps_hoa.specs.Grammar.Header.{index}
use Rattle.ps_hoa.specs.Scan.{stream_of}
use Rattle.ps_hoa.proofs.header.items.indices.Given as goal

abbrev pub invariant-indices : goal.invariant-indices
invariant-indices l =
    Carries hoa_causes (many index []) (stream_of l.fn.tokens) (many index l.indices) (stream_of l.tokens)

abbrev pub decreases-indices : goal.decreases-indices
decreases-indices l = length (stream_of l.tokens).pieces
