use Rattle.std.proofs.Common.{length}
use Rattle.ps_text.specs.Parts.{many}
use Rattle.ps_text.specs.Readers.{Carries}
use Rattle.ps_hoa.specs.Causes.{hoa_causes}
use Rattle.ps_hoa.specs.Grammar.Header.{HeaderData, read_over}
use Rattle.ps_hoa.specs.Scan.{stream_of}
use Rattle.ps_hoa.proofs.header.skipped.other.Given as goal

abbrev pub invariant-values : goal.invariant-values
invariant-values l = (h : HeaderData) → Carries hoa_causes (many read_over h) (stream_of l.fn.tokens) (many read_over h)
    (stream_of l.tokens)

abbrev pub decreases-values : goal.decreases-values
decreases-values l = length (stream_of l.tokens).pieces
