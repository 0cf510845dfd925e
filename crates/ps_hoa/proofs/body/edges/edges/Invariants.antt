use Rattle.std.proofs.Common.{length}
use Rattle.ps_text.specs.Parts.{many}
use Rattle.ps_text.specs.Readers.{Carries}
use Rattle.ps_hoa.specs.Grammar.Body.{edge}
use Rattle.ps_hoa.specs.Causes.{hoa_causes}
use Rattle.ps_hoa.specs.Scan.{stream_of}
use Rattle.ps_hoa.specs.Grammar.Header.{header_data}
use Rattle.ps_hoa.specs.Views.{row_data}
use Rattle.ps_hoa.proofs.body.edges.edges.Given as goal

abbrev pub invariant-more : goal.invariant-more
invariant-more l =
    Carries hoa_causes (many (edge (header_data l.header) l.before) (row_data l.fn.row)) (stream_of l.fn.tokens)
    (many (edge (header_data l.header) l.before) (row_data l.row)) (stream_of l.tokens)

abbrev pub decreases-more : goal.decreases-more
decreases-more l = length (stream_of l.tokens).pieces
