use Rattle.std.proofs.Common.{length}
use Rattle.ps_text.specs.Parts.{many}
use Rattle.ps_text.specs.Readers.{Carries}
use Rattle.ps_hoa.specs.Grammar.Body.{state, no_rows}
use Rattle.ps_hoa.specs.Causes.{hoa_causes}
use Rattle.ps_hoa.specs.Inner.Rows.{body_data}
use Rattle.ps_hoa.specs.Scan.{stream_of}
use Rattle.ps_hoa.specs.Grammar.Header.{header_data}
use Rattle.ps_hoa.proofs.body.states.Given as goal

abbrev pub invariant-more : goal.invariant-more
invariant-more l = Carries hoa_causes (many (state (header_data l.header)) no_rows) (stream_of l.fn.tokens)
    (many (state (header_data l.header)) (body_data l.rows)) (stream_of l.tokens)

abbrev pub decreases-more : goal.decreases-more
decreases-more l = length (stream_of l.tokens).pieces
