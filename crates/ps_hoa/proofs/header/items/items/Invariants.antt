use Rattle.std.proofs.Common.{length}
use Rattle.ps_text.specs.Parts.{many}
use Rattle.ps_text.specs.Readers.{Carries}
use Rattle.ps_hoa.specs.Causes.{hoa_causes}
use Rattle.ps_hoa.specs.Grammar.Header.{no_items, item, header_data}
use Rattle.ps_hoa.specs.Scan.{stream_of}
use Rattle.ps_hoa.proofs.header.items.items.Given as goal

abbrev pub invariant-items : goal.invariant-items
invariant-items l = Carries hoa_causes (many item no_items) (stream_of l.fn.tokens) (many item (header_data l.header))
    (stream_of l.tokens)

abbrev pub decreases-items : goal.decreases-items
decreases-items l = length (stream_of l.tokens).pieces
