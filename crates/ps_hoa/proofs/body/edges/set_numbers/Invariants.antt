use Rattle.std.proofs.Common.{length, []}
use Rattle.ps_text.specs.Parts.{many}
use Rattle.ps_text.specs.Readers.{Carries}
use Rattle.ps_hoa.specs.Grammar.Body.{set_number}
use Rattle.ps_hoa.specs.Causes.{hoa_causes}
use Rattle.ps_hoa.specs.Scan.{stream_of}
use Rattle.ps_hoa.specs.Marks.{mark_list}
use Rattle.ps_hoa.proofs.body.edges.set_numbers.Given as goal

abbrev pub invariant-more : goal.invariant-more
invariant-more l =
    Carries hoa_causes (many (set_number l.count) []) (stream_of l.fn.tokens) (many (set_number l.count) (mark_list l.marks))
    (stream_of l.tokens)

abbrev pub decreases-more : goal.decreases-more
decreases-more l = length (stream_of l.tokens).pieces
