use Rattle.std.proofs.Common.{◌-◌, []}
use Rattle.ps_text.specs.Parts.{times}
use Rattle.ps_text.specs.Readers.{Carries}
use Rattle.ps_hoa.specs.Causes.{hoa_causes}
use Rattle.ps_hoa.specs.Grammar.Header.{proposition_name}
use Rattle.ps_hoa.specs.Scan.{stream_of}
use Rattle.ps_hoa.proofs.header.new_names.propositions.Given as goal

abbrev pub invariant-names : goal.invariant-names
invariant-names l = Carries hoa_causes (times l.count proposition_name []) (stream_of l.fn.tokens)
    (times (l.count - l.counter) proposition_name l.names) (stream_of l.tokens)
