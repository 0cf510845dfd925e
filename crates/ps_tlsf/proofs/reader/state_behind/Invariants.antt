use Rattle.std.proofs.Common.{◌≡◌, length}
use Rattle.ps_tlsf.specs.Lexicon.{lex}
use Rattle.ps_tlsf.specs.Steps.{fresh, run}
use Rattle.ps_tlsf.specs.Inner.StateViews.{state_data}
use Rattle.ps_tlsf.proofs.reader.state_behind.Given as goal

abbrev pub invariant-tokens : goal.invariant-tokens
invariant-tokens l = run (state_data l.state) l.tokens ≡ run fresh (lex 0 l.text)

abbrev pub decreases-tokens : goal.decreases-tokens
decreases-tokens l = length l.tokens
