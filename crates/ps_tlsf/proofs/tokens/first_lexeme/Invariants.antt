use Rattle.std.proofs.Common.{length, drop, ◌≤◌, ◌≡◌, ◌-◌}
use Rattle.ps_tlsf.specs.Lexicon.{lex}
use Rattle.ps_tlsf.proofs.tokens.first_lexeme.Given as goal

abbrev pub invariant-blanks : goal.invariant-blanks
invariant-blanks l = record {
  from : l.from ≤ l.at;
  within : l.at ≤ length l.source;
  same : lex l.at (drop l.at l.source) ≡ lex l.from (drop l.from l.source);
}

abbrev pub decreases-blanks : goal.decreases-blanks
decreases-blanks l = length l.source - l.at
