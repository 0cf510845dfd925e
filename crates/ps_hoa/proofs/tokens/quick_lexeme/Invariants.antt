use Rattle.std.proofs.Common.{length, drop, ◌≤◌, ◌≡◌, ◌-◌}
use Rattle.ps_hoa.specs.Spans.{AreBlanks}
use Rattle.ps_hoa.specs.Scan.{lex}
use Rattle.ps_hoa.proofs.tokens.quick_lexeme.Given as goal

abbrev pub invariant-blanks : goal.invariant-blanks
invariant-blanks l = record {
  from : l.from ≤ l.at;
  blanks : AreBlanks l.source l.from l.at;
  within : l.at ≤ length l.source;
  same : lex l.at (drop l.at l.source) ≡ lex l.from (drop l.from l.source);
}

abbrev pub decreases-blanks : goal.decreases-blanks
decreases-blanks l = length l.source - l.at
