use Rattle.std.proofs.Common.{arith}
use Rattle.ps_synthesis.proofs.report.report_of.Goals as goal

pub returns-clause-game : goal.returns-clause-game
returns-clause-game c = record {
  written = c.in_ok-write-2.ensures.bytes;
  read_again = λ le. c.in_ok-write-2.ensures.read_again (omega (arith, le, c.in_ok-write-2.field-0.ok));
}
