use Rattle.std.proofs.Common.{arith, rules}
use Rattle.std.proofs.lemmas.List.{get_or_default, length-drop, take_all}
use Rattle.ps_certificate.proofs.SparseRows.ZeroRuns.{zeros_written}
use Rattle.ps_certificate.proofs.writer.write_fields.Goals as goal

pub loop-place-preserved-then-zeros-gt0 : goal.loop-place-preserved-then-zeros-gt0
loop-place-preserved-then-zeros-gt0 c = search (rules, take_all, length-drop, zeros_written)

pub returns-clause-words : goal.returns-clause-words
returns-clause-words c k d lt = omega (arith, c.type_inv.numbers k, get_or_default c.args.numbers.now k 0 d lt)
