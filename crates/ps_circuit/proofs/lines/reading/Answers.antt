use Rattle.std.proofs.Common.{arith}
use Rattle.ps_circuit.specs.Texts.{WrongLiteral, field}
use Rattle.ps_text.specs.Faults.{found_of}
use Rattle.ps_text.proofs.ParsedAnswers.Exits.{exits}
use Rattle.ps_circuit.specs.Signs.{aig_causes}
use Rattle.ps_circuit.proofs.ReadCircuits.Judges.{judge_literal}
use Rattle.ps_circuit.proofs.ReadCircuits.NumberLemmas.{field_none}
use Rattle.ps_circuit.proofs.ReadCircuits.LineLemmas.{reading_reads, reading_wrong}
use Rattle.ps_circuit.proofs.lines.reading.Goals as goal

pub returns-in_err-number-clause-exact : goal.returns-in_err-number-clause-exact
returns-in_err-number-clause-exact c =
    exits found_of aig_causes (λ n. n) (field (WrongLiteral c.args.header.most)) c.args.cursor.now _ _ _
    (field_none (judge_literal c.args.header.most) c.field.new.cursor _ c.in_err-number.ensures) c.from_residual.ensures.1

pub returns-then-number-from-clause-exact : goal.returns-then-number-from-clause-exact
returns-then-number-from-clause-exact c = reading_wrong c.args.header.most c.field.new.cursor c.in_ok-number.number c.args.header.small
    c.in_ok-number.ensures (omega (arith, c.from.ensures)) c.refused.ensures

pub returns-clause-exact : goal.returns-clause-exact
returns-clause-exact c = reading_reads c.args.header.most c.args.header.small c.in_ok-number.ensures (omega (arith, c.from.ensures))
