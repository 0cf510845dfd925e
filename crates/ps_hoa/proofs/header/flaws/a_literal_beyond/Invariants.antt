use Rattle.std.proofs.Common.{◌↔◌, drop}
use Rattle.ps_label.specs.Expression.{literal_expressions, operands_in}
use Rattle.ps_hoa.specs.Grammar.Header.{SomeSpeaksBeyond}
use Rattle.ps_hoa.proofs.header.flaws.a_literal_beyond.Given as goal

abbrev pub invariant-loop-literal : goal.invariant-loop-literal
invariant-loop-literal l =
    SomeSpeaksBeyond l.count (operands_in (literal_expressions (drop l.literal-index l.literals)))
    ↔ SomeSpeaksBeyond l.count (operands_in (literal_expressions l.literals))
