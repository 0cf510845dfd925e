use Rattle.std.proofs.Common.{suc, ◌+◌, ◌*◌, length}
use Rattle.ps_hoa.specs.Grammar.Operands.{is_sign_of, between, operand}
use Rattle.ps_hoa.specs.Scan.{stream_of}
use Rattle.ps_hoa.proofs.Reading.RowReading.{IsRow, binding}
use Rattle.ps_hoa.proofs.infix.+infix.Given as goal

abbrev pub decreases-row : goal.decreases-row
decreases-row g l = l.room * 5 + suc (binding l.connective)

abbrev pub decreases-part : goal.decreases-part
decreases-part g l = l.room * 5 + binding l.connective

abbrev pub decreases-operand : goal.decreases-operand
decreases-operand g l = l.room * 5

abbrev pub invariant-row-more : goal.invariant-row-more
invariant-row-more g l =
    let grammar = g.G.Infix.grammar l.grammar in
    IsRow (is_sign_of l.connective) (between grammar.together l.connective (operand grammar l.room))
    (stream_of l.fn.tokens) (g.G.Infix.meanings l.operands) (stream_of l.tokens)

abbrev pub decreases-row-more : goal.decreases-row-more
decreases-row-more g l = length (stream_of l.tokens).pieces
