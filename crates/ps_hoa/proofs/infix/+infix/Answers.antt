use Rattle.std.proofs.Common.{rules, sym, ◌∙◌, arith}
use Rattle.std.proofs.lemmas.Bool.{iff_false}
use Rattle.ps_hoa.specs.Grammar.Operands.{is_right}
use Rattle.ps_hoa.proofs.Reading.RowReading.{first_fails, first_alone, row_starts, row_more}
use Rattle.ps_hoa.proofs.Reading.RowReading.{row_fails, row_done, row_shrinks}
use Rattle.ps_hoa.proofs.Reading.HoaExits.{exit, serves_meets, value_is}
use Rattle.ps_hoa.proofs.Reading.ExpectReading.{tests_right}
use Rattle.ps_hoa.proofs.Reading.NextSign.{start_there}
use Rattle.ps_hoa.proofs.Reading.InfixReading.{operand_row, leaf_serves, too_deep, negated_value}
use Rattle.ps_hoa.proofs.Reading.InfixReading.{not_reads, not_fails, paren_reads, paren_fails, paren_stays_open}
use Rattle.ps_hoa.proofs.infix.+infix.Goals as goal

pub row-returns-in_err-first : goal.row-returns-in_err-first
row-returns-in_err-first g t c =
    let row = operand_row (g.G.Infix.grammar c.args.grammar.now) c.requires c.args.room c.args.connective in
    exit g.G.Infix.meaning _ _ _ (search (rules, first_fails)) c.in_err-first.ensures c.from_residual.ensures.1

pub row-returns-then-not-is_at : goal.row-returns-then-not-is_at
row-returns-then-not-is_at g t c =
    let grammar = g.G.Infix.grammar c.args.grammar.now in
    first_alone (operand_row grammar c.requires c.args.room c.args.connective) (grammar.together c.args.connective)
    c.in_ok-first.ensures (iff_false c.is_at.ensures c.if-not-is_at.true)

pub row-more-init : goal.row-more-init
row-more-init g t c =
    let row = operand_row (g.G.Infix.grammar c.args.grammar.now) c.requires c.args.room c.args.connective in
    row_starts row c.in_ok-first.ensures (c.is_at.ensures.0 c.if-not-is_at.false)
    c.in_ok-operands.ensures

pub row-returns-in_err-next : goal.row-returns-in_err-next
row-returns-in_err-next g t c =
    let grammar = g.G.Infix.grammar c.args.grammar.now in
    exit g.G.Infix.meaning _ _ _ (row_fails (operand_row grammar c.requires c.args.room c.args.connective)
    c.more.invariant (c.is_at-in-more.ensures.0 c.more-test.true) c.skip.ensures.rest
    (grammar.together c.args.connective)) c.in_err-next.ensures c.from_residual-in_err-next.ensures.1

pub row-more-preserved : goal.row-more-preserved
row-more-preserved g t c =
    let row = operand_row (g.G.Infix.grammar c.args.grammar.now) c.requires c.args.room c.args.connective in
    row_more row c.more.invariant (c.is_at-in-more.ensures.0 c.more-test.true) c.skip.ensures.rest
    c.in_ok-next.ensures c.in_ok-add.ensures

pub row-returns : goal.row-returns
row-returns g t c =
    let grammar = g.G.Infix.grammar c.args.grammar.now in
    value_is (sym c.in_ok-together.ensures) (row_done (operand_row grammar c.requires c.args.room c.args.connective)
    c.more.invariant (grammar.together c.args.connective) (iff_false c.is_at-in-more.ensures c.more-test.false))

pub row-more-smaller : goal.row-more-smaller
row-more-smaller g t c =
    let row = operand_row (g.G.Infix.grammar c.args.grammar.now) c.requires c.args.room c.args.connective in
    row_shrinks row _ c.skip.ensures.rest c.in_ok-next.ensures

pub operand-returns-then-not-holds : goal.operand-returns-then-not-holds
operand-returns-then-not-holds g t c =
    serves_meets g.G.Infix.meaning _ c.leaf.result (leaf_serves (g.G.Infix.grammar c.args.grammar.now) c.requires
    c.args.room _ c.peek-token.ensures.next (sym c.holds.ensures ∙ c.if-not-holds.true))
    c.leaf.ensures

pub operand-returns-then-room-eq0 : goal.operand-returns-then-room-eq0
operand-returns-then-room-eq0 g t c = grind (arith, too_deep, start_there)

pub operand-returns-in_err-plain : goal.operand-returns-in_err-plain
operand-returns-in_err-plain g t c =
    exit g.G.Infix.meaning _ _ _ (not_fails (g.G.Infix.grammar c.args.grammar.now) c.requires c.args.room _
    c.peek-token.ensures.next (sym c.holds.ensures ∙ c.if-not-holds.false)
    c.if-room-eq0.false c.skip.ensures.rest (c.is_kind.ensures.0 c.if-is_kind.true)) c.in_err-plain.ensures
    c.from_residual.ensures.1

pub operand-returns-then-is_kind : goal.operand-returns-then-is_kind
operand-returns-then-is_kind g t c =
    not_reads (g.G.Infix.grammar c.args.grammar.now) c.requires c.args.room _
    c.peek-token.ensures.next (sym c.holds.ensures ∙ c.if-not-holds.false)
    c.if-room-eq0.false c.skip.ensures.rest (c.is_kind.ensures.0 c.if-is_kind.true) c.in_ok-plain.ensures
    (negated_value g.G.Infix.meaning (g.G.Infix.grammar c.args.grammar.now).negated _ c.in_ok-negated.ensures
    c.in-Some.is)

pub operand-returns-in_err-inner : goal.operand-returns-in_err-inner
operand-returns-in_err-inner g t c =
    exit g.G.Infix.meaning _ _ _ (paren_fails (g.G.Infix.grammar c.args.grammar.now) c.requires c.args.room _
    c.peek-token.ensures.next (sym c.holds.ensures ∙ c.if-not-holds.false)
    c.if-room-eq0.false c.skip.ensures.rest (iff_false c.is_kind.ensures c.if-is_kind.false)) c.in_err-inner.ensures
    c.from_residual-in_err-inner.ensures.1

pub operand-returns-in_err-expect : goal.operand-returns-in_err-expect
operand-returns-in_err-expect g t c =
    exit g.G.Infix.meaning _ _ _ (paren_stays_open (g.G.Infix.grammar c.args.grammar.now) c.requires c.args.room _
    c.peek-token.ensures.next (sym c.holds.ensures ∙ c.if-not-holds.false)
    c.if-room-eq0.false c.skip.ensures.rest (iff_false c.is_kind.ensures c.if-is_kind.false) c.in_ok-inner.ensures)
    (c.in_err-expect.ensures is_right tests_right.is) c.from_residual-in_err-expect.ensures.1

pub operand-returns : goal.operand-returns
operand-returns g t c =
    paren_reads (g.G.Infix.grammar c.args.grammar.now) c.requires c.args.room _
    c.peek-token.ensures.next (sym c.holds.ensures ∙ c.if-not-holds.false)
    c.if-room-eq0.false c.skip.ensures.rest (iff_false c.is_kind.ensures c.if-is_kind.false) c.in_ok-inner.ensures
    (c.in_ok-expect.ensures is_right tests_right.is)
