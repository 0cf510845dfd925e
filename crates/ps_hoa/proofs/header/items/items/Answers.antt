use Rattle.std.proofs.Common.{arith, ◌≡◌, Option, is_some, ap, sym, ◌∙◌}
use Rattle.ps_text.specs.Answers.{Piece, Stream}
use Rattle.ps_hoa.specs.Grammar.Header.{item_in, header_data}
use Rattle.ps_hoa.specs.Scan.{next_of, stream_of}
use Rattle.ps_hoa.specs.Tokens.{Sign}
use Rattle.ps_hoa.specs.declared.header.items.Item.{Item}
use Rattle.ps_hoa.proofs.Grammar.WholeHeader.{item_loop, item_begins, item_elsewhere}
use Rattle.ps_hoa.proofs.Reading.HoaExits.{exit, loop_more, loop_fails, loop_ends, loop_shrinks}
use Rattle.ps_hoa.proofs.header.items.items.Goals as goal

-- the next token begins an item exactly if the code finds an item
at_next : (s : Stream Sign) {piece : Piece Sign} {o : Option Item} → piece ≡ next_of s → o ≡ item_in piece.sign →
    is_some (item_in (next_of s).sign) ≡ is_some o
at_next s {piece} n e = sym (ap (λ (p : Piece Sign). is_some (item_in p.sign)) n) ∙ ap is_some (sym e)

pub items-init : goal.items-init
items-init c = grind arith

pub items-smaller : goal.items-smaller
items-smaller c = loop_shrinks item_loop c.in_ok-read_item.ensures

pub items-preserved : goal.items-preserved
items-preserved c = loop_more item_loop c.items.invariant c.in_ok-read_item.ensures

pub returns-in_err-read_item : goal.returns-in_err-read_item
returns-in_err-read_item c = let s = stream_of c.items.tokens in
    exit _ _ _ _ (loop_fails item_loop c.items.invariant (item_begins s (header_data c.items.header)
    (at_next s c.peek.ensures.next c.item_at.ensures ∙ sym c.is_some.ensures ∙ c.items-test.true)))
    c.in_err-read_item.ensures c.from_residual.ensures.1

pub returns : goal.returns
returns c = let s = stream_of c.items.tokens in
    loop_ends item_loop c.items.invariant (item_elsewhere s
    (at_next s c.peek.ensures.next c.item_at.ensures ∙ sym c.is_some.ensures ∙ c.items-test.false))
