use Rattle.std.proofs.Common.{◌-◌, arith}
use Rattle.ps_circuit.specs.Texts.{WrongCount}
use Rattle.ps_text.proofs.BytesAndDigits.Bytes.Lefts.{stops_at, exits_at}
use Rattle.ps_circuit.proofs.ReadCircuits.NumberLemmas.{number_none, sections_end, sections_unread, section_unread}
use Rattle.ps_circuit.proofs.ReadCircuits.NumberLemmas.{sections_ended}
use Rattle.ps_circuit.proofs.ReadCircuits.NumberLemmas.{sections_next, count_zero, count_wrong}
use Rattle.ps_circuit.proofs.ReadCircuits.CircuitTextLaws.{laws_sections, chain_sections, chain_counted}
use Rattle.ps_circuit.proofs.header.+sections.Goals as goal

pub returns-then-left-eq0 : goal.returns-then-left-eq0
returns-then-left-eq0 t c = grind (arith, sections_end)

pub returns-in_err-more : goal.returns-in_err-more
returns-in_err-more t c = exits_at (chain_sections (c.args.left - 1)) (sections_unread c.args.left (omega arith)) _ _ _
    _ c.in_err-more.ensures c.from_residual.ensures.1

pub returns-then-not-branch : goal.returns-then-not-branch
returns-then-not-branch t c = sections_ended c.args.left (omega arith) c.if-not-branch.true c.in_ok-more.ensures

pub returns-in_err-count : goal.returns-in_err-count
returns-in_err-count t c = exits_at (chain_counted (c.args.left - 1) (laws_sections (c.args.left - 1)))
    (section_unread c.args.left (omega arith) c.if-not-branch.false c.in_ok-more.ensures) _ _ _ _
    (number_none WrongCount c.number.new.cursor _ c.in_err-count.ensures) c.from_residual-in_err-count.ensures.1

pub returns-then-count-ne0 : goal.returns-then-count-ne0
returns-then-count-ne0 t c = stops_at (chain_counted (c.args.left - 1) (laws_sections (c.args.left - 1)))
    (section_unread c.args.left (omega arith) c.if-not-branch.false c.in_ok-more.ensures) _ (grind (arith, count_wrong))

pub returns : goal.returns
returns t c = sections_next c.sections.new.cursor c.args.left c.sections.result
    (section_unread c.args.left (omega arith) c.if-not-branch.false c.in_ok-more.ensures)
    (count_zero c.in_ok-count.ensures (omega arith)) c.sections.ensures
