use Rattle.std.proofs.Common.{arith}
use Rattle.std.proofs.lemmas.Bool.{iff_false}
use Rattle.ps_text.proofs.ParsedAnswers.Exits.{reads_give}
use Rattle.ps_hoa.specs.Grammar.Header.{header_data}
use Rattle.ps_hoa.proofs.Reading.BodyReading.{braces_serve, no_braces_serve}
use Rattle.ps_hoa.proofs.Reading.HoaExits.{serves_meets}
use Rattle.ps_hoa.specs.Marks.{mark_list}
use Rattle.ps_hoa.proofs.body.edges.marks.Goals as goal

pub returns-then-is_at : goal.returns-then-is_at
returns-then-is_at c = serves_meets mark_list _ c.sets.result
    (braces_serve (header_data c.args.header.now) _ (c.is_at.ensures.0 c.if-is_at.true)) (grind arith)

pub returns-else-is_at : goal.returns-else-is_at
returns-else-is_at c = (
    (no_braces_serve (header_data c.args.header.now) _ (grind (arith, iff_false))).reads _ _ (reads_give _ _))
