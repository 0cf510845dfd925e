use Rattle.std.proofs.Common.{arith}
use Rattle.ps_text.proofs.ParsedAnswers.Exits.{reads_then, reads_mapped}
use Rattle.ps_hoa.specs.Grammar.Header.{header_data}
use Rattle.ps_hoa.proofs.Reading.HoaExits.{exit, first, behind, under}
use Rattle.ps_hoa.proofs.Grammar.ItemForms.{joint_counted_names}
use Rattle.ps_hoa.proofs.header.items.names.Goals as goal

pub returns-in_err-count : goal.returns-in_err-count
returns-in_err-count c = exit _ _ _ _ (first (joint_counted_names (header_data c.args.header.now)))
    c.in_err-count.ensures.part c.from_residual.ensures.1

pub returns-in_err-propositions : goal.returns-in_err-propositions
returns-in_err-propositions c = let h = header_data c.args.header.now in
    exit _ _ _ _ (grind (arith, behind, joint_counted_names, under)) c.in_err-propositions.ensures
    c.from_residual-in_err-propositions.ensures.1

pub returns : goal.returns
returns c = let h = header_data c.args.header.now in
    reads_then (joint_counted_names h) c.in_ok-count.ensures.part (grind (arith, reads_mapped))
