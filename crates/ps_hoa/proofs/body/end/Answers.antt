use Rattle.std.proofs.Common.{arith}
use Rattle.ps_text.specs.Parts.{one}
use Rattle.ps_text.proofs.ParsedAnswers.MeetsLemmas.{meets_mapped}
use Rattle.ps_hoa.specs.Grammar.Body.{is_end, IsBadClose}
use Rattle.ps_hoa.specs.Causes.{found_of, hoa_causes}
use Rattle.ps_hoa.specs.Grammar.Operands.{expect_in}
use Rattle.ps_hoa.specs.Inner.Rows.{body_data}
use Rattle.ps_hoa.specs.Grammar.Header.{header_data}
use Rattle.ps_hoa.proofs.Grammar.HeaderSigns.{reads_token}
use Rattle.ps_hoa.proofs.Reading.StateReading.{end_signs}
use Rattle.ps_hoa.proofs.body.end.Goals as goal

pub returns : goal.returns
returns c =
    let h = header_data c.args.header.now in
    let b = body_data c.args.rows.now in
    meets_mapped found_of hoa_causes (λ u. u) (λ _. b) (one (expect_in is_end) (IsBadClose h b)) _ _ c.end_of.result
    (grind (arith, reads_token, end_signs))
