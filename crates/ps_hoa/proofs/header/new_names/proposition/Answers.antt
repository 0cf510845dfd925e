use Rattle.std.proofs.Common.{arith, sym}
use Rattle.ps_text.proofs.ParsedAnswers.Exits.{reads_mapped}
use Rattle.ps_hoa.specs.Grammar.Header.{with_name}
use Rattle.ps_hoa.proofs.Reading.HoaExits.{exit, under, value_is}
use Rattle.ps_hoa.proofs.header.new_names.proposition.Goals as goal

pub returns-in_err-name : goal.returns-in_err-name
returns-in_err-name c = let names = c.args.names.now in
    exit _ _ _ _ (grind (arith, under)) c.in_err-name.ensures.part c.from_residual.ensures.1

pub returns : goal.returns
returns c = value_is (sym c.in_ok-push.ensures.ok) (reads_mapped (with_name c.args.names.now) c.in_ok-name.ensures.part)
