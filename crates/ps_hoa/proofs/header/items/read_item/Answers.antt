use Rattle.ps_text.proofs.ParsedAnswers.Exits.{then_meets}
use Rattle.ps_hoa.specs.Causes.{found_of, hoa_causes}
use Rattle.ps_hoa.specs.Grammar.Header.{header_data}
use Rattle.ps_hoa.proofs.Grammar.WholeHeader.{joint_item}
use Rattle.ps_hoa.proofs.Reading.HoaExits.{exit, first}
use Rattle.ps_hoa.proofs.header.items.read_item.Goals as goal

pub returns-in_err-item : goal.returns-in_err-item
returns-in_err-item c = exit _ _ _ _ (first (joint_item (header_data c.args.header.now))) c.in_err-item.ensures
    c.from_residual.ensures.1

pub returns : goal.returns
returns c = then_meets found_of hoa_causes _ _ c.behind_name.result (joint_item (header_data c.args.header.now))
    c.in_ok-item.ensures c.behind_name.ensures
