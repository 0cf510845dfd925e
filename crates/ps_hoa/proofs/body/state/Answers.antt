use Rattle.std.proofs.Common.{sym}
use Rattle.ps_hoa.proofs.Reading.HoaExits.{value_is}
use Rattle.ps_hoa.proofs.body.state.Goals as goal

pub returns : goal.returns
returns c = value_is (sym c.in_ok-push.ensures) c.in_ok-row.ensures.part
