use Rattle.std.proofs.Common.{ap}
use Rattle.ps_hoa.specs.Views.{guard_data}
use Rattle.ps_mixing.proofs.rows.guard_mixed.Goals as goal

pub unreachable-requires : goal.unreachable-requires
unreachable-requires c = c.requires.label c.in-Letter.field-0 (ap guard_data c.in-Letter.is)
