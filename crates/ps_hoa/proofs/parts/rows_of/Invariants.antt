use Rattle.std.proofs.Common.{◌≡◌, map}
use Rattle.ps_hoa.specs.Sound.{edges_of}
use Rattle.ps_hoa.specs.Views.{row_data}
use Rattle.ps_hoa.proofs.parts.rows_of.Given as goal

abbrev pub invariant-loop-row : goal.invariant-loop-row
invariant-loop-row l = record {
  rows : map row_data l.made.rows.items ≡ map row_data l.yielded;
  edges : l.made.edges ≡ edges_of (map row_data l.yielded);
}
