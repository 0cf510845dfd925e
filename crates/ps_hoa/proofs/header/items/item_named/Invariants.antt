use Rattle.std.proofs.Common.{◌≡◌, drop}
use Rattle.ps_hoa.specs.Grammar.ItemNames.{item_among, item_named}
use Rattle.ps_hoa.proofs.Grammar.ItemRows.{rows_of}
use Rattle.ps_hoa.proofs.header.items.item_named.Given as goal

abbrev pub invariant-loop-spelled : goal.invariant-loop-spelled
invariant-loop-spelled l = item_named l.name ≡ item_among (rows_of (drop l.spelled-index l.rows)) l.name
