-- For each order of moves, the player who moves first is player 0 or player 1.
use Rattle.std.proofs.Common.{◌<◌, rules}
use Rattle.ps_machine.specs.Keys.{mover_of}
use Rattle.ps_machine.specs.declared.key.Order.{Order}

-- the player who moves first is player 0 or player 1
pub small_mover : (order : Order) → mover_of order < 2
small_mover order = search rules
