use Rattle.std.proofs.Common.{◌≡◌, map, take}
use Rattle.ps_hoa.specs.Values.{condition_of}
use Rattle.ps_mixing.proofs.copies.+condition_copied.Given as goal

abbrev pub invariant-each_copied-loop-condition : goal.invariant-each_copied-loop-condition
invariant-each_copied-loop-condition l =
    map condition_of l.made.items ≡ map condition_of (take l.condition-index l.conditions)
