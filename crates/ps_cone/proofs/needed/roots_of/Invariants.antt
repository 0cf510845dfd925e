use Rattle.std.proofs.Common.{◌≡◌, take}
use Rattle.ps_cone.specs.Inner.Needed.{roots_of}
use Rattle.ps_cone.proofs.needed.roots_of.Given as goal

abbrev pub invariant-loop-output : goal.invariant-loop-output
invariant-loop-output l = l.roots.items ≡ roots_of l.variables (take l.output-index l.outputs)
