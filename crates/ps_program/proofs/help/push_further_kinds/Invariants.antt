use Rattle.std.proofs.Common.{◌≡◌, ◌++◌, take}
use Rattle.std.specs.String.{string_bytes}
use Rattle.ps_program.specs.Help.{further_kinds}
use Rattle.ps_program.proofs.help.push_further_kinds.Given as goal

-- the kinds of texts before the loop's index have been appended
abbrev pub invariant-loop-kind : goal.invariant-loop-kind
invariant-loop-kind l = string_bytes l.text ≡ string_bytes l.fn.text ++ further_kinds (take l.kind-index l.kinds)
