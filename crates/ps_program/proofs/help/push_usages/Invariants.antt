use Rattle.std.proofs.Common.{◌≡◌, ◌++◌, map, take}
use Rattle.std.specs.Prelude.{flat_map}
use Rattle.std.specs.String.{string_bytes}
use Rattle.ps_program.specs.Help.{usage_text}
use Rattle.ps_program.specs.Inner.Usages.{usage_of}
use Rattle.ps_program.proofs.help.push_usages.Given as goal

-- the help lines of the commands before the loop's index have been appended
abbrev pub invariant-loop-usage : goal.invariant-loop-usage
invariant-loop-usage l = string_bytes l.text ≡ string_bytes l.fn.text ++
    flat_map usage_text (map usage_of (take l.usage-index l.usages))
