use Rattle.std.proofs.Common.{◌↔◌, drop}
use Rattle.ps_label.specs.Truth.{expressions}
use Rattle.ps_hoa.specs.Grammar.Header.{AnAliasBeyond}
use Rattle.ps_hoa.proofs.header.flaws.is_alias_beyond.Given as goal

abbrev pub invariant-loop-alias : goal.invariant-loop-alias
invariant-loop-alias l =
    AnAliasBeyond l.count (expressions (drop l.alias-index l.aliases)) ↔ AnAliasBeyond l.count (expressions l.aliases)
