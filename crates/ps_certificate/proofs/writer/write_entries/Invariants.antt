use Rattle.std.proofs.Common.{◌≡◌, ◌++◌, drop, take}
use Rattle.std.specs.List.{All}
use Rattle.ps_certificate.specs.Written.{entry_lines, IsWord}
use Rattle.ps_certificate.proofs.writer.write_entries.Given as goal

abbrev pub invariant-loop-vertex : goal.invariant-loop-vertex
invariant-loop-vertex l = record {
  bytes : l.out.items ++ entry_lines l.compact l.odd l.even l.game.ids l.vertex (drop l.vertex l.entries) ≡
      l.initial.out.items ++ entry_lines l.compact l.odd l.even l.game.ids 0 l.entries;
  ids : All IsWord (take l.vertex l.game.ids);
  counts : All (λ entry. All IsWord entry.counts) (take l.vertex l.entries);
}
