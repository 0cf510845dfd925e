use Rattle.std.proofs.Common.{◌≡◌, ◌++◌, map, take}
use Rattle.ps_machine.specs.declared.key.Key.TheVariants.{Second}
use Rattle.ps_brief.proofs.arena.ArenaKeys.add_letters.Given as goal

abbrev pub invariant-loop-letter : goal.invariant-loop-letter
invariant-loop-letter l = record {
  list : l.self.list.items ≡ l.fn.self.list.items ++ map (λ x. Second l.state x) (take l.letter-index l.letters);
  firsts : l.self.firsts ≡ l.initial.self.firsts;
}
