use Rattle.std.proofs.Common.{ℕ, map, take}
use Rattle.std.specs.List.{AllZip}
use Rattle.ps_machine.specs.Inner.Moving.{leaf_keys}
use Rattle.ps_machine.specs.Numbering.{StandsAt}
use Rattle.ps_brief.specs.Listings.{listed_keys}
use Rattle.ps_brief.proofs.arena.find_moves.Given as goal

-- the vertices of the leaves that were visited so far
abbrev pub invariant-loop-leaf : goal.invariant-loop-leaf
invariant-loop-leaf l = AllZip (StandsAt (listed_keys l.listing)) l.successors.items
    (leaf_keys l.setting.automaton.now (map (λ (p : ℕ × ℕ). p.0) (take l.leaf-index l.leaf-items)))
