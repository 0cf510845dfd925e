use Rattle.std.proofs.Common.{◌≡◌, ◌≤◌, ◌<◌, ◌+◌, ℕ, drop, map, length, get_or, nat_eq}
use Rattle.ps_automaton.specs.Chains.{base_number, first_number, level_by}
use Rattle.ps_automaton.specs.Inner.Views.{link_data}
use Rattle.ps_automaton.proofs.numbers.table_of.Given as goal

-- for each acceptance set, the table has the priority that the links from the index k on give to an edge with only this
-- set
abbrev pub invariant-loop-k : goal.invariant-loop-k
invariant-loop-k l = record {
  within : l.k ≤ length l.chain.links.items;
  size : length l.by_set ≡ 64;
  base : l.base ≡ base_number l.chain.base;
  room : l.number + l.k ≤ 1 + length l.chain.links.items;
  number : l.number ≡ first_number l.chain.base (drop l.k (map link_data l.chain.links.items));
  by_set : (set : ℕ) → set < 64 → get_or l.by_set set 0 ≡ level_by l.chain.base
      (drop l.k (map link_data l.chain.links.items)) (λ s. nat_eq s set);
}

abbrev pub decreases-loop-k : goal.decreases-loop-k
decreases-loop-k l = l.k
