use Rattle.std.proofs.Common.{◌≡◌, ◌<◌, ℕ, length, get_or, rules}
use Rattle.std.proofs.lemmas.List.{get_or-map, length-map, map-append, take_more}
use Rattle.ps_game.proofs.numbers.Numbers.in_width.Given.{Over}
use Rattle.ps_game.proofs.numbers.Numbers.in_width.Goals as goal
use Rattle.ps_game.proofs.numbers.Numbers.in_width.Goals.{After-number}

within : (g : Over) (c : After-number g) → c.loop-item.item-index < length c.args.self.now
within g c = search (rules, length-map)

-- the number that is read is the next entry of the list
read : (g : Over) (c : After-number g) (d : ℕ) → get_or c.args.self.now c.loop-item.item-index d ≡ c.number.result
read g c d = search (rules, get_or-map)

pub of-requires : goal.of-requires
of-requires g c = rw (read g c 0) at (c.requires c.loop-item.item-index 0 (within g c))

pub loop-item-preserved : goal.loop-item-preserved
loop-item-preserved g c = record {
  copied =
      let there = (goal.at.loop-item-preserved g c).After-number in
      rw (take_more c.args.self.now c.loop-item.item-index 0 (within g there), read g there 0)
      (rw (c.push_reserved.ensures.items, map-append, c.of.ensures, c.loop-item.invariant.copied));
  count = search rules;
  room = search rules;
}
