use Rattle.std.proofs.Common.{◌≡◌, ◌+◌, ◌≤◌, suc, arith, length}
use Rattle.std.proofs.lemmas.List.{get_or_default}
use Rattle.std.proofs.lemmas.Option.{slice_get_past}
use Rattle.ps_game.proofs.StoredGames.NameParts.{count_of_parts, part_at}
use Rattle.ps_game.proofs.names.Names.get.Goals as goal
use Rattle.ps_game.proofs.names.Names.get.Goals.{After-index-2}

pub returns-then-place-len : goal.returns-then-place-len
returns-then-place-len c = grind (arith, count_of_parts, slice_get_past)

-- the offset of the name is at most the next offset
rises : (c : After-index-2) → c.index.result.now ≤ c.index-2.result.now
rises c =
    let names = c.self.inside in
    let place = c.args.place in
    let part = part_at names.offsets.items names.bytes.items place c.self.invariant (omega arith) in
    let next : suc place ≡ place + 1 = omega arith in
    grind (arith, part.rises, get_or_default)

-- the next offset is at most the number of bytes
fits : (c : After-index-2) → c.index-2.result.now ≤ length c.self.inside.bytes.items
fits c =
    let names = c.self.inside in
    let place = c.args.place in
    let part = part_at names.offsets.items names.bytes.items place c.self.invariant (omega arith) in
    let next : suc place ≡ place + 1 = omega arith in
    grind (arith, part.fits, get_or_default)

pub slice_bounds-result-count : goal.slice_bounds-result-count
slice_bounds-result-count c = rises (goal.at.slice_bounds-result-count c).After-index-2

pub slice_bounds-result-start : goal.slice_bounds-result-start
slice_bounds-result-start c = rises (goal.at.slice_bounds-result-start c).After-index-2

pub slice_bounds-result-end : goal.slice_bounds-result-end
slice_bounds-result-end c = grind (arith, fits)

pub returns : goal.returns
returns c =
    let names = c.self.inside in
    let place = c.args.place in
    let part = part_at names.offsets.items names.bytes.items place c.self.invariant (omega arith) in
    let next : suc place ≡ place + 1 = omega arith in
    grind (arith, part.is, get_or_default)
