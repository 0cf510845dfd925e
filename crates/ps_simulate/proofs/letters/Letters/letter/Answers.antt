use Rattle.std.proofs.Common.{◌+◌, ◌*◌, ◌<◌, ◌≤◌, length, arith}
use Rattle.ps_simulate.proofs.LapsOfRuns.BitLists.{length-letters_in, slice_get-letters_in, letter_within}
use Rattle.ps_simulate.proofs.letters.Letters.letter.Goals as goal
use Rattle.ps_simulate.proofs.letters.Letters.letter.Goals.{After-self}

-- the index is less than the number of letters
is_there : (c : After-self) → c.args.place < c.self.inside.count
is_there c = grind (arith, length-letters_in)

-- the bits of the letter are within the list of all bits
within : (c : After-self) → c.args.place * c.self.inside.width + c.self.inside.width ≤ length c.self.inside.bits.items
within c = letter_within c.args.place c.self.inside.count c.self.inside.width (is_there c) c.self.invariant

pub overflow_mul-start : goal.overflow_mul-start
overflow_mul-start c = omega (arith, within c, c.self.inside.bits.small, c.self.inside.bits.ok)

pub overflow_add-result : goal.overflow_add-result
overflow_add-result c = grind (arith, within)

pub slice_bounds-result-end : goal.slice_bounds-result-end
slice_bounds-result-end c = grind (arith, within)

pub returns : goal.returns
returns c =
    let a = (goal.at.returns c).After-self in
    let width = c.self.inside.width in
    grind (arith, slice_get-letters_in width c.self.inside.count c.self.inside.bits.items c.args.place (is_there a))
