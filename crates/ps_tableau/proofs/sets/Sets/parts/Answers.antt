use Rattle.std.proofs.Common.{◌≡◌, ◌-◌, ◌<◌, arith, length, Some, sym, ◌∙◌}
use Rattle.std.proofs.lemmas.Option.{slice_get-get_or}
use Rattle.std.specs.List.{slice_get}
use Rattle.ps_tableau.proofs.SetLemmas.{is_empty, not_empty, parts_of}
use Rattle.ps_tableau.proofs.sets.Sets.parts.Goals as goal

pub returns-then-eq : goal.returns-then-eq
returns-then-eq c = is_empty c.args.set (sym c.eq.ensures ∙ c.if-eq.true)

pub returns : goal.returns
returns c =
    let pairs = c.args.self.now in
    let set = c.args.set in
    let same : c.set.inside.number ≡ set = c.set.view_is in
    let some : 0 < set = not_empty set (sym c.eq.ensures ∙ c.if-eq.false) in
    let low : set - 1 < length pairs = omega (arith, some, c.requires) in
    let there = slice_get-get_or pairs (set - 1) c.index-pairs-set.result low in
    let at : slice_get pairs (set - 1) ≡ Some c.index-pairs-set.result = cc in
    parts_of pairs set c.index-pairs-set.result (rw c.self.view_is at c.self.invariant) some c.requires at
