use Rattle.std.proofs.Common.{map, sym, subst, ◌∙◌, arith, rules}
use Rattle.std.specs.List.{Contains}
use Rattle.std.proofs.lemmas.List.{ext_get_or, length-map, get_or-map}
use Rattle.ps_ids.specs.Ids.{place_of}
use Rattle.ps_ids.proofs.Members.{any-from_Contains}
use Rattle.ps_game.proofs.vertices.places_in.Goals as goal

pub unwrap-place-requires : goal.unwrap-place-requires
unwrap-place-requires c = c.place.ensures.member ∙ any-from_Contains _ c.args.ids.now
    (subst (λ id. Contains c.args.ids.now id) (sym (c.loop-at.invariant.left c.loop-at.at (omega arith))) (grind arith))

pub returns : goal.returns
returns c =
    let old = c.args.numbers.now in
    ext_get_or 0 _ (map (place_of c.args.ids.now) old) (search (rules, length-map, c.loop-at.auto.numbers))
    (λ k lt. search (rules, get_or-map, c.loop-at.invariant.done, c.loop-at-test.false, c.loop-at.auto.numbers))
