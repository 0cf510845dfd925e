use Rattle.std.proofs.Common.{◌≡◌, ◌∙◌, ◌+◌, ◌++◌, ◌∷◌, [], ◌<◌, ap, arith, length, List, nat_eq, rules, ℕ, Some}
use Rattle.indexmap.specs.IndexMap.{get}
use Rattle.ps_machine.proofs.AutomatonGames.GameKeys.Standing.{range_next}
use Rattle.ps_brief.specs.Listings.{listed_keys}
use Rattle.ps_brief.proofs.BriefArenas.ArenaSuccessors.{basis_at, basis_found}
use Rattle.ps_brief.proofs.arena.ArenaKeys.find_basis.Goals as goal

pub overflow_add-first : goal.overflow_add-first
overflow_add-first c =
    let there : get nat_eq c.args.self.now.firsts c.args.state ≡ Some c.unwrap-first.result.now = search rules in
    let below : c.unwrap-first.result.now + c.loop-place.place < length c.args.self.now.list.items =
    basis_at c.requires.0 c.args.bases.now c.args.self.now (length (listed_keys c.requires.0)) c.args.state
    c.unwrap-first.result.now c.requires.1 there c.letters-place-end.result.now c.loop-place.place
    c.letters-place-end.ensures c.loop-place-test.true in
    let ok = c.args.self.now.list.ok in
    grind (arith, below, ok)

pub loop-place-preserved : goal.loop-place-preserved
loop-place-preserved c = c.in_ok-push.ensures.items
    ∙ ap (λ (xs : List ℕ). xs ++ (c.unwrap-first.result.now + c.loop-place.place) ∷ []) c.loop-place.invariant
    ∙ range_next c.unwrap-first.result.now c.loop-place.place

pub returns : goal.returns
returns c =
    let there : get nat_eq c.args.self.now.firsts c.args.state ≡ Some c.unwrap-first.result.now = search rules in
    basis_found c.requires.0 c.args.bases.now c.args.self.now (length (listed_keys c.requires.0)) c.args.state
    c.unwrap-first.result.now c.requires.1 there c.letters-place-end.result.now c.loop-place.successors.items
    c.loop-place.place c.letters-place-end.ensures c.loop-place.auto.place-end c.loop-place-test.false
    c.loop-place.invariant
