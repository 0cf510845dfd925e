use Rattle.std.proofs.Common.{◌≡◌, ◌++◌, map, take, drop, length, sym, arith, rules}
use Rattle.std.proofs.lemmas.Grind.{common_steps}
use Rattle.std.specs.List.{Contains}
use Rattle.ps_ids.specs.Ids.{place_of}
use Rattle.ps_game.specs.Drafts.{with_places}
use Rattle.ps_game.proofs.StoredGames.FlatArrays.{All-successors}
use Rattle.ps_game.proofs.StoredGames.VertexArrays.{StandFor, stand_for, players-placed, tell_placed, with_places-same}
use Rattle.ps_game.proofs.vertices.Vertices.resolve.Goals as goal
use Rattle.ps_game.proofs.vertices.Vertices.resolve.Goals.{After-places_in}

pub returns-then-are_places : goal.returns-then-are_places
returns-then-are_places c =
    let own = rw c.list.ensures.list at (c.are_places.ensures.0 c.if-are_places.true) in
    sym (with_places-same c.args.ids.now own c.args.self.now c.requires)

pub places_in-requires : goal.places_in-requires
places_in-requires c = rw (c.deref_mut.ensures.value, c.self.invariant.tell.successors_are, c.self.view_is)
    (All-successors (λ w. Contains c.args.ids.now w) c.args.self.now c.requires)

placed : (c : After-places_in) →
    let s = c.self.inside in
    let ids = c.args.ids.now in
    StandFor (map (with_places ids) c.args.self.now) s.offsets.items
    (take s.successors.len (c.places_in.new.numbers ++ drop (length c.places_in.new.numbers) s.successors.items))
    s.owners.items s.priorities.items
placed c =
    let s = c.self.inside in
    let ids = c.args.ids.now in
    let written : take s.successors.len (c.places_in.new.numbers ++
    drop (length c.places_in.new.numbers) s.successors.items) ≡ map (place_of ids) s.successors.items =
    grind (arith, common_steps) in
    stand_for (tell_placed ids (rw c.self.view_is at c.self.invariant.tell) written) (search (rules, players-placed))

pub invariant_of-self : goal.invariant_of-self
invariant_of-self c = search (rules, placed)

pub returns : goal.returns
returns c = search (rules, placed)
