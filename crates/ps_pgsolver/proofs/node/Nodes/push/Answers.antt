use Rattle.std.proofs.Common.{◌≡◌, ◌++◌, ◌∷◌, [], map, length, length-append, arith, rules}
use Rattle.ps_game.specs.Games.{VertexData}
use Rattle.ps_game.specs.Names.{name_bytes, with_none}
use Rattle.ps_pgsolver.proofs.ReadGames.KeptLemmas.{ids_are, names_pushed, pushed_is, AreKept-push}
use Rattle.ps_pgsolver.proofs.node.Nodes.push.Goals as goal
use Rattle.ps_pgsolver.proofs.node.Nodes.push.Goals.{After-keep_name}

pub push-requires-2 : goal.push-requires-2
push-requires-2 c = search (rules, ids_are)

abbrev vertex_of : After-keep_name → VertexData
vertex_of c = record { owner = c.args.node.owner; priority = c.args.node.priority; successors = c.args.successors.now }

names_kept : (c : After-keep_name) → with_none (length c.push-2.new.self) (map name_bytes c.keep_name.new.names.items) ≡
    with_none (length c.self.inside.ids) (map name_bytes c.self.inside.names.items) ++ name_bytes c.args.node.name ∷ []
names_kept c = grind (arith, length-append, names_pushed)

pub invariant_of-self-2 : goal.invariant_of-self-2
invariant_of-self-2 c = let b = (goal.at.invariant_of-self-2 c).After-keep_name in AreKept-push _
    _ _ c.self.invariant c.args.self.now c.self.view_is _ _ _ c.args.node.id (vertex_of b) (name_bytes c.args.node.name)
    c.in_default.ensures.ok c.in_ok-push.ensures.ok (names_kept b) c.requires.new c.requires.node

pub returns : goal.returns
returns c = let b = (goal.at.returns c).After-keep_name in
    pushed_is _ _ _ c.self.invariant c.args.self.now c.self.view_is _ _ _ c.args.node.id
    (vertex_of b) (name_bytes c.args.node.name) c.in_default.ensures.ok c.in_ok-push.ensures.ok (names_kept b)
