use Rattle.std.proofs.Common.{arith, ◌≡◌, refl, map, length, sym, subst, ap, ◌∙◌, rules}
use Rattle.std.proofs.lemmas.List.{length-map}
use Rattle.ps_game.specs.Drafts.{without_repeats, NoneBare, NoneUnknown}
use Rattle.ps_game.specs.Games.{ParityGame, vertex_count}
use Rattle.ps_game.specs.Names.{name_bytes}
use Rattle.ps_pgsolver.specs.GamesOf.{draft_of, game_of}
use Rattle.ps_pgsolver.specs.Nodes.{AreNodes, ids_of}
use Rattle.ps_pgsolver.proofs.ReadGames.GameLemmas.{draft_bare, draft_known, named_count}
use Rattle.ps_pgsolver.proofs.ReadGames.KeptLemmas.{ids_are, names_are, each_is_id, draft_is, few_names, plain_kept}
use Rattle.ps_pgsolver.proofs.ReadGames.NodeLemmas.{names_plain}
use Rattle.ps_pgsolver.proofs.node.Nodes.into_game.Goals as goal
use Rattle.ps_pgsolver.proofs.node.Nodes.into_game.Goals.{After-resolve, In_ok-game}

pub resolve-requires : goal.resolve-requires
resolve-requires c = search (rules, each_is_id)

draft : (c : After-resolve) → c.resolve.new.self ≡ draft_of (ids_of c.args.self) c.args.self
draft c = c.resolve.ensures ∙ draft_is _ _ _ c.self.invariant c.args.self c.self.view_is

pub into_game-requires-clause-bare : goal.into_game-requires-clause-bare
into_game-requires-clause-bare c = let are = subst AreNodes c.self.view_is c.self.invariant.well_formed in
    subst (λ (g : ParityGame). NoneBare g) (sym (draft (goal.at.into_game-requires-clause-bare c).After-resolve))
    (draft_bare (ids_of c.args.self) c.args.self are.each)

pub into_game-requires-clause-known : goal.into_game-requires-clause-known
into_game-requires-clause-known c = subst (λ (g : ParityGame). NoneUnknown g)
    (sym (draft (goal.at.into_game-requires-clause-known c).After-resolve)) (draft_known c.args.self refl c.requires)

ids : (c : In_ok-game) → c.self.inside.ids ≡ ids_of c.args.self
ids c = ids_are _ _ _ c.self.invariant c.args.self c.self.view_is

game : (c : In_ok-game) → c.in_ok-game.game ≡ game_of c.args.self
game c = c.in_ok-game.ensures ∙ ap (λ (g : ParityGame). without_repeats g) (draft (goal.at.In_ok-game c).After-resolve)

count : (c : In_ok-game) → vertex_count c.in_ok-game.game ≡ length c.self.inside.ids
count c = search (rules, named_count, game, length-map, ids)

pub with_first_names-requires-clause-id_each : goal.with_first_names-requires-clause-id_each
with_first_names-requires-clause-id_each c = search (rules, count)

pub with_first_names-requires-clause-names_of_vertices : goal.with_first_names-requires-clause-names_of_vertices
with_first_names-requires-clause-names_of_vertices c = search (rules, length-map, few_names, count)

pub with_first_names-requires-clause-names_plain : goal.with_first_names-requires-clause-names_plain
with_first_names-requires-clause-names_plain c = let are = subst AreNodes c.self.view_is c.self.invariant.well_formed in
    plain_kept (length c.self.inside.ids) (map name_bytes c.self.inside.names.items)
    (names_plain (names_are _ _ _ c.self.invariant c.args.self c.self.view_is) are)

pub returns : goal.returns
returns c = let a = (goal.at.returns c).In_ok-game in grind (arith, game a, ids a, count, names_are)
