use Rattle.std.proofs.Common.{◌≡◌, ◌∙◌, ap, length, sym, arith, rules}
use Rattle.std.specs.List.{range_with_len}
use Rattle.std.proofs.lemmas.List.{length-map}
use Rattle.std.proofs.lemmas.List.FromFn.{length-range_with_len}
use Rattle.std.proofs.lemmas.Option.{slice_get_within}
use Rattle.ps_game.specs.Games.{vertex_count}
use Rattle.ps_machine.specs.Boards.{IsGameOf}
use Rattle.ps_machine.specs.BuiltBoards.{board_of}
use Rattle.ps_machine.specs.KeyNames.{AreNamed}
use Rattle.ps_machine.specs.Keys.{mover_of}
use Rattle.ps_machine.proofs.FileBoards.{game_of_file}
use Rattle.ps_machine.proofs.AutomatonGames.GameKeys.KeyNames.{ids_differ}
use Rattle.ps_machine.proofs.game.with_names.Goals as goal

pub with_names-requires : goal.with_names-requires
with_names-requires c =
    let count = vertex_count c.args.game in
    let all = c.requires.by_keys.count in
    let is = c.in_ok-ids.ensures ∙ ap (range_with_len 0) c.count.ensures.vertices in
    let ids : length c.in_ok-ids.ids.items ≡ count = ap length is ∙ length-range_with_len 0 count in
    let names : length c.in_ok-names.names ≡ length c.args.keys.now = search (rules, length-map) in
    record {
      id_each = omega (arith, c.in_ok-ids.ids.ok, ids);
      name_each = omega (arith, names, all);
      ids_differ = rw is (ids_differ count);
      names_plain = c.in_ok-names.ensures.plain;
    }

pub returns : goal.returns
returns c =
    let board = board_of c.args.order c.args.automaton.now in
    let all : vertex_count c.args.game ≡ length c.args.keys.now = sym c.requires.by_keys.count in
    let is_game : IsGameOf board (mover_of c.args.order) c.args.keys.now c.with_names.result.game =
    rw c.with_names.ensures.game c.requires in
    let are_named : AreNamed board c.args.keys.now c.with_names.result = search rules in
    record {
      game = is_game;
      named = are_named;
      file = search (rules, game_of_file);
      some = search (rules, slice_get_within);
    }
