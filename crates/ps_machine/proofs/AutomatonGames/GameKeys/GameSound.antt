-- The game of a file meets the definition of a game: each vertex has at least one successor, and its successors differ.
use Rattle.std.proofs.Common.{◌≢◌, ℕ, ◌+◌, ◌<◌, Bool, not, List, length, map, get_or, sym, subst, arith}
use Rattle.std.specs.List.{AllPairs}
use Rattle.std.proofs.lemmas.List.{length-map}
use Rattle.std.proofs.lemmas.List.Elements.{All-contains}
use Rattle.std.proofs.lemmas.Slice.Zip.{AllZip-long}
use Rattle.ps_game.specs.Games.{NamedGameData, ParityGame, IsGame, vertex_count, successors_of}
use Rattle.ps_diagram.specs.Letters.{IsBefore}
use Rattle.ps_hoa.specs.Files.{FileData}
use Rattle.ps_machine.specs.Boards.{Board, IsGameOf, LeadsTo}
use Rattle.ps_machine.specs.FileGames.{IsGameOfFile, board_of_file}
use Rattle.ps_machine.specs.Keys.{mover_of, owner_of_key}
use Rattle.ps_machine.specs.Numbering.{IsVertexOf, StandsAt}
use Rattle.ps_machine.specs.declared.key.Key.{Key}
use Rattle.ps_machine.specs.declared.key.Key.TheVariants.{First, Second}
use Rattle.ps_machine.specs.declared.key.Order.{Order}
use Rattle.ps_machine.proofs.AutomatonGames.BoardLetters.{not_before_itself}
use Rattle.ps_machine.proofs.AutomatonGames.BoardSteps.{pairs_map, second_same}
use Rattle.ps_machine.proofs.AutomatonGames.DecidedMoves.{class_there, move_there, over_first, over_second, part_over}
use Rattle.ps_machine.proofs.AutomatonGames.DecidedMoves.{same_priorities}
use Rattle.ps_machine.proofs.AutomatonGames.DecidedMoves.{same_states}
use Rattle.ps_machine.proofs.AutomatonGames.GameKeys.Standing.{stand-apart, stand-within}
use Rattle.ps_machine.proofs.AutomatonGames.Movers.{small_mover}

-- the list has the keys of a vertex's successors: it is not empty, and has no key twice
record IsFull (next : List Key) : Type 0 where
  some : 0 < length next
  differ : AllPairs (λ x y. x ≢ y) next

next_full : (board : Board) (key : Key) (next : List Key) → LeadsTo board key next → IsFull next
next_full board (First q p) next (letters, listed, e) =
    let key : ℕ → Key = λ x. Second q x in
    let class = class_there board q (over_first board (part_over board.propositions board.is_first 0)) in
    let there = listed.complete class.0 class.1 in
    let full : IsFull (map key letters) = record {
      some = omega (arith, there.1, length-map letters key);
      differ = pairs_map (λ x y. x ≢ y) key letters 0 (λ i j less within same. not_before_itself
          (subst (λ x. IsBefore x (get_or letters j 0)) (second_same same) (listed.rising i j 0 less within)));
    } in
    subst IsFull (sym e) full
next_full board (Second q x) next (letters, listed, e) =
    let key : ℕ → Key = λ y. First (board.auto.next q (x + y)) (board.auto.priority q (x + y)) in
    let seconds : ℕ → Bool = λ p. not (board.is_first p) in
    let move = move_there board x (over_second board (part_over board.propositions seconds 0)) in
    let there = listed.complete move.0 move.1 in
    let full : IsFull (map key letters) = record {
      some = omega (arith, there.1, length-map letters key);
      differ = pairs_map (λ x y. x ≢ y) key letters 0
          (λ i j less within same. grind (arith, same_states, same_priorities));
    } in
    subst IsFull (sym e) full

small_owner : (mover : ℕ) (key : Key) → mover < 2 → owner_of_key mover key < 2
small_owner mover (First q p) small = small
small_owner mover (Second q x) small = omega arith

pub board_game_is_game : (board : Board) (mover : ℕ) (keys : List Key) (game : ParityGame) → mover < 2 →
    IsGameOf board mover keys game → IsGame game
board_game_is_game board mover keys game small is = record {
  owners = λ v inside. let at = is.by_keys.vertices v inside in
      subst (λ (owner : ℕ). owner < 2) (sym at.owner) (small_owner mover at.key small);
  has_successor = λ v inside. let at = is.by_keys.vertices v inside in
      omega (arith, (full v inside at).some, AllZip-long (StandsAt keys) (successors_of game v) at.next at.successors);
  different = λ v inside. let at = is.by_keys.vertices v inside in
      stand-apart keys (successors_of game v) at.next at.successors (full v inside at).differ;
  within = λ v w edge. let at = is.by_keys.vertices v edge.0 in
      subst (λ (n : ℕ). w < n) is.by_keys.count (All-contains (λ (w : ℕ). w < length keys) (successors_of game v) w
      (stand-within keys (successors_of game v) at.next at.successors) edge.1);
}
  where
    full : (v : ℕ) → v < vertex_count game → (at : IsVertexOf (LeadsTo board) mover keys game v) → IsFull at.next
    full v inside at = next_full board at.key at.next at.leads_to

pub file_game_is_game : (order : Order) (file : FileData) (game : NamedGameData) → IsGameOfFile order file game →
    IsGame game.game
file_game_is_game order file game is = board_game_is_game (board_of_file order file is.auto) (mover_of order) is.keys
    game.game (small_mover order) is.is_game
