-- The successors of a vertex are found by their keys (a key states what a vertex stands for).
use Rattle.std.proofs.Common.{◌≡◌, ◌<◌, ◌≤◌, ◌∙◌, ℕ, true, List, length, get_or, Some, ap, arith}
use Rattle.std.proofs.lemmas.List.{get_or_default}
use Rattle.std.proofs.lemmas.Option.{get_or_from_slice_get, slice_get-get_or}
use Rattle.ps_game.specs.Games.{ParityGame, successors_of, vertex_count}
use Rattle.ps_machine.specs.Boards.{Board, IsGameOf}
use Rattle.ps_machine.specs.Inner.Drawing.{Leads}
use Rattle.ps_machine.specs.Numbering.{StandsAt}
use Rattle.ps_machine.specs.declared.key.Key.{Key}
use Rattle.ps_machine.specs.contracts.key.KeyPartialEq.TheImpl as key_eq
use Rattle.ps_machine.proofs.AutomatonGames.GameKeys.KeyTests.{key_same, same_key}
use Rattle.ps_machine.proofs.AutomatonGames.GameKeys.Standing.{stand-within}

-- each successor of a vertex has a key
pub next_within : {board : Board} {mover : ℕ} {keys : List Key} {game : ParityGame} → IsGameOf board mover keys game →
    (v k d : ℕ) → v < vertex_count game → k < length (successors_of game v) →
    get_or (successors_of game v) k d < length keys
next_within {keys = keys} {game = game} is v k d within less =
    let vertex = is.by_keys.vertices v within in
    stand-within keys (successors_of game v) vertex.next vertex.successors k d less

-- the equality test decides whether a vertex stands for a key
pub test_stands : (keys : List Key) (w : ℕ) (d key : Key) → w < length keys →
    (key_eq.eq-value).it (get_or keys w d) key ≡ true → StandsAt keys w key
test_stands keys w d key within e =
    slice_get-get_or keys w d within ∙ ap (λ k. Some k) (same_key (get_or keys w d) key e)

pub stands_test : (keys : List Key) (w : ℕ) (d key : Key) → StandsAt keys w key →
    (key_eq.eq-value).it (get_or keys w d) key ≡ true
stands_test keys w d key at = rw (get_or_from_slice_get keys w key d at) (key_same key)

-- if a successor stands for the key, a search through all successors finds one that does
pub some_leads : {keys : List Key} {game : ParityGame} {v : ℕ} {key : Key} (n : ℕ) → Leads keys game v key →
    length (successors_of game v) ≤ n →
    ((k : ℕ) → k < n → StandsAt keys (get_or (successors_of game v) k 0) key → ⊥) → ⊥
some_leads {game = game} {v = v} n leads all none =
    let c = leads.edge.1 in
    let is : get_or (successors_of game v) c.0 0 ≡ leads.vertex =
    get_or_default (successors_of game v) c.0 0 leads.vertex c.1 ∙ c.2 in
    none c.0 (omega (arith, c.1, all)) (rw is leads.stands)
