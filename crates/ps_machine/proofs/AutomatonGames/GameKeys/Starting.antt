-- A key states what a vertex stands for. The game of all keys that can be reached from the key of the automaton's start
-- is the game of the automaton.
use Rattle.std.proofs.Common.{◌≡◌, ℕ, ◌+◌, ◌<◌, List, ◌∷◌, [], ◌++◌, length, map, take, get_or, Option, Some}
use Rattle.std.proofs.Common.{ap, ap₂, sym, ◌∙◌, rules}
use Rattle.std.specs.List.{All}
use Rattle.std.proofs.lemmas.List.{map_push, map_more}
use Rattle.std.proofs.lemmas.List.Elements.{All-same, All-push}
use Rattle.ps_game.specs.Games.{HasNoQuote}
use Rattle.ps_machine.specs.Boards.{Board}
use Rattle.ps_machine.specs.KeyNames.{key_name, key_names}
use Rattle.ps_machine.specs.Inner.Naming.{IsPlain}
use Rattle.ps_machine.specs.declared.key.Key.{Key}
use Rattle.ps_machine.proofs.AutomatonGames.GameKeys.KeyNames.{no_quote}

pub names_more : (board : Board) (keys : List Key) (i : ℕ) (d : Key) (old new : List (List ℕ)) (name : List ℕ) →
    i < length keys → new ≡ old ++ name ∷ [] → name ≡ key_name board (get_or keys i d) →
    map Some old ≡ key_names board (take i keys) → map Some new ≡ key_names board (take (i + 1) keys)
names_more board keys i d old new name within e is was = ap (map Some) e ∙ map_push Some old name
    ∙ ap₂ (λ (l : List (Option (List ℕ))) (n : List ℕ). l ++ Some n ∷ []) was is
    ∙ sym (map_more (λ key. Some (key_name board key)) keys i d within)

pub plain_names_more : (old new : List (List ℕ)) (name : List ℕ) → new ≡ old ++ name ∷ [] → IsPlain name →
    All HasNoQuote (map Some old) → All HasNoQuote (map Some new)
plain_names_more old new name e plain was = All-same HasNoQuote (map Some new) (map Some old ++ Some name ∷ [])
    (cc (e, map_push Some old name)) (search (rules, All-push, no_quote))
