-- A board's game is the mixed board's game, whose keys have their letters moved.
use Rattle.std.specs.Prelude.{◌≡◌, ◌≢◌, ℕ, ◌<◌, List, [], ◌∷◌, length, map}
use Rattle.std.specs.List.{AllPairs, AllZip}
use Rattle.std.proofs.Common.{refl, sym, ap, ◌∙◌, arith, get_or}
use Rattle.std.proofs.lemmas.List.{length-map, get_or-map}
use Rattle.ps_game.specs.Games.{ParityGame, successors_of}
use Rattle.ps_machine.specs.Boards.{Board, IsGameOf, LeadsTo}
use Rattle.ps_machine.specs.Keys.{owner_of_key, priority_of_key}
use Rattle.ps_machine.specs.Numbering.{IsVertexOf, StandsAt}
use Rattle.ps_machine.specs.declared.key.Key.{Key}
use Rattle.ps_machine.specs.declared.key.Key.TheVariants.{First, Second}
use Rattle.ps_mixing.specs.MixedBoards.{mixed_board, mixed_key, mixed_keys}
use Rattle.ps_mixing.specs.Mixings.{Mixing, inverse}
use Rattle.ps_mixing.proofs.MovedPropositions.GameLetters.{letter_of_key}
use Rattle.ps_mixing.proofs.MixedSuccessors.{IsKeyOf, leads_moved}
use Rattle.ps_mixing.proofs.MixedLetters.{IsBoardMixing}
use Rattle.ps_mixing.proofs.MixedSteps.{entry_there}
use Rattle.ps_mixing.proofs.MovedPropositions.MovedLetters.{moved_back}

zip_there : (f : Key → Key) (keys : List Key) (numbers : List ℕ) (next : List Key) →
    AllZip (StandsAt keys) numbers next → AllZip (StandsAt (map f keys)) numbers (map f next)
zip_there f keys [] [] zip = zip
zip_there f keys [] (k ∷ next) zip = zip
zip_there f keys (n ∷ numbers) [] zip = zip
zip_there f keys (n ∷ numbers) (k ∷ next) zip =
    (entry_there f keys n k zip.0, zip_there f keys numbers next zip.1)

module _ (board : Board) (mixing : Mixing) (is : IsBoardMixing board mixing) where
  abbrev n : ℕ
  n = board.propositions

  abbrev there : Key → Key
  there key = mixed_key n mixing key

  key_back : (key : Key) → mixed_key n (inverse mixing) (there key) ≡ key
  key_back (First q p) = refl
  key_back (Second q x) = ap (λ (z : ℕ). Second q z) (moved_back is x)

  there_once : (one other : Key) → there one ≡ there other → one ≡ other
  there_once one other same = sym (key_back one) ∙ ap (mixed_key n (inverse mixing)) same ∙ key_back other

  owner_there : (mover : ℕ) (key : Key) → owner_of_key mover (there key) ≡ owner_of_key mover key
  owner_there mover (First q p) = refl
  owner_there mover (Second q x) = refl

  priority_there : (key : Key) → priority_of_key (there key) ≡ priority_of_key key
  priority_there (First q p) = refl
  priority_there (Second q x) = refl

  keys_differ : (keys : List Key) → AllPairs (λ x y. x ≢ y) keys → AllPairs (λ x y. x ≢ y) (mixed_keys n mixing keys)
  keys_differ keys differ i j d less within same =
      let late : j < length keys = omega (arith, within, length-map keys there) in
      let early : i < length keys = omega (arith, less, late) in
      differ i j (First 0 0) less late (there_once (get_or keys i (First 0 0)) (get_or keys j (First 0 0))
      (sym (get_or-map there keys i (First 0 0) d early) ∙ same ∙ get_or-map there keys j (First 0 0) d late))

  module _ (mover : ℕ) (keys : List Key) (game : ParityGame) (of : IsGameOf board mover keys game) where
    is_key : (v : ℕ) (key : Key) → StandsAt keys v key → IsKeyOf board mixing is key
    is_key v (First q p) at = tt
    is_key v (Second q x) at = letter_of_key board mover keys game of v q x at

    vertex_there : (v : ℕ) → IsVertexOf (LeadsTo board) mover keys game v →
        IsVertexOf (LeadsTo (mixed_board mixing board)) mover (mixed_keys n mixing keys) game v
    vertex_there v at = record {
      key = there at.key;
      next = mixed_keys n mixing at.next;
      stands = entry_there there keys v at.key at.stands;
      owner = at.owner ∙ sym (owner_there mover at.key);
      priority = at.priority ∙ sym (priority_there at.key);
      leads_to = leads_moved board mixing is at.key at.next (is_key v at.key at.stands) at.leads_to;
      successors = zip_there there keys (successors_of game v) at.next at.successors;
    }

    pub game_moved : IsGameOf (mixed_board mixing board) mover (mixed_keys n mixing keys) game
    game_moved = record {
      by_keys = record {
        count = length-map keys there ∙ of.by_keys.count;
        begins = entry_there there keys 0 (First board.auto.start 0) of.by_keys.begins;
        different = keys_differ keys of.by_keys.different;
        vertices = λ v less. vertex_there v (of.by_keys.vertices v less);
      };
      numbered = of.numbered;
    }
