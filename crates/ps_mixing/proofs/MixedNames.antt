-- The names of vertices do not change: the first player's propositions keep their order.
use Rattle.std.specs.Prelude.{◌≡◌, ℕ, zero, suc, Bool, true, false, cond, List, [], ◌∷◌, ◌++◌, map, Option, Some}
use Rattle.std.specs.Prelude.{if◌then◌else◌, codes}
use Rattle.std.specs.List.{range_with_len}
use Rattle.std.proofs.Common.{refl, sym, ap, ◌∙◌}
use Rattle.std.proofs.Math.Path.{fun_ext}
use Rattle.std.proofs.lemmas.List.{length-map, map-append}
use Rattle.std.proofs.lemmas.Simd.{map-map}
use Rattle.ps_label.specs.Truth.{is_in}
use Rattle.ps_game.specs.Games.{NamedGameData}
use Rattle.ps_machine.specs.Boards.{Board}
use Rattle.ps_machine.specs.KeyNames.{AreNamed, first_digits, key_name, letter_digit, letter_digits, state_name}
use Rattle.ps_machine.specs.declared.key.Key.{Key}
use Rattle.ps_machine.specs.declared.key.Key.TheVariants.{First, Second}
use Rattle.ps_mixing.specs.MixedBoards.{mixed_board, mixed_key, mixed_keys}
use Rattle.ps_mixing.specs.Mixings.{Mixing, moved}
use Rattle.ps_mixing.specs.Inner.Merging.{owned_below}
use Rattle.ps_mixing.proofs.MixedLetters.{IsBoardMixing}
use Rattle.ps_mixing.proofs.MovedPropositions.MovedLetters.{renamed_bit}
use Rattle.ps_mixing.proofs.MovedPropositions.OwnedLists.{owned_moved}

abbrev digit : ℕ → ℕ → ℕ
digit x p = if is_in p x then 49 else 48

digits_are : (board : Board) (x n : ℕ) → first_digits board x n ≡ map (digit x) (owned_below board.is_first n)
digits_are board x zero = refl
digits_are board x (suc n) = ap (λ (l : List ℕ). l ++ letter_digit board x n) (digits_are board x n) ∙
    last (board.is_first n) ∙ sym (map-append (digit x) (owned_below board.is_first n) (cond (board.is_first n) (n ∷ []) []))
  where
    last : (b : Bool) → map (digit x) (owned_below board.is_first n) ++ (if b then digit x n ∷ [] else []) ≡
        map (digit x) (owned_below board.is_first n) ++ map (digit x) (cond b (n ∷ []) [])
    last true = refl
    last false = refl

module _ (board : Board) (mixing : Mixing) (is : IsBoardMixing board mixing) where
  abbrev n : ℕ
  n = board.propositions

  digits_moved : (x : ℕ) → letter_digits (mixed_board mixing board) (moved n mixing.from x) ≡ letter_digits board x
  digits_moved x = digits_are (mixed_board mixing board) (moved n mixing.from x) n ∙
      ap (map (digit (moved n mixing.from x))) (owned_moved is board.is_first (λ p q one other. one ∙ sym other)) ∙
      map-map (digit (moved n mixing.from x)) mixing.to (owned_below board.is_first n) ∙
      ap (λ (f : ℕ → ℕ). map f (owned_below board.is_first n)) (fun_ext one_digit) ∙ sym (digits_are board x n)
    where
      one_digit : (p : ℕ) → digit (moved n mixing.from x) (mixing.to p) ≡ digit x p
      one_digit p = ap (λ (b : Bool). if b then 49 else 48) (renamed_bit is x p)

  name_moved : (key : Key) → key_name (mixed_board mixing board) (mixed_key n mixing key) ≡ key_name board key
  name_moved (First q p) = refl
  name_moved (Second q x) = ap (λ (l : List ℕ). state_name board.states q ++ codes ":" ++ l) (digits_moved x)

  pub names_moved : (keys : List Key) (game : NamedGameData) → AreNamed board keys game →
      AreNamed (mixed_board mixing board) (mixed_keys n mixing keys) game
  names_moved keys game are = record {
    ids = are.ids ∙ ap (range_with_len 0) (sym (length-map keys (mixed_key n mixing)));
    names = are.names ∙ sym (map-map (λ key. Some (key_name (mixed_board mixing board) key)) (mixed_key n mixing) keys ∙
        ap (λ (f : Key → Option (List ℕ)). map f keys) (fun_ext (λ key. ap (λ (l : List ℕ). Some l) (name_moved key))));
  }
