-- A truncated proof (`∥ .. ∥₁`) that lists are the predecessor lists of a game yields an untruncated proof, since it is
-- decidable whether a list contains a number.
use Rattle.std.proofs.Common.{◌==◌, ℕ, List}
use Rattle.std.proofs.Math.Logic.{∥∥₁_elim, ∥∥₁_map}
use Rattle.std.proofs.Props.{props}
use Rattle.std.proofs.lemmas.Bool.Decides.{Decides-eqb}
use Rattle.std.proofs.lemmas.Map.Made.{is_member-Decides}
use Rattle.std.specs.List.{Contains}
use Rattle.ps_game.specs.Games.{ParityGame}
use Rattle.ps_attractor.specs.Sources.{IsSourcesOf, sources_of}

found : (xs : List ℕ) (x : ℕ) → ∥ Contains xs x ∥₁ → Contains xs x
found xs x has =
    let decides = is_member-Decides {eq = λ a b. a == b} Decides-eqb xs x in
    decides.0 (∥∥₁_elim has (hlevel props) decides.1)

pub sources_given : (game : ParityGame) (sources : List (List ℕ)) → ∥ IsSourcesOf game sources ∥₁ →
    IsSourcesOf game sources
sources_given game sources turned = record {
  places = ∥∥₁_elim turned (hlevel props) (λ is. is.places);
  complete = λ v w edge. found (sources_of sources w) v (∥∥₁_map turned (λ is. is.complete v w edge));
  sound = λ v w has. (
    ∥∥₁_elim turned (hlevel props) (λ is. (is.sound v w has).0),
    found _ w (∥∥₁_map turned (λ is. (is.sound v w has).1)),
  );
  rises = λ w. ∥∥₁_elim turned (hlevel props) (λ is. is.rises w);
}
