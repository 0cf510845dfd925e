-- What is known of a play by a valid certificate of an arena, before the winner's machine is drawn.
-- - `Comes play is_first q p`: some rounds of the play lead to the key (First q p)
-- - `IsFirstMove`, `CanMove`: the winner's move at a vertex, if the winner moves first, and if the winner moves second
-- - `IsPlayable play is_first arena`: the play can go on for ever, and its keys are in the list
--
-- An index of the list is the arena's vertex with the same key.
use Rattle.std.specs.Prelude.{◌≡◌, ◌≢◌, ℕ, ◌<◌, ◌==◌, Bool, true, false, length, Some}
use Rattle.std.specs.List.{AllPairs, Contains}
use Rattle.ps_certificate.specs.Certificates.{choice_of}
use Rattle.ps_game.specs.Games.{ParityGame, successors_of, vertex_count}
use Rattle.ps_machine.specs.Boards.{IsFirstLetter}
use Rattle.ps_machine.specs.Numbering.{StandsAt}
use Rattle.ps_solver.specs.Solving.{winner_at_start}
use Rattle.ps_machine.specs.declared.key.Key.{Key}
use Rattle.ps_machine.specs.declared.key.Key.TheVariants.{First, Second}
use Rattle.ps_basis.specs.ArenaMoves.{ComesTo, MovesBehind}
use Rattle.ps_basis.specs.Bases.{CanGoTo}
use Rattle.ps_basis.specs.Memories.{Play, IsRoundOf}
use Rattle.ps_basis.specs.PairOrder.{HasStepTo}

abbrev pub Comes : Play → (is_first : Bool) → ℕ → ℕ → Type 0
Comes play is_first q p = ComesTo (IsRoundOf play is_first) play.board.auto.start q p

-- the winner, who moves first, moves from the vertex v to that of the letter
pub record IsFirstMove (play : Play) (v q letter : ℕ) : Type 0 where
  pub chosen : ℕ
  pub choice : choice_of play.certificate v ≡ Some chosen
  pub target : StandsAt play.others chosen (Second q letter)
  pub is_letter : IsFirstLetter play.board letter

-- the winner, who moves second, moves from the vertex u, whose state is q, to `chosen`
pub record IsSecondMove (play : Play) (u q chosen : ℕ) : Type 0 where
  pub letter : ℕ
  pub stands : StandsAt play.others u (Second q letter)
  pub is_letter : IsFirstLetter play.board letter
  pub state : ℕ
  pub priority : ℕ
  pub target : StandsAt play.others chosen (First state priority)
  pub reached : CanGoTo play.board q letter state priority
  pub behind : (x : ℕ) → CanGoTo play.board q x state priority →
      MovesBehind play.board play.mover play.others play.certificate q x u

-- some vertex that is tried at the state q moves behind x
pub record CanMove (play : Play) (q x : ℕ) : Type 0 where
  pub vertex : ℕ
  pub tried : Contains (play.order q) vertex
  pub moves : MovesBehind play.board play.mover play.others play.certificate q x vertex

pub record IsPlayable (play : Play) (is_first : Bool) (arena : ParityGame) : Type 0 where
  pub turn : is_first ≡ (play.mover == winner_at_start play.certificate)
  pub begins : StandsAt play.keys 0 (First play.board.auto.start 0)
  pub different : AllPairs (λ x y. x ≢ y) play.keys
  pub numbers : (v : ℕ) (key : Key) → StandsAt play.keys v key → StandsAt play.others v key
  pub once : AllPairs (λ x y. x ≢ y) play.others
  pub count : length play.others ≡ vertex_count arena
  pub entries : length play.certificate.entries ≡ vertex_count arena
  pub closed : (v q p r s : ℕ) → StandsAt play.keys v (First q p) → HasStepTo play.board q r s →
      Contains play.keys (First r s)
  pub listed : (q p : ℕ) → Comes play is_first q p → Contains play.keys (First q p)
  pub first : is_first ≡ true → (v q p : ℕ) → Comes play is_first q p → StandsAt play.keys v (First q p) →
      (letter : ℕ) × IsFirstMove play v q letter
  pub next : (v q p u : ℕ) → StandsAt play.keys v (First q p) → Contains (successors_of arena v) u →
      u < vertex_count arena
  pub tried : (v q p : ℕ) → StandsAt play.keys v (First q p) → successors_of arena v ≡ play.order q
  pub second : is_first ≡ false → (v q p u chosen : ℕ) → StandsAt play.keys v (First q p) →
      Contains (successors_of arena v) u → choice_of play.certificate u ≡ Some chosen → IsSecondMove play u q chosen
  pub can_move : is_first ≡ false → (q p x : ℕ) → Comes play is_first q p → IsFirstLetter play.board x →
      CanMove play q x
