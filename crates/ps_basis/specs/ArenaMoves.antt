-- The play by a lifted certificate, described by the arena alone. No class of letters occurs here.
-- - `MovesBehind board mover others certificate q x u`: the second player wins the vertex u of the arena, whose state
--   is q, by a move that can also be made behind the letter x
-- - `StepsBehind board mover others certificate order q x letter`: behind x, the second player answers `letter`
-- - `IsFirstRound`, `IsSecondRound`: one round of the play, if the first player wins, and if the second player wins
-- - `ComesTo Round start q p`: some rounds lead from the start to the state q, entered by an edge of priority p
use Rattle.std.specs.Prelude.{◌≡◌, ℕ, ◌+◌, ◌-◌, List, Some}
use Rattle.ps_certificate.specs.Certificates.{CertificateData, winner_of, choice_of}
use Rattle.ps_diagram.specs.Letters.{IsLeastLetter}
use Rattle.ps_machine.specs.Boards.{Board, IsFirstLetter, IsSecondLetter}
use Rattle.ps_machine.specs.Numbering.{StandsAt}
use Rattle.ps_machine.specs.declared.key.Key.{Key}
use Rattle.ps_machine.specs.declared.key.Key.TheVariants.{First, Second}
use Rattle.ps_pruning.specs.Lifting.{IsFirstIn}
use Rattle.ps_basis.specs.Bases.{CanGoTo}

pub record MovesBehind (board : Board) (mover : ℕ) (others : List Key) (certificate : CertificateData) (q x u : ℕ) :
    Type 0 where
  pub letter : ℕ
  pub stands : StandsAt others u (Second q letter)
  pub won : winner_of certificate u ≡ 1 - mover
  pub chosen : ℕ
  pub choice : choice_of certificate u ≡ Some chosen
  pub state : ℕ
  pub priority : ℕ
  pub target : StandsAt others chosen (First state priority)
  pub reached : CanGoTo board q x state priority

-- behind x, the letter y leads from the state q to the state r by an edge of priority s
pub record GoesThere (board : Board) (q x r s y : ℕ) : Type 0 where
  pub is_letter : IsSecondLetter board y
  pub state : board.auto.next q (x + y) ≡ r
  pub priority : board.auto.priority q (x + y) ≡ s

-- the second player takes the first move in the order of the state that can be made behind x, by the least letter
pub record StepsBehind (board : Board) (mover : ℕ) (others : List Key) (certificate : CertificateData)
    (order : ℕ → List ℕ) (q x letter : ℕ) : Type 0 where
  pub guide : ℕ
  pub first : IsFirstIn (order q) (MovesBehind board mover others certificate q x) guide
  pub least : IsLeastLetter (GoesThere board q x first.here.state first.here.priority) letter

-- ## Rounds

-- a round from the state q, entered by an edge of priority p, to the state r, entered by an edge of priority s, if the
-- first player wins: the move of the first player's vertex, and any answer of the second player
pub record IsFirstRound (board : Board) (others : List Key) (certificate : CertificateData) (q p r s : ℕ) : Type 0 where
  pub vertex : ℕ
  pub stands : StandsAt others vertex (First q p)
  pub chosen : ℕ
  pub choice : choice_of certificate vertex ≡ Some chosen
  pub letter : ℕ
  pub target : StandsAt others chosen (Second q letter)
  pub reached : CanGoTo board q letter r s

-- such a round if the second player wins: any letter of the first player, and the first move that can be made behind it
pub record IsSecondRound (board : Board) (mover : ℕ) (others : List Key) (certificate : CertificateData)
    (order : ℕ → List ℕ) (q p r s : ℕ) : Type 0 where
  pub letter : ℕ
  pub is_letter : IsFirstLetter board letter
  pub guide : ℕ
  pub first : IsFirstIn (order q) (MovesBehind board mover others certificate q letter) guide
  pub state : first.here.state ≡ r
  pub priority : first.here.priority ≡ s

-- some rounds lead from the start to a vertex of the first player, whose state is entered by an edge of some priority
pub data ComesTo (Round : ℕ → ℕ → ℕ → ℕ → Type 0) (start : ℕ) : ℕ → ℕ → Type 0 where
  at_start : ComesTo Round start start 0
  after : {q p r s : ℕ} → ComesTo Round start q p → Round q p r s → ComesTo Round start r s
