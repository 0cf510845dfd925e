-- The machine of a lifted certificate, described by the arena and by a list of the first player's keys in the order of
-- the game (`IsInOrder`). No class of letters occurs here, and no number of the game's vertices.
-- - `PlayReaches play is_first v q p`: a play reaches the key (First q p), which has the index v in the list
-- - `IsFirstReached play is_first v`: v is the smallest such index with its memory state
-- - `IsMachineByRounds play m`: m is the machine
use Rattle.std.specs.Prelude.{◌≡◌, ℕ, ◌+◌, ◌<◌, ◌==◌, Bool, true, false, List, length, Some, slice_get}
use Rattle.std.specs.List.{All, AllPairs, Contains}
use Rattle.ps_certificate.specs.Certificates.{CertificateData, choice_of}
use Rattle.ps_machine.specs.Behaviours.{Behaviour}
use Rattle.ps_machine.specs.Boards.{Board}
use Rattle.ps_machine.specs.Extracting.{GoesTo, IsOtherLetter, Shares, StandsFor}
use Rattle.ps_machine.specs.Numbering.{StandsAt}
use Rattle.ps_solver.specs.Solving.{winner_at_start}
use Rattle.ps_machine.specs.declared.key.Key.{Key}
use Rattle.ps_machine.specs.declared.key.Key.TheVariants.{First, Second}
use Rattle.ps_basis.specs.ArenaMoves.{ComesTo, IsFirstRound, IsSecondRound, StepsBehind}

-- an arena of a board, whose vertices have the keys `others`, a certificate of it, the order in which the second
-- player's moves are tried, and a list of the first player's keys
pub record Play : Type 0 where
  pub board : Board
  pub mover : ℕ
  pub others : List Key
  pub certificate : CertificateData
  pub order : ℕ → List ℕ
  pub keys : List Key

-- a round, if the winner moves first, and if the winner moves second
abbrev pub IsRoundOf : Play → (is_first : Bool) → (q p r s : ℕ) → Type 0
IsRoundOf play true q p r s = IsFirstRound play.board play.others play.certificate q p r s
IsRoundOf play false q p r s = IsSecondRound play.board play.mover play.others play.certificate play.order q p r s

pub record PlayReaches (play : Play) (is_first : Bool) (v q p : ℕ) : Type 0 where
  pub comes : ComesTo (IsRoundOf play is_first) play.board.auto.start q p
  pub stands : StandsAt play.keys v (First q p)

pub record IsFirstReached (play : Play) (is_first : Bool) (v : ℕ) : Type 0 where
  pub state : ℕ
  pub priority : ℕ
  pub here : PlayReaches play is_first v state priority
  pub least : (w r p : ℕ) → w < v → PlayReaches play is_first w r p → ¬ Shares is_first v state w r

-- the winner's move at the key (First q p), if the winner moves first
pub record OutputsFirst (play : Play) (q p letter : ℕ) : Type 0 where
  pub vertex : ℕ
  pub stands : StandsAt play.others vertex (First q p)
  pub chosen : ℕ
  pub choice : choice_of play.certificate vertex ≡ Some chosen
  pub target : StandsAt play.others chosen (Second q letter)

-- `letter` is output at the key (First q p), if the other player's letter is x
abbrev pub IsOutputAt : Play → (is_first : Bool) → (q p x letter : ℕ) → Type 0
IsOutputAt play true q p x letter = OutputsFirst play q p letter
IsOutputAt play false q p x letter =
    StepsBehind play.board play.mover play.others play.certificate play.order q x letter

pub record IsStepByRounds (play : Play) (kept : List ℕ) (m : Behaviour) (memory x : ℕ) : Type 0 where
  pub vertex : ℕ
  pub state : ℕ
  pub priority : ℕ
  pub is_kept : slice_get kept memory ≡ Some vertex
  pub stands : StandsAt play.keys vertex (First state priority)
  pub output : IsOutputAt play m.is_first state priority x (m.plays memory x)
  pub entered : ℕ
  pub goes : GoesTo play.keys play.board state (x + m.plays memory x) entered
  pub next : StandsFor m.is_first play.keys kept (m.next memory x) entered
      (play.board.auto.next state (x + m.plays memory x))

pub record IsMachineByRounds (play : Play) (m : Behaviour) : Type 0 where
  pub player : m.player ≡ winner_at_start play.certificate
  pub is_first : m.is_first ≡ (play.mover == winner_at_start play.certificate)
  pub kept : List ℕ
  pub rising : AllPairs (λ v w. v < w) kept
  pub each : All (IsFirstReached play m.is_first) kept
  pub complete : (v : ℕ) → IsFirstReached play m.is_first v → Contains kept v
  pub memories : m.memories ≡ length kept
  pub steps : (memory x : ℕ) → memory < m.memories → IsOtherLetter m.is_first play.board x →
      IsStepByRounds play kept m memory x
