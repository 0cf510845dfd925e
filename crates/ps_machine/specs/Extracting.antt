-- The machine of a certificate: which memory states it has, and which letter it outputs and which memory state it
-- enters in each step.
-- - `IsUsed game certificate v`: a path from vertex 0 that follows the moves of the winner of vertex 0 ends at v
-- - `IsRepresentative .. v`: v is the smallest reachable first-player vertex with its memory state
-- - `IsMachineOf board mover keys game certificate m`: m is the machine of the certificate
--
-- A used vertex can be reached from vertex 0 by the winner's moves. The machine of a winner who moves first has a
-- memory state for each reachable vertex of the first player. The machine of a winner who moves second has a memory
-- state for each state of the automaton at a reachable vertex of the first player.
use Rattle.std.specs.Prelude.{◌≡◌, ℕ, ◌+◌, ◌-◌, ◌<◌, ◌==◌, Bool, true, false, not, List, length, Some, slice_index}
use Rattle.std.specs.Prelude.{slice_get}
use Rattle.std.specs.List.{All, AllPairs, Contains}
use Rattle.ps_game.specs.Games.{ParityGame}
use Rattle.ps_game.specs.Plays.{IsPath, Follows}
use Rattle.ps_certificate.specs.Certificates.{CertificateData, choice_of}
use Rattle.ps_diagram.specs.Letters.{IsLeastLetter}
use Rattle.ps_hoa.specs.Files.{is_among}
use Rattle.ps_machine.specs.Behaviours.{Behaviour}
use Rattle.ps_machine.specs.Boards.{Board, IsFirstLetter, IsSecondLetter, SameSteps, IsClassLetter}
use Rattle.ps_machine.specs.Numbering.{StandsAt}
use Rattle.ps_solver.specs.Solving.{winner_at_start}
use Rattle.ps_machine.specs.declared.key.Key.{Key}
use Rattle.ps_machine.specs.declared.key.Key.TheVariants.{First, Second}

pub record IsUsed (game : ParityGame) (certificate : CertificateData) (v : ℕ) : Type 0 where
  pub path : List ℕ
  pub is_path : IsPath game path
  pub begins : slice_index path 0 ≡ 0
  pub follows : Follows game (winner_at_start certificate) (choice_of certificate) path
  pub ends : slice_index path (length path - 1) ≡ v

-- v is a reachable vertex, at which the first player moves and the automaton is in the state q
pub record IsUsedFirst (keys : List Key) (game : ParityGame) (certificate : CertificateData) (v q p : ℕ) : Type 0 where
  pub used : IsUsed game certificate v
  pub stands : StandsAt keys v (First q p)

-- two vertices share a memory state: if the machine's player moves first, they must be equal; otherwise, their
-- automaton states must be equal
abbrev pub Shares : Bool → ℕ → ℕ → ℕ → ℕ → Type 0
Shares true v q w r = v ≡ w
Shares false v q w r = q ≡ r

pub record IsRepresentative (is_first : Bool) (keys : List Key) (game : ParityGame) (certificate : CertificateData)
    (v : ℕ) : Type 0 where
  pub state : ℕ
  pub priority : ℕ
  pub here : IsUsedFirst keys game certificate v state priority
  pub least : (w r p : ℕ) → w < v → IsUsedFirst keys game certificate w r p → ¬ Shares is_first v state w r

-- at the vertex w, whose automaton state is r, the machine is in the memory state `memory`
pub record StandsFor (is_first : Bool) (keys : List Key) (kept : List ℕ) (memory w r : ℕ) : Type 0 where
  pub vertex : ℕ
  pub state : ℕ
  pub priority : ℕ
  pub is_kept : slice_get kept memory ≡ Some vertex
  pub stands : StandsAt keys vertex (First state priority)
  pub shares : Shares is_first vertex state w r

-- the vertex `next` stands for the state and the priority to which `letter` leads from the state q
pub record GoesTo (keys : List Key) (board : Board) (q letter next : ℕ) : Type 0 where
  pub stands : StandsAt keys next (First (board.auto.next q letter) (board.auto.priority q letter))

-- A winner who moves first outputs the least letter of the class to which the winner's move leads.
pub record StepsFirst (board : Board) (keys : List Key) (certificate : CertificateData) (v q x letter : ℕ) : Type 0
  where
    pub chosen : ℕ
    pub choice : choice_of certificate v ≡ Some chosen
    pub stands : StandsAt keys chosen (Second q letter)

-- A winner who moves second outputs the winner's least letter that leads from the class of x to the vertex of the
-- winner's move.
pub record StepsSecond (board : Board) (keys : List Key) (certificate : CertificateData) (v q x letter : ℕ) : Type 0
  where
    pub class : ℕ
    pub is_class : IsClassLetter board q class
    pub same : SameSteps board q x class
    pub at : ℕ
    pub stands : StandsAt keys at (Second q class)
    pub chosen : ℕ
    pub choice : choice_of certificate at ≡ Some chosen
    pub least : IsLeastLetter (λ y. IsSecondLetter board y × GoesTo keys board q (class + y) chosen) letter

-- `letter` is output at the vertex v, whose state is q, if the other player's letter is x
abbrev pub IsPlayed : Bool → Board → List Key → CertificateData → ℕ → ℕ → ℕ → ℕ → Type 0
IsPlayed true board keys certificate v q x letter = StepsFirst board keys certificate v q x letter
IsPlayed false board keys certificate v q x letter = StepsSecond board keys certificate v q x letter

-- x is a letter of the machine's opponent
abbrev pub IsOtherLetter : Bool → Board → ℕ → Type 0
IsOtherLetter true board x = IsSecondLetter board x
IsOtherLetter false board x = IsFirstLetter board x

pub record IsStep (board : Board) (keys : List Key) (kept : List ℕ) (certificate : CertificateData) (m : Behaviour)
    (memory x : ℕ) : Type 0 where
  pub vertex : ℕ
  pub state : ℕ
  pub priority : ℕ
  pub is_kept : slice_get kept memory ≡ Some vertex
  pub stands : StandsAt keys vertex (First state priority)
  pub played : IsPlayed m.is_first board keys certificate vertex state x (m.plays memory x)
  pub entered : ℕ
  pub goes : GoesTo keys board state (x + m.plays memory x) entered
  pub next : StandsFor m.is_first keys kept (m.next memory x) entered (board.auto.next state (x + m.plays memory x))

pub record IsMachineOf (board : Board) (mover : ℕ) (keys : List Key) (game : ParityGame) (certificate : CertificateData)
    (m : Behaviour) : Type 0 where
  pub player : m.player ≡ winner_at_start certificate
  pub is_first : m.is_first ≡ (mover == winner_at_start certificate)
  pub kept : List ℕ
  pub rising : AllPairs (λ v w. v < w) kept
  pub each : All (IsRepresentative m.is_first keys game certificate) kept
  pub complete : (v : ℕ) → IsRepresentative m.is_first keys game certificate v → Contains kept v
  pub memories : m.memories ≡ length kept
  pub steps : (memory x : ℕ) → memory < m.memories → IsOtherLetter m.is_first board x →
      IsStep board keys kept certificate m memory x

-- whether a proposition belongs to the opponent of the machine's player
abbrev pub is_others : Bool → Board → ℕ → Bool
is_others true board p = not (board.is_first p)
is_others false board p = board.is_first p

-- the machine's propositions have the given names, and the machine reads exactly the propositions of its player's
-- opponent
pub record HasPropositions (names : List (List ℕ)) (board : Board) (m : Behaviour) : Type 0 where
  pub names_are : m.names ≡ names
  pub as_many : length names ≡ board.propositions
  pub reads : (p : ℕ) → p < board.propositions → is_among p m.inputs ≡ is_others m.is_first board p
