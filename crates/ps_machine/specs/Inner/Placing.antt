-- The steps that the machine of a player who moves first can take, and the rows that the machine's table has for them.
-- After the player's letter, the automaton's diagram can lead to certain leaves, and `places` has the index of a row of
-- the machine's table for each of them. The machine's diagram is what remains of the automaton's diagram after this
-- letter, with the indices of rows in place of the leaves. (For private functions.)
-- - `PlaysClass board keys certificate v q letter`: `letter` is output at the vertex v, whose state is q
-- - `IsEntered .. leaf`: the leaf is the index of a step, and the vertex to which this step leads is reachable
-- - `IsPlaced .. letter leaf`: for the leaf, `places` has the index of a row of the machine's table
use Rattle.std.specs.Prelude.{◌≡◌, ℕ, ◌<◌, Bool, List, length, Some, slice_get}
use Rattle.ps_certificate.specs.Certificates.{CertificateData, choice_of}
use Rattle.ps_game.specs.Games.{ParityGame}
use Rattle.ps_automaton.specs.Automata.{AutomatonData, pair_of}
use Rattle.ps_machine.specs.Boards.{Board, IsClassLetter}
use Rattle.ps_machine.specs.Inner.Drawing.{CanEnter}
use Rattle.ps_machine.specs.Extracting.{StandsFor}
use Rattle.ps_machine.specs.Inner.Moving.{step_key}
use Rattle.ps_machine.specs.Numbering.{StandsAt}
use Rattle.ps_machine.specs.declared.key.Key.{Key}
use Rattle.ps_machine.specs.declared.key.Key.TheVariants.{Second}
use Rattle.ps_machine.specs.declared.key.Order.{Order}
use Rattle.ps_machine.specs.declared.machine.Row.{Row}

-- the certificate's move at the vertex v, whose state is q, leads to the vertex of the class with the least letter
-- `letter`
pub record PlaysClass (board : Board) (keys : List Key) (certificate : CertificateData) (v q letter : ℕ) : Type 0 where
  pub chosen : ℕ
  pub choice : choice_of certificate v ≡ Some chosen
  pub stands : StandsAt keys chosen (Second q letter)
  pub is_class : IsClassLetter board q letter

-- a leaf of an automaton's diagram is the index of a step; this step leads to a reachable vertex of the game
pub record IsEntered (order : Order) (a : AutomatonData) (keys : List Key) (game : ParityGame)
    (certificate : CertificateData) (is_first : Bool) (kept anchors : List ℕ) (leaf : ℕ) : Type 0 where
  pub within : leaf < length a.steps
  pub enters : CanEnter order a keys game certificate is_first kept anchors (pair_of a leaf).state (pair_of a leaf).priority

-- `places[leaf]` is the index of a row of the machine's table. In this row, the machine outputs `letter` and enters the
-- memory state of the vertex that stands for the leaf's step.
pub record IsPlaced (a : AutomatonData) (keys : List Key) (is_first : Bool) (kept : List ℕ) (rows : List Row)
    (places : List ℕ) (letter leaf : ℕ) : Type 0 where
  pub place : ℕ
  pub is_noted : slice_get places leaf ≡ Some place
  pub row : Row
  pub is_row : slice_get rows place ≡ Some row
  pub plays : row.letter ≡ letter
  pub next : (v : ℕ) → StandsAt keys v (step_key (pair_of a leaf)) →
      StandsFor is_first keys kept row.memory v (pair_of a leaf).state
