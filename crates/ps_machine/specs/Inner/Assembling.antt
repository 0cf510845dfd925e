-- The diagrams, rows and propositions from which a machine is assembled. A row of the machine's table has a letter to
-- output and a next memory state. (For private functions.)
-- - `AreDrawn .. t rows nodes n`: the first n memory states have their diagrams, and each row has a letter of the
--   machine's player and an existing memory state
-- - `AreListedBelow n is list`: the list has the numbers less than n that pass the test `is`, ascending
-- - `IsAssembled .. m`: the propositions of machine m satisfy `HasRoles`, and its diagrams satisfy `AreDrawn`
-- - `HasRoles is_first board inputs outputs`: `inputs` are the other player's propositions, which the machine reads;
--   `outputs` are the propositions of its own player
use Rattle.std.specs.Prelude.{◌≡◌, ℕ, ◌<◌, ◌≤◌, Bool, not, List, length, slice_index, IsTrue}
use Rattle.std.specs.List.{All, AllPairs}
use Rattle.ps_certificate.specs.Certificates.{CertificateData}
use Rattle.ps_diagram.specs.Table.{Table}
use Rattle.ps_hoa.specs.Files.{is_among}
use Rattle.ps_hoa.specs.Sound.{AreNames}
use Rattle.ps_machine.specs.Boards.{Board}
use Rattle.ps_machine.specs.Inner.Drawing.{IsDrawn, IsRow}
use Rattle.ps_machine.specs.Extracting.{is_others}
use Rattle.ps_machine.specs.Machines.{MachineData}
use Rattle.ps_machine.specs.declared.key.Key.{Key}
use Rattle.ps_machine.specs.declared.machine.Row.{Row}

-- each of the first n memory states has a diagram that leads each letter to a row of the machine's table with the right
-- output and next memory state
pub record AreDrawn (is_first : Bool) (board : Board) (keys : List Key) (kept : List ℕ) (certificate : CertificateData)
    (t : Table) (rows : List Row) (nodes : List ℕ) (n : ℕ) : Type 0 where
  pub rows_are : All (IsRow is_first board kept) rows
  pub many : length nodes ≡ n
  pub each : (memory : ℕ) → memory < n → IsDrawn is_first board keys kept certificate t rows (slice_index kept memory)
      (slice_index nodes memory)

pub record AreListedBelow (n : ℕ) (is : ℕ → Bool) (list : List ℕ) : Type 0 where
  pub rising : AllPairs (λ p q. p < q) list
  pub within : (p : ℕ) → IsTrue (is_among p list) → p < n
  pub are : (p : ℕ) → p < n → is_among p list ≡ is p

-- the machine reads the other player's propositions, and outputs those of its own player
pub record HasRoles (is_first : Bool) (board : Board) (inputs outputs : List ℕ) : Type 0 where
  pub read : AreListedBelow board.propositions (is_others is_first board) inputs
  pub played : AreListedBelow board.propositions (λ p. not (is_others is_first board p)) outputs

-- a machine that reads the other player's propositions, outputs those of its own player, and has the certificate's
-- diagrams, as `AreDrawn` states
pub record IsAssembled (board : Board) (keys : List Key) (kept : List ℕ) (certificate : CertificateData)
    (m : MachineData) : Type 0 where
  pub few_names : length m.names ≤ 64
  pub are_names : AreNames m.names
  pub as_many : length m.names ≡ board.propositions
  pub letters : m.store.propositions ≡ length m.names
  pub player : m.player < 2
  pub some : 0 < length kept
  pub roles : HasRoles m.is_first board m.inputs m.outputs
  pub drawn : AreDrawn m.is_first board keys kept certificate m.store m.rows m.nodes (length kept)
