-- A machine that is assembled from its diagrams, rows and propositions (`IsAssembled`) is a finite machine, and is the
-- machine of the certificate.
use Rattle.std.proofs.Common.{◌≡◌, ℕ, ◌^◌, ◌<◌, ◌⊎◌, Bool, true, false, not, List, length, Some, ap, arith, rules}
use Rattle.std.specs.Prelude.{slice_get, slice_index}
use Rattle.std.proofs.lemmas.Bool.{cases_Bool, cases_lt}
use Rattle.std.proofs.lemmas.Option.{slice_get_within, slice_get-get_or, get_or_from_slice_get}
use Rattle.ps_label.specs.Truth.{is_in}
use Rattle.ps_certificate.specs.Certificates.{CertificateData}
use Rattle.ps_diagram.specs.Table.{leaf_of}
use Rattle.ps_diagram.proofs.NodeTables.Cells.{true_is_not_false}
use Rattle.ps_diagram.proofs.Letters.{no_bit}
use Rattle.ps_hoa.specs.Files.{is_among}
use Rattle.ps_machine.specs.Inner.Assembling.{IsAssembled}
use Rattle.ps_machine.specs.Behaviours.{AreSameOn, IsMachine, IsOutput}
use Rattle.ps_machine.specs.Boards.{Board}
use Rattle.ps_machine.specs.Inner.Drawing.{IsOwn, IsDrawn, LeadsToRow}
use Rattle.ps_machine.specs.Extracting.{IsPlayed, IsOtherLetter, IsStep, is_others}
use Rattle.ps_machine.specs.Machines.{MachineData, IsWholeMachine, behaviour, row_at_leaf, machine_row}
use Rattle.ps_machine.specs.declared.key.Key.{Key}
use Rattle.ps_machine.specs.declared.machine.Row.{Row}
use Rattle.ps_machine.proofs.AutomatonGames.DecidedMoves.{not_false, over_other, part, part_bit, part_over}

back_not : (b : Bool) → not b ≡ true → b ≡ false
back_not b h = search rules

-- a player who moves first outputs the same letter at a vertex, whatever the other player's letter is
pub one_letter : (b : Bool) (board : Board) (keys : List Key) (certificate : CertificateData) (v q x y one other : ℕ) →
    b ≡ true → IsPlayed b board keys certificate v q x one → IsPlayed b board keys certificate v q y other → one ≡ other
one_letter b board keys certificate v q x y one other h k m = search (rules, true_is_not_false)

pub own_within : (b : Bool) (board : Board) (y : ℕ) → IsOwn b board y → y < 2 ^ board.propositions
own_within b board y h = search rules

-- in a letter of the machine's player, no proposition of the other player is true
pub own_none : (b : Bool) (board : Board) (y p : ℕ) → IsOwn b board y → is_others b board p ≡ true → is_in p y ≡ false
own_none b board y p h k = search (rules, back_not)

module _ {board : Board} {keys : List Key} {kept : List ℕ} {certificate : CertificateData} {m : MachineData}
    (a : IsAssembled board keys kept certificate m) where
  abbrev Drawn : ℕ → Type 0
  Drawn memory =
      IsDrawn m.is_first board keys kept certificate m.store m.rows (slice_index kept memory)
      (slice_index m.nodes memory)

  -- the letter that consists of the other player's bits of x
  abbrev read : ℕ → ℕ
  read x = part board.propositions (is_others m.is_first board) x

  read_other : (x : ℕ) → IsOtherLetter m.is_first board (read x)
  read_other x = over_other m.is_first board (part_over board.propositions (is_others m.is_first board) x)

  -- the letter `read x` has only those bits of x that belong to the other player; the diagram of a memory state leads
  -- it to the right row of the machine
  leads : (memory x : ℕ) → (d : Drawn memory) → LeadsToRow m.is_first board keys kept certificate m.store m.rows
      (slice_index m.nodes memory) (slice_index kept memory) d.state (read x)
  leads memory x d = d.leads (read x) (read_other x)

  leaf_is : (memory x : ℕ) → (d : Drawn memory) → leaf_of m.store (slice_index m.nodes memory) x ≡ Some
      (leads memory x d).leaf
  leaf_is memory x d = search (rules, part_bit, leads)

  step_is : (memory x : ℕ) {leaf : ℕ} {row : Row} → leaf_of m.store (slice_index m.nodes memory) x ≡ Some leaf →
      slice_get m.rows leaf ≡ Some row → machine_row m memory x ≡ row
  step_is memory x {leaf} {row} e f = search (rules, get_or_from_slice_get)

  drawn_at : (memory : ℕ) → memory < length m.nodes → Drawn memory
  drawn_at memory within = a.drawn.each memory (omega (arith, within, a.drawn.many))

  outputs_only : (y : ℕ) → IsOwn m.is_first board y → IsOutput (behaviour m) y
  outputs_only y own = search (rules, own_within, cases_lt, own_none, not_false, no_bit)

  row_is : (leaf : ℕ) → leaf < length m.rows → ((row_at_leaf m leaf).memory < length m.nodes) ×
      IsOutput (behaviour m) (row_at_leaf m leaf).letter
  row_is leaf within = search (rules, outputs_only)

  plays_same : m.is_first ≡ true → (memory x y : ℕ) → (d : Drawn memory) →
      (machine_row m memory x).letter ≡ (machine_row m memory y).letter
  plays_same is memory x y d =
      let one = leads memory x d in
      let other = leads memory y d in
      grind (
        arith,
        step_is memory x (leaf_is memory x d) one.is_row,
        step_is memory y (leaf_is memory y d) other.is_row,
      )

  read_or_played : (p : ℕ) → p < length m.names → (is_among p m.inputs ≡ true) ⊎ (is_among p m.outputs ≡ true)
  read_or_played p within = search (rules, cases_Bool)

  -- each step of the machine enters an existing memory state, and outputs a letter of the machine's player
  row_at : (memory x : ℕ) → memory < length m.nodes → ((machine_row m memory x).memory < length m.nodes) ×
      IsOutput (behaviour m) (machine_row m memory x).letter
  row_at memory x within =
      let l = leads memory x (drawn_at memory within) in
      let there = slice_get_within m.rows l.leaf l.row l.is_row in
      grind (arith, leaf_is, drawn_at, row_is)

  leaf_heeds : (memory x y : ℕ) → memory < length m.nodes → AreSameOn m.inputs x y →
      leaf_of m.store (slice_index m.nodes memory) x ≡ leaf_of m.store (slice_index m.nodes memory) y
  leaf_heeds memory x y within same = search (rules, drawn_at)

  step_heeds : (memory x y : ℕ) → memory < length m.nodes → AreSameOn m.inputs x y →
      machine_row m memory x ≡ machine_row m memory y
  step_heeds memory x y within same = search (rules, leaf_heeds)

  does : IsMachine (behaviour m)
  does = record {
    few_names = a.few_names;
    are_names = a.are_names;
    inputs_rise = a.roles.read.rising;
    outputs_rise = a.roles.played.rising;
    each = search (rules, read_or_played);
    apart = search rules;
    player = a.player;
    some = omega (arith, a.some, a.drawn.many);
    next_within = λ memory x within. (row_at memory x within).0;
    plays_own = λ memory x within. (row_at memory x within).1;
    next_heeds = λ memory x y within same. ap (λ (r : Row). r.memory) (step_heeds memory x y within same);
    plays_heeds = λ memory x y within same. ap (λ (r : Row). r.letter) (step_heeds memory x y within same);
    blind = λ is memory x y within. plays_same is memory x y (drawn_at memory within);
  }

  pub is_machine : IsWholeMachine m
  is_machine = record {
    is_machine = does;
    letters = a.letters;
    held = λ memory within. (drawn_at memory within).held;
    leaves = λ memory x within. (let d = drawn_at memory within in
        let l = leads memory x d in
        rw (leaf_is memory x d) (slice_get_within m.rows l.leaf l.row l.is_row));
    reads = leaf_heeds;
    rows = row_is;
  }

  -- each step of the machine makes the moves of the certificate
  pub is_step : (memory x : ℕ) → memory < length m.nodes → IsOtherLetter m.is_first board x →
      IsStep board keys kept certificate (behaviour m) memory x
  is_step memory x within other =
      let d = drawn_at memory within in
      let l = d.leads x other in
      grind (
        arith,
        step_is memory x l.is_leaf l.is_row,
        slice_get-get_or kept memory 0 (omega (arith, within, a.drawn.many)),
      )
