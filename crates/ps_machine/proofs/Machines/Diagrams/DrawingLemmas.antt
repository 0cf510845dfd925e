-- Lemmas for the diagrams of either player's machine: about the vertices of its memory states, the vertices that can be
-- reached, the successors of these vertices, and the machine's rows. (A row of a machine's table has a letter to output
-- and a next memory state.)
use Rattle.std.proofs.Common.{if◌then◌else◌, ◌≡◌, ◌≢◌, ℕ, ◌+◌, ◌<◌, Bool, true, List, length, get_or, map, Some, ap}
use Rattle.std.proofs.Common.{sym, ◌∙◌, arith, rules, eqb}
use Rattle.std.specs.Prelude.{slice_get}
use Rattle.std.specs.List.{All, AllPairs, AllZip, Contains, list_any, position}
use Rattle.std.proofs.lemmas.Bool.{eq-eqb}
use Rattle.std.proofs.lemmas.List.{get_or_default, length-map, get_or-map, get_or_append_left, get_or_push, length_push}
use Rattle.std.proofs.lemmas.List.Elements.{All-push}
use Rattle.std.proofs.lemmas.List.Folds.{list_any_at}
use Rattle.std.proofs.lemmas.List.Quantifiers.{position-Some}
use Rattle.std.proofs.lemmas.Option.{slice_get_within, slice_get-get_or, get_or_from_slice_get}
use Rattle.indexmap.specs.IndexSet.{insert_key}
use Rattle.ps_game.specs.Games.{ParityGame, vertex_count, owner_of, successors_of, HasEdge}
use Rattle.ps_game.proofs.PathsAndLoops.Paths.{IsPath-push, Follows-push}
use Rattle.ps_certificate.specs.Certificates.{CertificateData, IsClosed, winner_of, choice_of}
use Rattle.ps_certificate.proofs.FlawsAndValidity.Keeping.{path_stays}
use Rattle.ps_diagram.specs.Table.{Table, Keeps, leaf_of}
use Rattle.ps_diagram.proofs.NodeTables.KnownLemmas.{some_nat}
use Rattle.ps_diagram.proofs.ClassesOfLetters.Distinct.{at_left}
use Rattle.ps_automaton.specs.Automata.{AutomatonData}
use Rattle.ps_machine.specs.Boards.{IsListOf, Board, IsClassLetter, IsMove, LeadsTo}
use Rattle.ps_machine.specs.BuiltBoards.{board_of}
use Rattle.ps_machine.specs.Inner.Drawing.{AreMemories, IsPlan, IsDrawn, KeepsRows, Leads, anchor_of}
use Rattle.ps_machine.specs.Extracting.{IsUsed, GoesTo, Shares, StandsFor}
use Rattle.ps_solver.specs.Solving.{winner_at_start}
use Rattle.ps_machine.specs.Keys.{mover_of}
use Rattle.ps_machine.specs.Numbering.{StandsAt}
use Rattle.ps_machine.specs.declared.key.Key.{Key}
use Rattle.ps_machine.specs.declared.key.Key.TheVariants.{First, Second}
use Rattle.ps_machine.specs.declared.key.Order.{Order}
use Rattle.ps_machine.proofs.AutomatonGames.Movers.{small_mover}
use Rattle.ps_machine.specs.declared.machine.Row.{Row}
use Rattle.ps_machine.proofs.AutomatonGames.BoardSteps.{some_of}
use Rattle.ps_machine.proofs.Lassos.Rounds.{Setting, one_place, within_game, map_contains}
use Rattle.ps_machine.proofs.AutomatonGames.GameKeys.Standing.{same_some, zip_at, zip_vertex}

-- ## Memory states

-- if a search in a list gives an index, the entry at this index passes the test
pub at_position : {X : Type 0} (test : X → Bool) (xs : List X) (d : X) {i : ℕ} → position test xs ≡ Some i →
    (x : X) × (slice_get xs i ≡ Some x) × (test x ≡ true)
at_position test xs d {i} e =
    let there = position-Some test xs i d e in
    (get_or xs i d, slice_get-get_or xs i d there.0, there.1)

pub has_anchor : (anchors : List ℕ) (memory : ℕ) {anchor : ℕ} → slice_get anchors memory ≡ Some anchor →
    list_any (eqb anchor) anchors ≡ true
has_anchor anchors memory {anchor} at =
    list_any_at (eqb anchor) anchors memory anchor (slice_get_within anchors memory anchor at)
    (eq-eqb anchor (get_or anchors memory anchor) (sym (get_or_from_slice_get anchors memory anchor anchor at)))

-- a memory state whose anchor (what it remembers, `anchor_of`) is the anchor of a vertex is the memory state of this
-- vertex
pub stands_for : {is_first : Bool} {keys : List Key} {used kept anchors : List ℕ} {memory : ℕ} (v : ℕ) {q : ℕ} (p : ℕ) →
    AllPairs (λ x y. x ≢ y) keys → AreMemories is_first keys used kept anchors → StandsAt keys v (First q p) →
    slice_get anchors memory ≡ Some (anchor_of is_first v q) → {w : ℕ} → StandsAt keys w (First q p) →
    StandsFor is_first keys kept memory w q
stands_for {is_first} {keys} {kept} {anchors} {memory} v {q} p differ m at is {w} there =
    let within : memory < length kept =
    omega (arith, slice_get_within anchors memory (anchor_of is_first v q) is, m.many) in
    let here = m.each memory within in
    grind (arith, slice_get-get_or, by)
  where
    by : (b : Bool) (u r : ℕ) → Some (anchor_of b u r) ≡ Some (anchor_of b v q) → Shares b u r w q
    by b u r e = grind (arith, some_nat, one_place)

-- ## Used vertices

-- if v is reachable and has an edge to w, then w is reachable, too, unless the winner of vertex 0 owns v and moves
-- elsewhere
pub used_more : {game : ParityGame} {certificate : CertificateData} {v : ℕ} {w : ℕ} → IsUsed game certificate v →
    HasEdge game v w → w < vertex_count game →
    (owner_of game v ≡ winner_at_start certificate → choice_of certificate v ≡ Some w)
    → IsUsed game certificate w
used_more {game} {certificate} {w} u edge within chosen =
    let long = length_push u.path w in
    grind (arith, IsPath-push, get_or_append_left, Follows-push, get_or_push)

pub used_won : {game : ParityGame} {certificate : CertificateData} {v : ℕ} → IsClosed game certificate →
    IsUsed game certificate v → winner_of certificate v ≡ winner_at_start certificate
used_won {game} {certificate} closed u = search (rules, path_stays)

pub setting : {order : Order} {a : AutomatonData} {keys : List Key} {game : ParityGame} {certificate : CertificateData}
    {is_first : Bool} {kept anchors : List ℕ} → IsPlan order a keys game certificate is_first kept anchors →
    Setting (board_of order a) (mover_of order) keys game certificate
setting {order} plan = search (rules, small_mover)

-- ## Successors

-- the list `numbers` has, for each letter x of the list `letters`, the vertex that stands for the key `key x`
module _ (keys : List Key) (key : ℕ → Key) (numbers : List ℕ) {P : ℕ → Type 0} {letters : List ℕ} {next : List Key}
    (listed : IsListOf P letters) (are : next ≡ map key letters) (zip : AllZip (StandsAt keys) numbers next) where
  letter_of_number : {w : ℕ} → Contains numbers w → (x : ℕ) × P x × StandsAt keys w (key x)
  letter_of_number {w} c =
      let here = zip_at keys numbers next c.0 w (key 0) zip c.1 in
      let within : c.0 < length letters =
      omega (arith, here.0, ap (λ (l : List Key). length l) are, length-map letters key) in
      let x = get_or letters c.0 0 in
      let is : get_or next c.0 (key 0) ≡ key x = search (rules, get_or-map) in
      (x, listed.each c.0 0 within, rw c.2 at (here.1 ∙ ap (λ k. Some k) is))

  number_of_letter : {x : ℕ} → P x → (w : ℕ) × Contains numbers w × StandsAt keys w (key x)
  number_of_letter {x} is =
      let c = listed.complete x is in
      let m = rw (← are) at (map_contains key letters c.0 c.1 c.2) in
      zip_vertex keys numbers next zip m

-- the vertex w stands for the state q and a class of first-player letters
pub record ClassAt (board : Board) (keys : List Key) (q w : ℕ) : Type 0 where
  pub letter : ℕ
  pub is_class : IsClassLetter board q letter
  pub stands : StandsAt keys w (Second q letter)

-- the vertex w stands for the step that a move of the second player makes after the letter x
pub record MoveTo (board : Board) (keys : List Key) (q x w : ℕ) : Type 0 where
  pub letter : ℕ
  pub is_move : IsMove board q x letter
  pub goes : GoesTo keys board q (x + letter) w

-- the certificate has a move at the vertex v, and this move is an edge
pub record Chosen (game : ParityGame) (certificate : CertificateData) (v : ℕ) : Type 0 where
  pub chosen : ℕ
  pub choice : choice_of certificate v ≡ Some chosen
  pub edge : HasEdge game v chosen
  pub used : IsUsed game certificate chosen

module _ {board : Board} {mover : ℕ} {keys : List Key} {game : ParityGame} {certificate : CertificateData}
    (s : Setting board mover keys game certificate) where
  abbrev pair_key : ℕ → ℕ → ℕ → Key
  pair_key q x y = First (board.auto.next q (x + y)) (board.auto.priority q (x + y))

  pub move_at : {v : ℕ} {k : Key} → StandsAt keys v k → IsUsed game certificate v →
      owner_of game v ≡ winner_at_start certificate → Chosen game certificate v
  move_at {v} {k} at used own =
      let within = within_game s v at in
      let won = used_won s.valid.closed used in
      let there =
      some_of (choice_of certificate v) (HasEdge game v) ((s.valid.closed.moves v within).own (own ∙ sym won)) in
      grind (arith, used_more)

  -- if a vertex stands for the key k, its successors stand, in order, for the keys to which k leads
  next_keys : (v : ℕ) (k : Key) → StandsAt keys v k → (next : List Key) × LeadsTo board k next ×
      AllZip (StandsAt keys) (successors_of game v) next
  next_keys v k at =
      let vertex = s.by_keys.vertices v (within_game s v at) in grind (arith, same_some)

  pub class_at : (v : ℕ) {w q p : ℕ} → StandsAt keys v (First q p) → HasEdge game v w → ClassAt board keys q w
  class_at v {q} {p} at edge =
      let n = next_keys v (First q p) at in
      let x = letter_of_number keys (λ x. Second q x) (successors_of game v) n.1.1 n.1.2 n.2 edge.1 in
      record { letter = x.0; is_class = x.1; stands = x.2 }

  pub move_to : (v : ℕ) {w q x : ℕ} → StandsAt keys v (Second q x) → HasEdge game v w → MoveTo board keys q x w
  move_to v {q} {x} at edge =
      let n = next_keys v (Second q x) at in
      grind (arith, letter_of_number keys (pair_key q x) (successors_of game v) n.1.1 n.1.2 n.2 edge.1)

  -- a vertex of the first player that stands for a state has an edge to the vertex of each class of letters of this
  -- state
  pub to_class_of : {v q p x : ℕ} → StandsAt keys v (First q p) → IsClassLetter board q x →
      Leads keys game v (Second q x)
  to_class_of {v} {q} {p} at is =
      let n = next_keys v (First q p) at in
      let there = number_of_letter keys (λ y. Second q y) (successors_of game v) n.1.1 n.1.2 n.2 is in
      record { vertex = there.0; edge = (within_game s v at, there.1); stands = there.2 }

  -- a vertex that stands for a class has, for each move of the second player, an edge to the vertex to which this move
  -- leads
  pub to_pair_of : {v q : ℕ} (x y : ℕ) → StandsAt keys v (Second q x) → IsMove board q x y →
      Leads keys game v (pair_key q x y)
  to_pair_of {v} {q} x y at is =
      let n = next_keys v (Second q x) at in
      grind (arith, number_of_letter keys (pair_key q x) (successors_of game v) n.1.1 n.1.2 n.2 is, within_game s v at)

-- ## The vertices of memory states

pub not_both : {r c q p : ℕ} → Second r c ≡ First q p → ⊥
not_both e = search rules

module _ {order : Order} {a : AutomatonData} {keys : List Key} {game : ParityGame} {certificate : CertificateData}
    {is_first : Bool} {kept anchors : List ℕ} (plan : IsPlan order a keys game certificate is_first kept anchors)
  where
    -- v is the vertex of a memory state: a reachable vertex at which the first player moves
    pub record KeptAt (v : ℕ) : Type 0 where
      pub state : ℕ
      pub priority : ℕ
      pub stands : StandsAt keys v (First state priority)
      pub used : IsUsed game certificate v

    pub kept_at : {v : ℕ} → Contains kept v → KeptAt v
    kept_at {v} c =
        let m = plan.memories.each c.0 c.1 in
        grind (arith, get_or_default)

    pub kept_used : {v : ℕ} → Contains kept v → IsUsed game certificate v
    kept_used {v} c = (kept_at c).used

    pub kept_within : (v : ℕ) → Contains kept v → v < length keys
    kept_within v c = let k = kept_at c in slice_get_within keys v (First k.state k.priority) k.stands

    pub kept_stands : (v : ℕ) → Contains kept v → {q p : ℕ} → get_or keys v (First 0 0) ≡ First q p →
        StandsAt keys v (First q p)
    kept_stands v c is = cc (slice_get-get_or keys v (First 0 0) (kept_within v c), is)

    pub kept_not_second : (v : ℕ) → Contains kept v → {q x : ℕ} → get_or keys v (First 0 0) ≡ Second q x → ⊥
    kept_not_second v c is =
        let k = kept_at c in
        not_both (sym is ∙ get_or_from_slice_get keys v (First k.state k.priority) (First 0 0) k.stands)

    pub kept_entry : (v : ℕ) → Contains kept v → v < length certificate.entries
    kept_entry v c =
        let k = kept_at c in
        grind (arith, within_game, setting)

-- ## Rows

by_case : (P : List Row → Type 0) (b : Bool) (old more : List Row) → P old → P more → P (if b then old else more)
by_case P b old more h k = search rules

-- inserting a row into the machine's list of rows does not change the index of any old row
pub keeps_rows : (eq : Row → Row → Bool) {old : List Row} (row : Row) {new : List Row} → new ≡ insert_key eq old row →
    KeepsRows old new
keeps_rows eq {old} row e = search (rules, by_case, at_left)

pub all_rows : (P : Row → Type 0) (eq : Row → Row → Bool) (old : List Row) (row : Row) {new : List Row} →
    new ≡ insert_key eq old row → All P old → P row → All P new
all_rows P eq old row e all here = grind (arith, All-push P old row all here)

pub keeps_rows_trans : {one two three : List Row} → KeepsRows one two → KeepsRows two three → KeepsRows one three
keeps_rows_trans k l = record { same = λ leaf r is. l.same leaf r (k.same leaf r is) }

-- a memory state's diagram still leads to the same rows when diagrams and rows are added for other memory states
pub drawn_kept : {is_first : Bool} {board : Board} {keys : List Key} {kept : List ℕ} {certificate : CertificateData}
    {t u : Table} {old new : List Row} {v node : ℕ} → Keeps t u → KeepsRows old new →
    IsDrawn is_first board keys kept certificate t old v node →
    IsDrawn is_first board keys kept certificate u new v node
drawn_kept {t} {u} {node} k rows d =
    let same : (x : ℕ) → leaf_of u node x ≡ leaf_of t node x = grind arith in
    record {
      held = k.held node d.held;
      state = d.state;
      priority = d.priority;
      stands = d.stands;
      leads = search rules;
      heeds = λ x y alike. same x ∙ d.heeds x y alike ∙ sym (same y);
    }
