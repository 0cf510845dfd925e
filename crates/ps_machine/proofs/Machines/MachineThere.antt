-- Each valid certificate of an automaton's game has a machine. The proof computes the reachable vertices, the memory
-- states and the steps of the machine by definitions of its own.
use Rattle.std.proofs.Common.{◌≡◌, ◌≢◌, ◌⊎◌, inl, inr, ℕ, ◌+◌, ◌-◌, ◌<◌, ◌≤◌, Bool, true, false, not, List, length}
use Rattle.std.proofs.Common.{get_or, refl, ap, sym, ◌∙◌, arith, rules}
use Rattle.std.specs.Prelude.{◌==◌}
use Rattle.std.proofs.lemmas.Bool.{cases_Bool, cases_lt, eqb-true, eqb-false}
use Rattle.std.proofs.lemmas.List.Elements.{All-contains}
use Rattle.std.proofs.lemmas.Option.{slice_get-get_or}
use Rattle.ps_game.specs.Games.{ParityGame, HasEdge, vertex_count, owner_of}
use Rattle.ps_certificate.specs.Certificates.{CertificateData, Fits, IsValid}
use Rattle.ps_diagram.proofs.Letters.{no_bit}
use Rattle.ps_hoa.specs.Sound.{AreNames}
use Rattle.ps_machine.specs.Inner.Assembling.{AreListedBelow}
use Rattle.ps_machine.specs.Behaviours.{Behaviour, IsMachine, IsOutput, AreSameOn}
use Rattle.ps_machine.specs.Boards.{Board, IsFirstLetter, IsSecondLetter, SameStep, IsGameOf}
use Rattle.ps_machine.specs.Inner.Drawing.{AreMemories, AreUsed, IsOwn, IsRowAt}
use Rattle.ps_machine.specs.Extracting.{HasPropositions, IsMachineOf, IsOtherLetter, IsStep, IsUsed, is_others}
use Rattle.ps_machine.specs.Numbering.{StandsAt}
use Rattle.ps_solver.specs.Solving.{winner_at_start}
use Rattle.ps_machine.specs.declared.key.Key.{Key}
use Rattle.ps_machine.specs.declared.key.Key.TheVariants.{First}
use Rattle.ps_machine.specs.declared.machine.Row.{Row}
use Rattle.ps_machine.proofs.AutomatonGames.DecidedMoves.{not_false, other_over, over_other, class_there, move_there}
use Rattle.ps_machine.proofs.AutomatonGames.DecidedMoves.{part, part_itself}
use Rattle.ps_machine.proofs.AutomatonGames.DecidedMoves.{part_over, part_same, same_priorities, same_states}
use Rattle.ps_machine.proofs.Machines.Diagrams.DrawingLemmas.{class_at, move_at, move_to, to_class_of, to_pair_of}
use Rattle.ps_machine.proofs.Machines.Diagrams.DrawingLemmas.{used_more}
use Rattle.ps_machine.proofs.Machines.UsedVertices.{used_first}
use Rattle.ps_machine.proofs.Machines.KeptMemories.{all_kept, each_kept, memory_of, some_kept}
use Rattle.ps_machine.proofs.Machines.MachineLemmas.{own_none, own_within}
use Rattle.ps_machine.proofs.Lassos.Rounds.{Setting, first_owner, second_owner, within_game}
use Rattle.ps_machine.proofs.AutomatonGames.GameKeys.Standing.{same_some, stand-within}
use Rattle.ps_machine.proofs.Machines.PartsThere.{listed_there, used_there, memories_there}

-- ## Rows

module _ {board : Board} {mover : ℕ} {keys : List Key} {game : ParityGame} {certificate : CertificateData}
    (s : Setting board mover keys game certificate) where
  edge_within : (v w : ℕ) → HasEdge game v w → w < vertex_count game
  edge_within v w edge =
      let at = s.by_keys.vertices v edge.0 in
      grind (arith, All-contains, stand-within)

  small_winner : winner_at_start certificate < 2
  small_winner = s.fits.winners 0 (within_game s 0 s.by_keys.begins)

  module _ (used : List ℕ) (are_used : AreUsed game certificate used) (kept anchors : List ℕ) where
    record HasRow (is_first : Bool) (v q x : ℕ) : Type 0 where
      row : Row
      is_right : IsRowAt is_first board keys kept certificate v q x row
      own : IsOwn is_first board row.letter
      within : row.memory < length kept

    row_first : true ≡ (mover == winner_at_start certificate) → AreMemories true keys used kept anchors →
        (v q p x : ℕ) →
        StandsAt keys v (First q p) → IsUsed game certificate v → IsSecondLetter board x → HasRow true v q x
    row_first turn m v q p x stands is_used second =
        let wins : mover ≡ winner_at_start certificate = eqb-true mover (winner_at_start certificate) (sym turn) in
        let chosen = move_at s stands is_used (first_owner s v stands ∙ wins) in
        let c = class_at s v stands chosen.edge in
        let move = move_there board c.letter second in
        let to = to_pair_of s c.letter move.0 c.stands move.1 in
        let sum : c.letter + x ≡ x + c.letter = omega arith in
        let state : board.auto.next q (c.letter + move.0) ≡ board.auto.next q (x + c.letter) = search rules in
        let priority : board.auto.priority q (c.letter + move.0) ≡ board.auto.priority q (x + c.letter) = grind arith in
        let there : StandsAt keys to.vertex (First (board.auto.next q (x + c.letter))
        (board.auto.priority q (x + c.letter))) = search rules in
        let other : owner_of game chosen.chosen ≡ 1 - mover = second_owner s chosen.chosen c.stands in
        let next_used : IsUsed game certificate to.vertex =
        used_more chosen.used to.edge (edge_within chosen.chosen to.vertex to.edge) (λ own. grind arith) in
        let next = memory_of m
        (board.auto.priority q (x + c.letter)) s.by_keys.different ((are_used to.vertex).1 next_used) there in
        record {
          row = record { memory = next.0; letter = c.letter };
          is_right = search rules;
          own = c.is_class.here.0;
          within = next.1;
        }

    row_second : false ≡ (mover == winner_at_start certificate) → AreMemories false keys used kept anchors →
        (v q p x : ℕ) →
        StandsAt keys v (First q p) → IsUsed game certificate v → IsFirstLetter board x → HasRow false v q x
    row_second turn m v q p x stands is_used first =
        let loses : mover ≢ winner_at_start certificate = eqb-false mover (winner_at_start certificate) (sym turn) in
        let class = class_there board q first in
        let to = to_class_of s stands class.1 in
        let to_used : IsUsed game certificate to.vertex = used_more is_used to.edge (edge_within v to.vertex to.edge)
        (λ own. absurd (loses (sym (first_owner s v stands) ∙ own))) in
        let owner = second_owner s to.vertex to.stands in
        let chosen = move_at s to.stands to_used (omega (arith, owner, loses, small_winner, s.is_mover)) in
        let move = move_to s to.vertex to.stands chosen.edge in
        let letter = move.letter in
        let own : IsSecondLetter board letter = move.is_move.here.0 in
        let same : SameStep board q (x + letter) (class.0 + letter) = class.2 letter own in
        let there : StandsAt keys chosen.chosen (First (board.auto.next q (x + letter))
        (board.auto.priority q (x + letter))) = search rules in
        let next = memory_of m
        (board.auto.priority q (x + letter)) s.by_keys.different ((are_used chosen.chosen).1 chosen.used) there in
        record {
          row = record { memory = next.0; letter = letter };
          is_right = record {
            played = record {
              class = class.0;
              is_class = class.1;
              same = class.2;
              at = to.vertex;
              stands = to.stands;
              chosen = chosen.chosen;
              choice = chosen.choice;
              least = search (rules, same_some, same_states, same_priorities);
            };
            entered = chosen.chosen;
            goes = record { stands = there };
            next = next.2;
          };
          own = own;
          within = next.1;
        }

    row_there : (is_first : Bool) → is_first ≡ (mover == winner_at_start certificate) →
        AreMemories is_first keys used kept anchors → {v q : ℕ} (p : ℕ) {x : ℕ} → StandsAt keys v (First q p) →
        IsUsed game certificate v → IsOtherLetter is_first board x → HasRow is_first v q x
    row_there is_first h k p m n q = search (rules, row_first, row_second)

-- ## The machine

module _ (names : List (List ℕ)) {board : Board} {mover : ℕ} {keys : List Key} {game : ParityGame}
    {certificate : CertificateData} (few : length names ≤ 64) (are_names : AreNames names)
    (as_many : length names ≡ board.propositions) (setting : Setting board mover keys game certificate) {first : Bool}
    (turn : first ≡ (mover == winner_at_start certificate)) {used : List ℕ} (are_used : AreUsed game certificate used)
    {kept anchors : List ℕ} (m : AreMemories first keys used kept anchors)
  where
    -- the letter that consists of the other player's bits of x
    read : ℕ → ℕ
    read x = part board.propositions (is_others first board) x

    read_other : (x : ℕ) → IsOtherLetter first board (read x)
    unfolding read
    read_other x = over_other first board (part_over board.propositions (is_others first board) x)

    read_itself : (x : ℕ) → IsOtherLetter first board x → read x ≡ x
    unfolding read
    read_itself x other = part_itself board.propositions (is_others first board) x (other_over first board x other)

    -- if the machine is in memory state `memory`, and the other player's letter is z, the machine's row has the right
    -- output and next memory state
    record IsRowOf (memory z : ℕ) (row : Row) : Type 0 where
      state : ℕ
      priority : ℕ
      stands : StandsAt keys (get_or kept memory 0) (First state priority)
      right : IsRowAt first board keys kept certificate (get_or kept memory 0) state z row
      own : IsOwn first board row.letter
      within : row.memory < length kept

    row_at : (memory z : ℕ) → memory < length kept → (row : Row) × IsRowOf memory (read z) row
    row_at memory z within =
        let here = m.each memory within in
        grind (
          arith,
          row_there setting used are_used kept anchors first turn m here.priority here.stands
              ((are_used (get_or kept memory 0)).0 here.is_used) (read_other z),
        )

    abbrev row_if : (memory z : ℕ) → (memory < length kept) ⊎ (length kept ≤ memory) → Row
    row_if memory z (inl within) = (row_at memory z within).0
    row_if memory z (inr out) = record { memory = 0; letter = 0 }

    row : ℕ → ℕ → Row
    row memory x = row_if memory (read x) (cases_lt memory (length kept))

    row_right : {memory : ℕ} (x : ℕ) → memory < length kept → IsRowOf memory (read (read x)) (row memory x)
    unfolding row
    row_right {memory} x within = search (rules, cases_lt, read, row_at)

    inputs : (list : List ℕ) × AreListedBelow board.propositions (is_others first board) list
    inputs = listed_there (is_others first board) board.propositions

    outputs : (list : List ℕ) × AreListedBelow board.propositions (λ p. not (is_others first board p)) list
    outputs = listed_there (λ p. not (is_others first board p)) board.propositions

    row_heeds : (memory x y : ℕ) → AreSameOn inputs.0 x y → row memory x ≡ row memory y
    unfolding row read
    row_heeds memory x y same = ap (λ z. row_if memory z (cases_lt memory (length kept)))
        (part_same board.propositions (is_others first board) x y (λ p less is. same p (inputs.1.are p less ∙ is)))

    made : Behaviour
    made = record {
      names = names;
      inputs = inputs.0;
      outputs = outputs.0;
      player = winner_at_start certificate;
      is_first = first;
      memories = length kept;
      next = λ memory x. (row memory x).memory;
      plays = λ memory x. (row memory x).letter;
    }

    outputs_only : (y : ℕ) → IsOwn first board y → IsOutput made y
    unfolding made
    outputs_only y own = search (rules, own_within, cases_lt, own_none, not_false, no_bit)

    same_letter_played : first ≡ true → (memory x y : ℕ) → memory < length kept →
        (row memory x).letter ≡ (row memory y).letter
    same_letter_played is memory x y within =
        grind (arith, row_right x within, row_right y within, row memory x, row memory y)

    does : IsMachine made
    unfolding made
    does = record {
      few_names = few;
      are_names = are_names;
      inputs_rise = inputs.1.rising;
      outputs_rise = outputs.1.rising;
      each = search (rules, cases_Bool);
      apart = search rules;
      player = small_winner setting;
      some = some_kept m 0 board.auto.start setting.by_keys.begins
          ((are_used 0).1 (used_first game certificate (within_game setting 0 setting.by_keys.begins)));
      next_within = λ memory x within. (row_right x within).within;
      plays_own = λ memory x within. outputs_only (row memory x).letter (row_right x within).own;
      next_heeds = λ memory x y within same. ap (λ (r : Row). r.memory) (row_heeds memory x y same);
      plays_heeds = λ memory x y within same. ap (λ (r : Row). r.letter) (row_heeds memory x y same);
      blind = λ is memory x y within. same_letter_played is memory x y within;
    }

    made_step : (memory x : ℕ) → memory < length kept → IsOtherLetter first board x →
        IsStep board keys kept certificate made memory x
    unfolding made
    made_step memory x within other =
        let v = get_or kept memory 0 in
        let r = row_right x within in
        let letter = (row memory x).letter in
        let same : read (read x) ≡ x = ap read (read_itself x other) ∙ read_itself x other in
        record {
          vertex = v;
          state = r.state;
          priority = r.priority;
          is_kept = slice_get-get_or kept memory 0 within;
          stands = r.stands;
          played = rw same at r.right.played;
          entered = r.right.entered;
          goes = rw same at r.right.goes;
          next = search (rules, row);
        }

    machine : (b : Behaviour) × IsMachine b × HasPropositions names board b ×
        IsMachineOf board mover keys game certificate b
    unfolding made
    machine = (
      made,
      does,
      record { names_are = refl; as_many = as_many; reads = inputs.1.are },
      record {
        player = refl;
        is_first = turn;
        kept = kept;
        rising = m.rising;
        each = all_kept m are_used;
        complete = each_kept m are_used;
        memories = refl;
        steps = made_step;
      },
    )

pub machine_there : (names : List (List ℕ)) (board : Board) (mover : ℕ) (keys : List Key) (game : ParityGame)
    (certificate : CertificateData) → length names ≤ 64 → AreNames names →
    length names ≡ board.propositions → mover < 2 →
    IsGameOf board mover keys game → Fits game certificate → IsValid game certificate →
    (m : Behaviour) × IsMachine m × HasPropositions names board m × IsMachineOf board mover keys game certificate m
machine_there names board mover keys game certificate few are_names as_many small is fits valid =
    let s : Setting board mover keys game certificate = grind arith in
    let some = within_game s 0 s.by_keys.begins in
    let used = used_there valid (edge_within s) some in
    let first = mover == winner_at_start certificate in
    let memories = memories_there first keys used.0 in
    machine names few are_names as_many s refl used.1 memories.2
