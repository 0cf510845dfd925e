-- A certificate of a file's game has at most one machine: the automata of a file differ only at states and letters that
-- no play reaches.
use Rattle.std.proofs.Common.{rules, ◌≡◌, ℕ, ◌+◌, ◌^◌, ◌<◌, ◌≤◌, Bool, true, false, List, length, arith}
use Rattle.ps_automaton.specs.Autos.{Auto, IsAutoOf}
use Rattle.ps_automaton.specs.Chains.{Chain}
use Rattle.ps_certificate.specs.Certificates.{CertificateData}
use Rattle.ps_game.specs.Games.{NamedGameData, ParityGame}
use Rattle.ps_hoa.specs.Files.{FileData}
use Rattle.ps_machine.specs.Behaviours.{Behaviour, IsMachine}
use Rattle.ps_machine.specs.Behaving.{BehavesAs}
use Rattle.ps_machine.specs.Boards.{Board, IsFirstLetter, IsSecondLetter, IsGameOf}
use Rattle.ps_machine.specs.Extracting.{GoesTo, HasPropositions, IsMachineOf, IsOtherLetter, IsPlayed, IsStep}
use Rattle.ps_machine.specs.FileGames.{IsGameOfFile, board_of_file}
use Rattle.ps_machine.specs.Keys.{mover_of}
use Rattle.ps_machine.specs.Numbering.{StandsAt}
use Rattle.ps_machine.specs.declared.key.Key.{Key}
use Rattle.ps_machine.specs.declared.key.Key.TheVariants.{First, Second}
use Rattle.ps_machine.specs.declared.key.Order.{Order}
use Rattle.ps_machine.proofs.AutomatonGames.BoardLetters.{sum_within}
use Rattle.ps_machine.proofs.Uniqueness.OneFileGame.{alike, class_too, first_too, game_too, key_fine, on, one_chain}
use Rattle.ps_machine.proofs.Uniqueness.OneFileGame.{second_too, steps_too}
use Rattle.ps_machine.proofs.Uniqueness.OneGame.{one_game_of}
use Rattle.ps_machine.proofs.Uniqueness.OneMachine.{one_machine}

module _ (order : Order) {file : FileData} {chain : Chain} {a b : Auto} (is : IsAutoOf file chain a)
    (too : IsAutoOf file chain b) {mover : ℕ} {keys : List Key} {game : ParityGame}
    (g : IsGameOf (on order file chain a) mover keys game) where
  abbrev one : Board
  one = board_of_file order file a

  abbrev other : Board
  other = board_of_file order file b

  goes_too : {q letter w : ℕ} → q ≤ file.states → letter < 2 ^ length file.names → GoesTo keys one q letter w →
      GoesTo keys other q letter w
  goes_too {q} {letter} {w} low lt goes = grind (arith, alike order file chain is too q letter low lt)

  other_too : (first : Bool) (x : ℕ) → IsOtherLetter first other x → IsOtherLetter first one x
  other_too first x h = search (rules, second_too, first_too)

module _ (order : Order) {file : FileData} {chain : Chain} {a b : Auto} (is : IsAutoOf file chain a)
    (too : IsAutoOf file chain b) {mover : ℕ} {keys : List Key} {game : ParityGame}
    (g : IsGameOf (board_of_file order file a) mover keys game) (certificate : CertificateData) where
  abbrev before : Board
  before = board_of_file order file a

  abbrev behind : Board
  behind = board_of_file order file b

  fine : (v q p : ℕ) → StandsAt keys v (First q p) → q ≤ file.states
  fine v q p stands = key_fine order file chain is too g v (First q p) stands

  record Plays (first : Bool) (v q x letter : ℕ) : Type 0 where
    played : IsPlayed first behind keys certificate v q x letter
    within : x + letter < 2 ^ length file.names

  turned : (x y : ℕ) → x + y ≡ y + x
  turned x y = omega arith

  plays_first : {v q x letter : ℕ} → IsSecondLetter before x → IsPlayed true before keys certificate v q x letter →
      Plays true v q x letter
  plays_first {q} {x} {letter} second s = record {
    played = record { chosen = s.chosen; choice = s.choice; stands = s.stands };
    within = (let key = key_fine order file chain is too g s.chosen (Second q letter) s.stands in
        rw (turned letter x) at (sum_within before key.1 second));
  }

  plays_second : {v q x letter : ℕ} → q ≤ file.states → IsFirstLetter before x →
      IsPlayed false before keys certificate v q x letter → Plays false v q x letter
  plays_second {q} {x} low letter_first s = record {
    played = record {
      class = s.class;
      is_class = class_too order file chain is too q s.class low s.is_class;
      same = steps_too order file chain is too q low letter_first class_first s.same;
      at = s.at;
      stands = s.stands;
      chosen = s.chosen;
      choice = s.choice;
      least = record {
        here = grind (
          arith,
          second_too order file chain a b s.least.here.0,
          goes_too order is too g low (sum_within before class_first s.least.here.0) s.least.here.1,
        );
        none_before = λ z there earlier. s.least.none_before z (back z there) earlier;
      };
    };
    within = sum_within before letter_first s.least.here.0;
  }
    where
      class_first : IsFirstLetter before s.class
      class_first = s.is_class.here.0

      back : (z : ℕ) → IsSecondLetter behind z × GoesTo keys behind q (s.class + z) s.chosen →
          IsSecondLetter before z × GoesTo keys before q (s.class + z) s.chosen
      back z there =
          let second = second_too order file chain b a there.0 in
          grind (arith, alike order file chain too is q (s.class + z) low (sum_within before class_first second))

  plays : (first : Bool) (v q x letter : ℕ) → q ≤ file.states → IsOtherLetter first before x →
      IsPlayed first before keys certificate v q x letter → Plays first v q x letter
  plays true v q x letter low is_other s = plays_first is_other s
  plays false v q x letter low is_other s = plays_second low is_other s

  step_too : {kept : List ℕ} {m : Behaviour} {memory x : ℕ} → IsOtherLetter m.is_first before x →
      IsStep before keys kept certificate m memory x → IsStep behind keys kept certificate m memory x
  step_too {kept} {m} {memory} {x} is_other s =
      let low = fine s.vertex s.state s.priority s.stands in
      let p = plays m.is_first s.vertex s.state x (m.plays memory x) low is_other s.played in
      grind (arith, goes_too order is too g low p.within s.goes)

  machine_too : (m : Behaviour) → IsMachineOf before mover keys game certificate m →
      IsMachineOf behind mover keys game certificate m
  machine_too m of = search (rules, other_too, step_too)

  propositions_too : (m : Behaviour) → HasPropositions file.names before m → HasPropositions file.names behind m
  propositions_too m has = search rules

pub one_machine_of_file : (order : Order) (file : FileData) (game : NamedGameData)
    (first second : IsGameOfFile order file game) (certificate : CertificateData) (m o : Behaviour) →
    IsMachine m → IsMachine o → HasPropositions file.names (board_of_file order file first.auto) m →
    HasPropositions file.names (board_of_file order file second.auto) o →
    IsMachineOf (board_of_file order file first.auto) (mover_of order) first.keys game.game certificate m →
    IsMachineOf (board_of_file order file second.auto) (mover_of order) second.keys game.game certificate o →
    BehavesAs m o
one_machine_of_file order file game first second certificate m o machine other has also of and =
    one_machine file.names board mover second.keys game.game certificate second.is_game m o machine other
    (propositions_too order is second.is_auto first.is_game certificate m has) also
    (rw same.0 at (machine_too order is second.is_auto first.is_game certificate m of)) and
  where
    board : Board
    board = board_of_file order file second.auto

    mover : ℕ
    mover = mover_of order

    is : IsAutoOf file second.chain first.auto
    is = one_chain first second

    same : (first.keys ≡ second.keys) × (game.game ≡ game.game)
    same = one_game_of board mover first.keys second.keys game.game game.game
        (game_too order file second.chain is second.is_auto first.is_game) second.is_game
