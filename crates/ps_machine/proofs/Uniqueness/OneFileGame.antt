-- A file has at most one game, because all automata of the file have the same steps at the states and letters that a
-- play can reach.
-- - `alike`: at each state and at the sink, the two automata have the same step for each letter
-- - `listed_fine`: the state in each key of a game is a state of the file or the sink, and the letter in a key is a
--   letter of the first player
-- - `leads_too`: each key of a game leads to the same keys by the steps of either automaton
-- - `game_too`: the game of one automaton of the file is also the game of any other automaton of the file
use Rattle.std.proofs.Common.{◌≡◌, ℕ, zero, suc, ◌+◌, ◌^◌, ◌<◌, ◌≤◌, List, [], ◌∷◌, length, get_or}
use Rattle.std.proofs.Common.{sym, ◌∙◌, arith, inl, inr, rules}
use Rattle.std.specs.List.{All, Contains}
use Rattle.std.proofs.lemmas.Bool.{cases_lt}
use Rattle.std.proofs.lemmas.List.Elements.{All-contains, All-map, Contains-append_cases}
use Rattle.std.proofs.lemmas.Option.{slice_get_within}
use Rattle.ps_text.proofs.Combinators.Simple.{same_some as same_value}
use Rattle.ps_hoa.specs.Files.{FileData}
use Rattle.ps_automaton.specs.Autos.{Auto, IsAutoOf}
use Rattle.ps_automaton.specs.Chains.{Chain}
use Rattle.ps_game.specs.Games.{ParityGame, NamedGameData, vertex_count, successors_of}
use Rattle.ps_machine.specs.Boards.{Board, IsFirstLetter, IsSecondLetter, SameStep, SameSteps, IsClassLetter, IsMove}
use Rattle.ps_machine.specs.Boards.{IsListOf, LeadsTo, IsGameOf}
use Rattle.ps_machine.specs.FileGames.{IsGameOfFile, board_of_file}
use Rattle.ps_machine.specs.KeyNames.{key_names}
use Rattle.ps_machine.specs.Keys.{mover_of}
use Rattle.ps_machine.specs.Numbering.{listed, StandsAt, IsVertexOf}
use Rattle.ps_machine.specs.declared.key.Key.{Key}
use Rattle.ps_machine.specs.declared.key.Key.TheVariants.{First, Second}
use Rattle.ps_machine.specs.declared.key.Order.{Order}
use Rattle.ps_machine.proofs.AutomatonGames.BoardLetters.{sum_within}
use Rattle.ps_machine.proofs.AutomatonGames.BoardSteps.{map_same}
use Rattle.ps_machine.proofs.Uniqueness.OneGame.{ahead, count_at, one_game_of, zipped}
use Rattle.ps_machine.proofs.Uniqueness.Counting.{has_it}
use Rattle.ps_machine.proofs.Uniqueness.Rising.{in_cons, none_in}
use Rattle.ps_machine.proofs.AutomatonGames.GameKeys.Standing.{came, same_some}

-- ## Steps

pub record StepAlike (a b : Auto) (q letter : ℕ) : Type 0 where
  pub next : a.next q letter ≡ b.next q letter
  pub priority : a.priority q letter ≡ b.priority q letter

relisted : (P Q : ℕ → Type 0) (letters : List ℕ) → ((x : ℕ) → P x → Q x) → ((x : ℕ) → Q x → P x) → IsListOf P letters →
    IsListOf Q letters
relisted P Q letters there back are = search rules

module _ (order : Order) (file : FileData) (chain : Chain) where
  abbrev pub on : Auto → Board
  on auto = board_of_file order file auto

  module _ {a b : Auto} (is : IsAutoOf file chain a) (too : IsAutoOf file chain b) where
    at_state : (q letter : ℕ) → q < file.states → letter < 2 ^ length file.names → StepAlike a b q letter
    at_state q letter low lt = elim (is.steps q letter low lt) [
      | inl takes ↦ (let edge = too.by_edge q letter takes.sets (a.next q letter) takes.goes in
          record { next = sym edge.0; priority = takes.priority ∙ sym edge.1 })
      | inr none ↦ elim (too.steps q letter low lt) [
        | inl takes ↦ absurd (none.none takes.sets (b.next q letter) takes.goes)
        | inr other ↦ record { next = none.to_sink ∙ sym other.to_sink; priority = none.priority ∙ sym other.priority }
      ]
    ]

    at_sink : (letter : ℕ) → letter < 2 ^ length file.names → StepAlike a b file.states letter
    at_sink letter lt = search rules

    pub alike : (q letter : ℕ) → q ≤ file.states → letter < 2 ^ length file.names → StepAlike a b q letter
    alike q letter le lt = grind (arith, cases_lt, at_state, at_sink)

  -- ## Letters, classes and moves

  pub first_too : (a b : Auto) {x : ℕ} → IsFirstLetter (on a) x → IsFirstLetter (on b) x
  first_too a b letter = record { within = letter.within; own = letter.own }

  pub second_too : (a b : Auto) {y : ℕ} → IsSecondLetter (on a) y → IsSecondLetter (on b) y
  second_too a b letter = record { within = letter.within; own = letter.own }

  module _ {a b : Auto} (is : IsAutoOf file chain a) (too : IsAutoOf file chain b) where
    step_too : {q l m : ℕ} → q ≤ file.states → l < 2 ^ length file.names → m < 2 ^ length file.names →
        SameStep (on a) q l m → SameStep (on b) q l m
    step_too {q} {l} {m} le ll lm s = grind (arith, alike)

    pub steps_too : (q : ℕ) {x z : ℕ} → q ≤ file.states → IsFirstLetter (on a) x → IsFirstLetter (on a) z →
        SameSteps (on a) q x z → SameSteps (on b) q x z
    steps_too q le hx hz s y hy =
        let back = second_too b a hy in
        step_too le (sum_within (on a) hx back) (sum_within (on a) hz back) (s y back)

    move_step_too : {q x y z : ℕ} → q ≤ file.states → IsFirstLetter (on a) x → IsSecondLetter (on a) y →
        IsSecondLetter (on a) z → SameStep (on a) q (x + y) (x + z) → SameStep (on b) q (x + y) (x + z)
    move_step_too le hx hy hz = step_too le (sum_within (on a) hx hy) (sum_within (on a) hx hz)

  module _ {a b : Auto} (is : IsAutoOf file chain a) (too : IsAutoOf file chain b) where
    pub class_too : (q x : ℕ) → q ≤ file.states → IsClassLetter (on a) q x → IsClassLetter (on b) q x
    class_too q x le c = record {
      here = (first_too a b c.here.0, steps_too is too q le c.here.0 c.here.0 c.here.1);
      none_before = λ z p before. (let hz = first_too b a p.0 in
          c.none_before z (hz, steps_too too is q le p.0 (first_too a b c.here.0) p.1) before);
    }

    move_too : (q x y : ℕ) → q ≤ file.states → IsFirstLetter (on a) x → IsMove (on a) q x y → IsMove (on b) q x y
    move_too q x y le hx m = grind (arith, second_too, move_step_too, first_too)

  -- ## Keys

  module _ {a b : Auto} (is : IsAutoOf file chain a) (too : IsAutoOf file chain b) where
    -- the key's state is a state of the file or the sink, and the key's letter, if it has one, is a letter of the
    -- player who moves first
    abbrev pub IsFine : Key → Type 0
    IsFine (First q p) = q ≤ file.states
    IsFine (Second q x) = (q ≤ file.states) × IsFirstLetter (on a) x

    next_fine : (key : Key) (next : List Key) → IsFine key → LeadsTo (on a) key next → All IsFine next
    next_fine (First q p) next le leads =
        rw leads.2 (All-map IsFine (λ x. Second q x) leads.0 (λ k d within. (le, (leads.1.each k d within).here.0)))
    next_fine (Second q x) next fine leads = rw leads.2 (All-map IsFine
        (λ y. First (a.next q (x + y)) (a.priority q (x + y))) leads.0 (λ k d within. (let y = get_or leads.0 k d in
        is.within q (x + y) fine.0 (sum_within (on a) fine.1 (leads.1.each k d within).here.0))))

    leads_too : (key : Key) (next : List Key) → IsFine key → LeadsTo (on a) key next → LeadsTo (on b) key next
    leads_too (First q p) next le leads = search (rules, relisted, class_too)
    leads_too (Second q x) next fine leads = (
      leads.0,
      search (rules, relisted, move_too, first_too),
      leads.2 ∙ map_same (λ y. First (a.next q (x + y)) (a.priority q (x + y)))
          (λ y. First (b.next q (x + y)) (b.priority q (x + y))) leads.0 0 same_key,
    )
      where
        same_key : (k : ℕ) → k < length leads.0 →
            First (a.next q (x + get_or leads.0 k 0)) (a.priority q (x + get_or leads.0 k 0)) ≡ First
            (b.next q (x + get_or leads.0 k 0)) (b.priority q (x + get_or leads.0 k 0))
        same_key k within =
            let y = get_or leads.0 k 0 in
            grind (arith, alike is too q (x + y) fine.0 (sum_within (on a) fine.1 (leads.1.each k 0 within).here.0))

    -- ## Games

    module _ {mover : ℕ} {keys : List Key} {game : ParityGame} (g : IsGameOf (on a) mover keys game) where
      has_come : (v : ℕ) → v < vertex_count game → Contains (listed game v) v
      has_come v lt =
          let c = count_at (on a) mover keys game v g (omega arith) in
          has_it (listed game v) v (came (listed game v) c.0 v c.1 (ahead (on a) mover keys game v c.0 g lt c.1))

      first_fine : (w : ℕ) (key : Key) → Contains (0 ∷ []) w → StandsAt keys w key → IsFine key
      first_fine w key c at = search (rules, in_cons, same_some, none_in)

      listed_fine : (v : ℕ) → v ≤ vertex_count game → (w : ℕ) (key : Key) → Contains (listed game v) w →
          StandsAt keys w key → IsFine key
      listed_fine zero le w key c at = first_fine w key c at
      listed_fine (suc v) le w key c at = elim (Contains-append_cases (listed game v) (successors_of game v) w c) [
        | inl before ↦ listed_fine v (omega arith) w key before at
        | inr new ↦ (let lt : v < vertex_count game = omega arith in
            let vertex = g.by_keys.vertices v lt in
            let fine = listed_fine v (omega arith) v vertex.key (has_come v lt) vertex.stands in
            All-contains IsFine vertex.next key (next_fine vertex.key vertex.next fine vertex.leads_to)
            (zipped keys (successors_of game v) vertex.next w key vertex.successors at new))
      ]

      pub key_fine : (v : ℕ) (key : Key) → StandsAt keys v key → IsFine key
      key_fine v key stands =
          let within : v < vertex_count game = omega (arith, slice_get_within keys v key stands, g.by_keys.count) in
          listed_fine v (omega arith) v key (has_come v within) stands

      vertex_too : (v : ℕ) → v < vertex_count game → IsVertexOf (LeadsTo (on b)) mover keys game v
      vertex_too v lt =
          let vertex = g.by_keys.vertices v lt in
          grind (
            arith,
            leads_too vertex.key vertex.next
                (listed_fine v (omega arith) v vertex.key (has_come v lt) vertex.stands) vertex.leads_to,
          )

      -- of two automata of one file, each game of the first is also a game of the second
      pub game_too : IsGameOf (on b) mover keys game
      game_too = search (rules, vertex_too)

-- ## Names

names_too : (order : Order) (file : FileData) (a b : Auto) (keys : List Key) →
    key_names (board_of_file order file a) keys ≡ key_names (board_of_file order file b) keys
names_too order file a b keys = grind arith

-- ## One game of a file

named_same : (x y : NamedGameData) → x.game ≡ y.game → x.ids ≡ y.ids → x.names ≡ y.names → x ≡ y
named_same x y games ids names = search rules

pub one_chain : {order : Order} {file : FileData} {game other : NamedGameData} (a : IsGameOfFile order file game)
    (b : IsGameOfFile order file other) → IsAutoOf file b.chain a.auto
one_chain {file} a b = search (rules, same_value)

pub one_game_of_file : (order : Order) (file : FileData) (game other : NamedGameData) → IsGameOfFile order file game →
    IsGameOfFile order file other → game ≡ other
one_game_of_file order file game other a b =
    named_same game other same.1
    (cc (a.are_named.ids, same.0, b.are_named.ids))
    (cc (a.are_named.names, names_too order file a.auto b.auto a.keys, same.0, b.are_named.names))
  where
    is : IsAutoOf file b.chain a.auto
    is = one_chain a b

    same : (a.keys ≡ b.keys) × (game.game ≡ other.game)
    same = one_game_of (board_of_file order file b.auto) (mover_of order) a.keys b.keys game.game other.game
        (game_too order file b.chain is b.is_auto a.is_game) b.is_game
