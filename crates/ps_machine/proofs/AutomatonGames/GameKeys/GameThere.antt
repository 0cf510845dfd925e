-- Each accepted file has a game: vertices can be visited one after another, and only finitely many can occur.
use Rattle.std.proofs.Common.{rules, ◌≡◌, ◌≢◌, ◌⊎◌, inl, inr, ℕ, zero, suc, ◌+◌, ◌^◌, ◌<◌, ◌≤◌, Bool, true, not, List}
use Rattle.std.proofs.Common.{[], ◌∷◌, ◌++◌, length, map, take, get_or, refl, sym, subst, arith, add-one}
use Rattle.std.specs.Bool.{Decides}
use Rattle.std.specs.Cmp.{IsEquivalence}
use Rattle.std.specs.Set.{is_member}
use Rattle.std.specs.List.{All, AllPairs, Contains, range_with_len}
use Rattle.std.proofs.lemmas.Bool.{cases_Bool, cases_eq, cases_lt}
use Rattle.std.proofs.lemmas.List.{length-map, take_all}
use Rattle.std.proofs.lemmas.List.Elements.{All-contains, All-map, All-push, All-nil, Contains-append_left}
use Rattle.std.proofs.lemmas.List.Elements.{Contains-append_right, Contains-push}
use Rattle.std.proofs.lemmas.List.Quantifiers.{all_pairs_push}
use Rattle.std.proofs.lemmas.Map.Made.{IsDistinct-from_AllPairs, is_member-Decides, length-le_from_is_member}
use Rattle.std.proofs.lemmas.Option.{slice_get-get_or, slice_get_past}
use Rattle.ps_game.specs.Games.{ParityGame, NamedGameData}
use Rattle.ps_game.specs.Drafts.{with_vertex}
use Rattle.ps_diagram.specs.Letters.{IsBefore, IsLeastLetter}
use Rattle.ps_hoa.specs.Files.{FileData}
use Rattle.ps_hoa.specs.Sound.{IsSoundFile}
use Rattle.ps_hoa.proofs.Reading.NameLemmas.{same_by}
use Rattle.ps_automaton.specs.Answers.{IsAdmitted}
use Rattle.ps_automaton.proofs.AdmittedFiles.Deciding.{some_or_none}
use Rattle.ps_automaton.proofs.AdmittedFiles.Existing.{auto_there}
use Rattle.ps_machine.specs.Boards.{IsListOf, Board, IsClassLetter, IsFirstLetter, IsGameOf, IsMove, IsSecondLetter}
use Rattle.ps_machine.specs.Boards.{LeadsTo}
use Rattle.ps_machine.specs.Boards.{SameStep, SameSteps}
use Rattle.ps_machine.specs.FileGames.{IsGameOfFile, board_of_file}
use Rattle.ps_machine.specs.KeyNames.{key_names}
use Rattle.ps_machine.specs.Keys.{mover_of, owner_of_key, priority_of_key}
use Rattle.ps_machine.specs.Inner.Visits.{Comes, DraftData, IsExplored, IsNumberOf, Visits}
use Rattle.ps_machine.specs.declared.key.Key.{Key}
use Rattle.ps_machine.specs.declared.key.Key.TheVariants.{First, Second}
use Rattle.ps_machine.specs.declared.key.Order.{Order}
use Rattle.ps_machine.specs.contracts.key.KeyPartialEq.TheImpl as key_eq
use Rattle.ps_machine.proofs.AutomatonGames.BoardLetters.{compared, not_before_itself, one_least, sum_within}
use Rattle.ps_machine.proofs.AutomatonGames.BoardSteps.{pairs_map, second_same}
use Rattle.ps_machine.proofs.AutomatonGames.DecidedMoves.{both_or_not, class_there, first_or_not, move_there}
use Rattle.ps_machine.proofs.AutomatonGames.DecidedMoves.{over_first, over_second}
use Rattle.ps_machine.proofs.AutomatonGames.DecidedMoves.{part_over, same_priorities, same_states, second_or_not}
use Rattle.ps_machine.proofs.AutomatonGames.DecidedMoves.{step_or_not}
use Rattle.ps_machine.proofs.AutomatonGames.DecidedMoves.{steps_or_not}
use Rattle.ps_machine.proofs.AutomatonGames.GameKeys.Exploring.{by_keys, explored_first, explored_more}
use Rattle.ps_machine.proofs.AutomatonGames.GameKeys.KeyTests.{key_same, same_key}
use Rattle.ps_machine.proofs.AutomatonGames.LeastLetters.{before_ranks, least_there, rank, rank_lt}
use Rattle.ps_machine.proofs.AutomatonGames.GameKeys.Visiting.{visits_next, visits_none}

-- ## Letters in their order

module _ (n : ℕ) (P : ℕ → Type 0) (tell : (y : ℕ) → P y ⊎ (P y → ⊥)) (within : (y : ℕ) → P y → y < 2 ^ n) where
  -- the list has, in order, all letters with the property P among the first `count` letters
  record ListedBelow (letters : List ℕ) (count : ℕ) : Type 0 where
    each : All P letters
    low : All (λ y. rank 0 n y < count) letters
    complete : (y : ℕ) → P y → rank 0 n y < count → Contains letters y
    rising : AllPairs IsBefore letters

  same_rank : (x y : ℕ) → P x → P y → rank 0 n x ≡ rank 0 n y → x ≡ y
  same_rank x y one other same = search (rules, compared, before_ranks)

  lower_before : {x y : ℕ} → P x → P y → rank 0 n x < rank 0 n y → IsBefore x y
  lower_before {x} {y} one other lower = search (rules, compared, rank, before_ranks)

  list_below : (count : ℕ) → (letters : List ℕ) × ListedBelow letters count
  list_below zero = search (rules, All-nil, rank)
  list_below (suc count) =
      (let l = list_below count in elim (some_or_none Here here_or_not (2 ^ n) (λ y h. within y h.0)) [
        | inl found ↦ (
          l.0 ++ found.0 ∷ [],
          record {
            each = All-push P l.0 found.0 l.1.each found.1.0;
            low = All-push (λ y. rank 0 n y < suc count) l.0 found.0 (raised l.0 l.1.low) (omega (arith, found.1.1));
            complete = λ y is low. elim (cases_eq (rank 0 n y) count) [
              | inl here ↦ subst (Contains (l.0 ++ found.0 ∷ [])) (grind (arith, same_rank)) (Contains-push l.0 found.0)
              | inr other ↦ Contains-append_left l.0 (found.0 ∷ []) y (l.1.complete y is (omega arith))
            ];
            rising = all_pairs_push IsBefore l.0 found.0 l.1.rising (λ k d inside. lower_before (l.1.each k d inside)
                found.1.0 (let low = l.1.low k d inside in omega (arith, low, found.1.1)));
          },
        )
        | inr none ↦ search (rules, cases_eq, rank)
      ])
    where
      Here : ℕ → Type 0
      Here y = P y × (rank 0 n y ≡ count)

      here_or_not : (y : ℕ) → Here y ⊎ (Here y → ⊥)
      here_or_not y = search (rules, cases_eq, rank)

      raised : (letters : List ℕ) → All (λ y. rank 0 n y < count) letters → All (λ y. rank 0 n y < suc count) letters
      raised letters low k d inside = (let less = low k d inside in omega arith)

  pub letters_there : (letters : List ℕ) × IsListOf P letters
  letters_there = (let l = list_below (2 ^ n) in (
    l.0,
    grind (arith, rank_lt),
  ))

  -- it is decidable whether a letter is the least letter with the property P
  pub least_or_not : (y : ℕ) → IsLeastLetter P y ⊎ (IsLeastLetter P y → ⊥)
  least_or_not y = elim (tell y) [
    | inr not_so ↦ inr (λ least. not_so least.here)
    | inl so ↦ (let l = least_there n P tell within y so in elim (cases_eq l.0 y) [
      | inl same ↦ inl (subst (IsLeastLetter P) same l.1)
      | inr other ↦ inr (λ least. other (one_least n (within l.0 l.1.here) (within y so) l.1 least))
    ])
  ]

-- ## Keys

abbrev is_key : Key → Key → Bool
is_key a b = (key_eq.eq-value).it a b

told_apart : (a b : Key) → Decides (is_key a b) (a ≡ b)
told_apart a b = (same_key a b, λ e. subst (λ k. is_key a k ≡ true) e (key_same a))

key_laws : IsEquivalence is_key
key_laws = search (rules, key_same, same_by, told_apart, same_key)

-- a list of different vertex keys, all of which are in another list, is not longer than the other list
keys_fit : (all keys : List Key) → AllPairs (λ x y. x ≢ y) keys → All (Contains all) keys → length keys ≤ length all
keys_fit all keys differ each = length-le_from_is_member key_laws keys all
    (IsDistinct-from_AllPairs told_apart keys differ) (λ k is. (is_member-Decides told_apart all k).1
    (All-contains (Contains all) keys k each ((is_member-Decides told_apart keys k).0 is)))

came_or_not : (keys : List Key) (k : Key) → Contains keys k ⊎ (Contains keys k → ⊥)
came_or_not keys k = grind (arith, cases_Bool (is_member is_key keys k), is_member-Decides told_apart keys k)

module _ (mover : ℕ) (old : DraftData) (key : Key) (next : List Key) where
  visit_first : (i : ℕ) → i ≤ length next → (now : DraftData) × Visits mover old key (take i next) now
  visit_first zero few = (let now : DraftData = record {
    keys = old.keys;
    game = with_vertex old.game (owner_of_key mover key) (priority_of_key key);
  } in (now, visits_none refl refl))
  visit_first (suc i) few = (let before = visit_first i (omega arith) in
      let k = get_or next i (First 0 0) in
      elim (came_or_not before.0.keys k) [
        | inl c ↦ more before.0 before.1 c.0 before.0.keys (grind (arith, slice_get-get_or))
        | inr absent ↦ more before.0 before.1 (length before.0.keys) (before.0.keys ++ k ∷ []) (Comes absent refl refl)
      ])
    where
      more : (now : DraftData) → Visits mover old key (take i next) now → (number : ℕ) (keys : List Key) →
          IsNumberOf now.keys (get_or next i (First 0 0)) number keys →
          (now : DraftData) × Visits mover old key (take (suc i) next) now
      more now v number keys is = grind (arith, add-one i, visits_next next i (omega arith) v is refl)

  visit_there : (new : DraftData) × Visits mover old key next new
  visit_there = grind (arith, visit_first (length next) (omega arith), take_all (length next) next (omega arith))

-- ## A board's game

module _ (board : Board) (mover : ℕ) (start : board.auto.start ≤ board.states)
    (goes_on : (q letter : ℕ) → q ≤ board.states → letter < 2 ^ board.propositions →
    board.auto.next q letter ≤ board.states) where
  -- the states and priorities to which the letters less than a given number lead from the state q
  abbrev keys_at : ℕ → ℕ → List Key
  keys_at q zero = []
  keys_at q (suc letter) =
      First (board.auto.next q letter) (board.auto.priority q letter) ∷ Second q letter ∷ keys_at q letter

  abbrev keys_below : ℕ → List Key
  keys_below zero = []
  keys_below (suc q) = keys_at q (2 ^ board.propositions) ++ keys_below q

  all_keys : List Key
  all_keys = First board.auto.start 0 ∷ keys_below (suc board.states)

  further : (k x : Key) (keys : List Key) → Contains keys x → Contains (k ∷ keys) x
  further k x keys c = (suc c.0, omega (arith, c.1), c.2)

  at_letter : (q count letter : ℕ) → letter < count → Contains (keys_at q count)
      (First (board.auto.next q letter) (board.auto.priority q letter)) × Contains (keys_at q count) (Second q letter)
  at_letter q zero letter less = absurd (omega arith)
  at_letter q (suc count) letter less = elim (cases_eq letter count) [
    | inl same ↦ (
      grind arith,
      subst (λ l. Contains (keys_at q (suc count)) (Second q l)) (sym same) (1, omega arith, refl),
    )
    | inr other ↦ search (rules, further, at_letter q count letter (omega arith))
  ]

  below_state : (q count : ℕ) (k : Key) → q < count → Contains (keys_at q (2 ^ board.propositions)) k →
      Contains (keys_below count) k
  below_state q zero k less c = absurd (omega arith)
  below_state q (suc count) k less c = elim (cases_eq q count) [
    | inl same ↦ search (rules, Contains-append_left)
    | inr other ↦ search (rules, Contains-append_right, below_state q count k (omega arith) c)
  ]

  -- a vertex can have this key: the key's state is a state of the automaton or the sink, and its letter, if it has one,
  -- is a letter of the first player
  abbrev Known : Key → Type 0
  Known (First q p) = (q ≤ board.states) × Contains all_keys (First q p)
  Known (Second q x) = (q ≤ board.states) × IsFirstLetter board x × Contains all_keys (Second q x)

  known_listed : (k : Key) → Known k → Contains all_keys k
  known_listed k h = search rules

  known_first : Known (First board.auto.start 0)
  unfolding all_keys
  known_first = (start, (0, omega arith, refl))

  known_second : {q x : ℕ} → q ≤ board.states → IsFirstLetter board x → Known (Second q x)
  unfolding all_keys
  known_second {q} {x} low first = (
    low,
    first,
    further (First board.auto.start 0) (Second q x) (keys_below (suc board.states)) (below_state q
        (suc board.states) (Second q x) (omega arith) (at_letter q (2 ^ board.propositions) x first.within).1),
  )

  known_pair : (q letter : ℕ) → q ≤ board.states → letter < 2 ^ board.propositions →
      Known (First (board.auto.next q letter) (board.auto.priority q letter))
  unfolding all_keys
  known_pair q letter low within =
      let k : Key = First (board.auto.next q letter) (board.auto.priority q letter) in (
        goes_on q letter low within,
        further (First board.auto.start 0) k (keys_below (suc board.states))
            (below_state q (suc board.states) k (omega arith) (at_letter q (2 ^ board.propositions) letter within).0),
      )

  -- a vertex with a given key (what it stands for) has a list of successors; the list has only keys that vertices can
  -- have
  record Next (key : Key) : Type 0 where
    next : List Key
    leads_to : LeadsTo board key next
    known : All Known next
    some : 0 < length next
    differ : AllPairs (λ x y. x ≢ y) next

  next_there : (key : Key) → Known key → Next key
  next_there (First q p) known =
      let is : (x : ℕ) → IsClassLetter board q x ⊎ (IsClassLetter board q x → ⊥) = λ x. least_or_not board.propositions
      (λ other. IsFirstLetter board other × SameSteps board q other x) (λ y. both_or_not (IsFirstLetter board y)
      (SameSteps board q y x) (first_or_not board y) (steps_or_not board q y x)) (λ y is. is.0.within) x in
      let l = letters_there board.propositions (IsClassLetter board q) is (λ y is. is.here.0.within) in
      let key : ℕ → Key = λ x. Second q x in
      let class = class_there board q (over_first board (part_over board.propositions board.is_first 0)) in
      let there = l.1.complete class.0 class.1 in
      record {
        next = map key l.0;
        leads_to = (l.0, l.1, refl);
        known = All-map Known key l.0 (λ k d within. known_second known.0 (l.1.each k d within).here.0);
        some = omega (arith, there.1, length-map l.0 key);
        differ = pairs_map (λ x y. x ≢ y) key l.0 0 (λ i j less within e. not_before_itself
            (subst (λ x. IsBefore x (get_or l.0 j 0)) (second_same e) (l.1.rising i j 0 less within)));
      }
  next_there (Second q x) known =
      let is : (y : ℕ) → IsMove board q x y ⊎ (IsMove board q x y → ⊥) =
      λ y. least_or_not board.propositions (λ other. IsSecondLetter board other × SameStep board q (x + other) (x + y))
      (λ z. search (rules, both_or_not, second_or_not, step_or_not)) (λ z is. is.0.within) y in
      let l = letters_there board.propositions (IsMove board q x) is (λ y is. is.here.0.within) in
      let key : ℕ → Key = λ y. First (board.auto.next q (x + y)) (board.auto.priority q (x + y)) in
      let seconds : ℕ → Bool = λ p. not (board.is_first p) in
      let move = move_there board x (over_second board (part_over board.propositions seconds 0)) in
      let there = l.1.complete move.0 move.1 in
      record {
        next = map key l.0;
        leads_to = (l.0, l.1, refl);
        known = All-map Known key l.0 (λ k d within. known_pair q (x + get_or l.0 k d) known.0
            (sum_within board known.1 (l.1.each k d within).here.0));
        some = omega (arith, there.1, length-map l.0 key);
        differ = pairs_map (λ x y. x ≢ y) key l.0 0 (λ i j less within e. grind (arith, same_states, same_priorities));
      }

  abbrev Explored : DraftData → ℕ → Type 0
  Explored draft v = IsExplored (LeadsTo board) Known mover (First board.auto.start 0) draft v

  few_keys : (draft : DraftData) (v : ℕ) → Explored draft v → length draft.keys ≤ length all_keys
  few_keys draft v e = search (rules, keys_fit, all_keys, known_listed)

  abbrev SomeGame : Type 0
  SomeGame = (keys : List Key) × (game : ParityGame) × IsGameOf board mover keys game

  done : (draft : DraftData) (v : ℕ) → Explored draft v → length draft.keys ≤ v → SomeGame
  done draft v e all = search (rules, by_keys, slice_get_past)

  explore : (fuel : ℕ) (draft : DraftData) (v : ℕ) → Explored draft v → length all_keys ≤ v + fuel → SomeGame
  explore zero draft v e enough = done draft v e (let few = few_keys draft v e in omega arith)
  explore (suc fuel) draft v e enough = elim (cases_lt v (length draft.keys)) [
    | inr all ↦ done draft v e all
    | inl more ↦
        let key = get_or draft.keys v (First 0 0) in
        let next = next_there key (e.all_known v (First 0 0) more) in
        let visit = visit_there mover draft key next.next in
        explore fuel visit.0 (v + 1) (search (rules, explored_more, slice_get-get_or)) (omega arith)
  ]

  pub board_game_there : SomeGame
  board_game_there =
      let draft : DraftData = record { keys = First board.auto.start 0 ∷ []; game = [] } in
      explore (length all_keys) draft 0 (explored_first known_first refl refl) (omega arith)

pub game_there : (order : Order) (file : FileData) → IsSoundFile file → IsAdmitted file →
    (game : NamedGameData) × IsGameOfFile order file game
game_there order file sound admitted =
    let a = auto_there file sound admitted in
    let board = board_of_file order file a.1 in
    let made = board_game_there board (mover_of order) (grind arith) a.3.within in (
      record { game = made.1; ids = range_with_len 0 (length made.0); names = key_names board made.0 },
      grind arith,
    )
