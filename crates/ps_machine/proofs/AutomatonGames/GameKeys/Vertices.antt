-- The vertices of an automaton's game are visited one after another.
use Rattle.std.proofs.Common.{◌≡◌, ◌∙◌, ℕ, ◌+◌, ◌<◌, ◌≤◌, List, [], ◌∷◌, ◌++◌, length, None, arith, get_or}
use Rattle.std.proofs.Common.{inl, inr, refl, subst, sym}
use Rattle.std.specs.List.{All, Contains, slice_get}
use Rattle.std.proofs.lemmas.Bool.{cases_lt}
use Rattle.std.proofs.lemmas.Option.{get_or_from_slice_get, slice_get-get_or, slice_get_within}
use Rattle.ps_game.specs.Games.{ParityGame}
use Rattle.ps_automaton.specs.Automata.{AutomatonData}
use Rattle.ps_machine.specs.Boards.{Board, IsGameOf, LeadsTo}
use Rattle.ps_machine.specs.BuiltBoards.{board_of}
use Rattle.ps_machine.specs.Keys.{mover_of, owner_of_key, priority_of_key}
use Rattle.ps_machine.specs.Numbering.{StandsAt}
use Rattle.ps_machine.specs.Inner.ByLetters.{CanOccur}
use Rattle.ps_machine.specs.Inner.Exploring.{AreNumbers, AreStepNumbers, FindsSuccessors, IsEntered}
use Rattle.ps_machine.specs.Inner.Exploring.{IsExploring, IsSpan, draft_of, no_span}
use Rattle.ps_machine.specs.Inner.Visits.{IsReady}
use Rattle.ps_machine.specs.declared.exploring.Exploration.{Exploration}
use Rattle.ps_machine.specs.declared.key.Key.{Key}
use Rattle.ps_machine.specs.declared.key.Key.TheVariants.{First, Second}
use Rattle.ps_machine.specs.declared.key.Order.{Order}
use Rattle.ps_machine.specs.declared.numbers.Span.{Span}
use Rattle.ps_machine.proofs.LettersOneByOne.ByLetters.{leads_differ, leads_some}
use Rattle.ps_machine.proofs.AutomatonGames.GameKeys.Exploring.{by_keys, explored_first, explored_more, known_at}
use Rattle.ps_machine.proofs.AutomatonGames.GameKeys.Exploring.{less_or_last, ready}
use Rattle.ps_machine.proofs.AutomatonGames.GameKeys.Getting.{visits_found}
use Rattle.ps_machine.proofs.AutomatonGames.GameKeys.Standing.{same_some, no_second}
use Rattle.ps_diagram.proofs.ClassesOfLetters.Distinct.{at_left}

-- ## The start

-- only the first key is in the list
only_first : (key other : Key) → Contains (key ∷ []) other → key ≡ other
only_first key other c =
    let first : c.0 ≡ 0 = omega (arith, c.1) in
    subst (λ n. get_or (key ∷ []) n other ≡ other) first c.2

undivided : {Divided : ℕ → ℕ → List ℕ → Type 0} {board : Board} {keys : List Key} (start q : ℕ) (span : Span) →
    keys ≡ First start 0 ∷ [] → span ≡ no_span → IsSpan Divided board keys q span
undivided start q span first none = rw none (record {
  letters = [];
  long = refl;
  stand = λ k lt. absurd (omega (arith, lt));
  whole = λ x c. absurd (no_second (only_first (First start 0) (Second q x)
      (subst (λ l. Contains l (Second q x)) first c)));
  divided = λ some. absurd (omega (arith, some));
  listed = λ some. absurd (omega (arith, some));
})

module _ {Divided : ℕ → ℕ → List ℕ → Type 0} {order : Order} {a : AutomatonData} {made : Exploration}
    (keys : made.numbers.keys.items ≡ First a.start 0 ∷ []) (start : a.start < a.states) where
  pub begun : AreStepNumbers a made.numbers.keys.items made.numbers.steps.items →
      length made.numbers.spans.items ≡ a.states + 1 → All (λ span. span ≡ no_span) made.numbers.spans.items →
      made.game ≡ [] → IsExploring Divided order a made 0
  begun steps sized none game = record {
    explored = explored_first (omega (arith, start)) keys game;
    numbers = record {
      different = rw keys (λ i j d less lt. absurd (omega (arith, less, lt)));
      steps = steps;
      spans = record {
        sized = sized;
        each = λ q within. undivided a.start q (get_or made.numbers.spans.items q no_span) keys
            (none q no_span (omega (arith, sized, within)));
      };
    };
    entered = λ u q p less. absurd (omega (arith, less));
  }

-- ## One more vertex

-- a key that is at an index of the old keys is the key at this index of the new keys
stood_before : (keys added : List Key) (u : ℕ) {key : Key} → u < length keys → StandsAt (keys ++ added) u key →
    StandsAt keys u key
stood_before keys added u {key} within at =
    let old = slice_get-get_or keys u key within in
    old ∙ sym (at_left keys added u old) ∙ at

module _ {Divided : ℕ → ℕ → List ℕ → Type 0} {order : Order} {a : AutomatonData} {old : Exploration} {v : ℕ}
    {key : Key} (e : IsExploring Divided order a old v) (at : StandsAt old.numbers.keys.items v key) where
  -- the state of a key that has occurred
  pub state_first : {q p : ℕ} → key ≡ First q p → q ≤ a.states
  state_first {q} {p} is = subst (CanOccur (board_of order a)) is (known_at e.explored at)

  pub state_second : {q x : ℕ} → key ≡ Second q x → q ≤ a.states
  state_second {q} {x} is = subst (CanOccur (board_of order a)) is (known_at e.explored at)

  module _ (new : Exploration) {numbers : List ℕ}
      (found : FindsSuccessors (board_of order a) key old.numbers.keys.items numbers new.numbers.keys.items)
      (entered : (q p : ℕ) → key ≡ First q p → IsEntered new.numbers.spans.items q)
      (still : (q : ℕ) → IsEntered old.numbers.spans.items q → IsEntered new.numbers.spans.items q) where
    all_entered : (u q p : ℕ) → u < v + 1 → StandsAt new.numbers.keys.items u (First q p) →
        IsEntered new.numbers.spans.items q
    all_entered u q p less there =
        let old_keys = old.numbers.keys.items in
        let inside : v < length old_keys = slice_get_within old_keys v key at in
        let before : StandsAt old_keys u (First q p) =
        stood_before old_keys found.numbered.added u (omega (arith, less, inside))
        (subst (λ l. StandsAt l u (First q p)) found.numbered.keys there) in
        elim (less_or_last u v less) [
          | inl earlier ↦ still q (e.entered u q p earlier before)
          | inr last ↦ entered q p (same_some (sym at ∙ subst (λ n. StandsAt old_keys n (First q p)) last before))
        ]

    pub visited : {Now : ℕ → ℕ → List ℕ → Type 0} → AreNumbers Now order a new.numbers → new.game ≡ old.game ++ record {
      owner = owner_of_key (mover_of order) key;
      priority = priority_of_key key;
      successors = numbers;
    } ∷ [] → IsExploring Now order a new (v + 1)
    visited are grown = record {
      explored = explored_more e.explored at found.leads found.occur
          (leads_some (board_of order a) key found.next found.leads)
          (leads_differ (board_of order a) key found.next found.leads) (visits_found found.numbered grown);
      numbers = are;
      entered = all_entered;
    }

-- the successors of a vertex of the first player do not depend on the priority by which its state was entered
pub found_first : {board : Board} {q : ℕ} (p : ℕ) {key : Key} {old : List Key} {numbers : List ℕ} {new : List Key} →
    key ≡ First q p → FindsSuccessors board (First q 0) old numbers new → FindsSuccessors board key old numbers new
found_first p is f = rw is (record { next = f.next; leads = f.leads; occur = f.occur; numbered = f.numbered })

-- ## The whole game

module _ {Divided : ℕ → ℕ → List ℕ → Type 0} {order : Order} {a : AutomatonData} {made : Exploration} {v : ℕ}
    (e : IsExploring Divided order a made v) (past : slice_get made.numbers.keys.items v ≡ None) where
  pub ready_game : IsReady (draft_of made)
  ready_game = ready (LeadsTo (board_of order a)) (CanOccur (board_of order a)) (mover_of order) (First a.start 0)
      (draft_of made) v e.explored past

  pub whole_game : {keys : List Key} {game : ParityGame} → keys ≡ made.numbers.keys.items → game ≡ made.game →
      IsGameOf (board_of order a) (mover_of order) keys game
  whole_game k g = (let both = by_keys e.explored past k g in record { by_keys = both.0; numbered = both.1 })

  all_come : (u : ℕ) → u < length made.numbers.keys.items → u < v
  all_come u within = elim (cases_lt u v) [
    | inl less ↦ less
    | inr more ↦ cc (past, slice_get-get_or made.numbers.keys.items v (First 0 0) (omega (arith, more, within)))
  ]

  pub all_divided : {keys : List Key} → keys ≡ made.numbers.keys.items → (u q p : ℕ) → StandsAt keys u (First q p) →
      (place : ℕ) × (letters : List ℕ) × Divided place q letters
  all_divided k u q p at =
      let keys = made.numbers.keys.items in
      let there : StandsAt keys u (First q p) = subst (λ l. StandsAt l u (First q p)) k at in
      let inside = slice_get_within keys u (First q p) there in
      let state : q ≤ a.states = subst (CanOccur (board_of order a))
      (get_or_from_slice_get keys u (First q p) (First q p) there) (e.explored.all_known u (First q p) inside) in
      let span = e.numbers.spans.each q state in (
        (get_or made.numbers.spans.items q no_span).place,
        span.letters,
        span.divided (e.entered u q p (all_come u inside) there),
      )
