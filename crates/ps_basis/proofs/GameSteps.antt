-- Edges of an automaton's game as steps of the automaton, by the keys of the vertices.
-- - `least_step`: each step has least letters
-- - `from_first`, `from_second`, `into_first`, `into_second`: what an edge says of the keys at its ends
-- - `class_vertex`, `edge_on`: the edges that are there
use Rattle.std.specs.Prelude.{◌≡◌, ℕ, ◌^◌, ◌<◌, List}
use Rattle.std.specs.List.{Contains}
use Rattle.std.proofs.Common.{sym, ◌∙◌, subst, inl, inr, arith}
use Rattle.std.proofs.lemmas.Bool.{cases_eq}
use Rattle.ps_text.proofs.ParsedAnswers.Decisions.{Decided, decide_as, decide_both}
use Rattle.ps_automaton.proofs.AdmittedFiles.Deciding.{some_or_none}
use Rattle.ps_game.specs.Games.{ParityGame, HasEdge}
use Rattle.ps_machine.specs.Boards.{Board, IsClassLetter, IsFirstLetter, IsGameOf, LeadsTo}
use Rattle.ps_machine.specs.Numbering.{StandsAt}
use Rattle.ps_machine.specs.declared.key.Key.{Key}
use Rattle.ps_machine.specs.declared.key.Key.TheVariants.{First, Second}
use Rattle.ps_machine.proofs.AutomatonGames.DecidedMoves.{first_or_not, second_or_not, same_priorities, same_states}
use Rattle.ps_machine.proofs.AutomatonGames.GameKeys.Standing.{same_some, no_second}
use Rattle.ps_machine.proofs.AutomatonGames.LeastLetters.{least_there}
use Rattle.ps_basis.specs.ArenaMoves.{GoesThere}
use Rattle.ps_basis.specs.Bases.{CanGoTo}
use Rattle.ps_basis.specs.PairOrder.{HasStepTo, IsLeastStep}
use Rattle.ps_basis.proofs.ArenaEdges.{class_behind, class_leads, second_letter_same}
use Rattle.ps_basis.proofs.ArenaEdges.{second_state_same}
use Rattle.ps_basis.proofs.ArenaKeys.{Vertex, edge_key, key_at, key_edge, next_vertex, stands_in, vertex_at}
use Rattle.ps_basis.proofs.ArenaSteps.{ReachedAt, key_reached, reached_key}
use Rattle.ps_basis.proofs.ClassKeys.{ClassStep, class_step}

-- ## Least steps

module _ (board : Board) (q r s : ℕ) where
  goes_or_not : (x y : ℕ) → Decided (GoesThere board q x r s y)
  goes_or_not x y = decide_as
      (λ parts. record { is_letter = parts.0; state = parts.1.0; priority = parts.1.1 })
      (λ goes. (goes.is_letter, (goes.state, goes.priority)))
      (decide_both (second_or_not board y) (decide_both (cases_eq _ r) (cases_eq _ s)))

  reached_or_not : (x : ℕ) → Decided (CanGoTo board q x r s)
  reached_or_not x = decide_as
      (λ some. record {
        letter = some.0;
        is_letter = some.1.is_letter;
        state = some.1.state;
        priority = some.1.priority;
      })
      (λ reached. (
        reached.letter,
        record { is_letter = reached.is_letter; state = reached.state; priority = reached.priority },
      ))
      (some_or_none (GoesThere board q x r s) (goes_or_not x) (2 ^ board.propositions)
      (λ y goes. goes.is_letter.within))

  pub least_step : HasStepTo board q r s → (x : ℕ) × (y : ℕ) × IsLeastStep board q r s x y
  least_step leads =
      let (x, first) = least_there board.propositions (λ z. IsFirstLetter board z × CanGoTo board q z r s)
      (λ z. decide_both (first_or_not board z) (reached_or_not z)) (λ z is. is.0.within) leads.letter
      (leads.is_letter, leads.reached) in
      let reached : CanGoTo board q x r s = first.here.1 in
      let (y, second) = least_there board.propositions (GoesThere board q x r s) (goes_or_not x)
      (λ z goes. goes.is_letter.within) reached.letter (record {
        is_letter = reached.is_letter;
        state = reached.state;
        priority = reached.priority;
      }) in
      (x, y, record { first = first; second = second })

module _ (board : Board) (mover : ℕ) (keys : List Key) (game : ParityGame) (is : IsGameOf board mover keys game) where
  abbrev start : Key
  start = First board.auto.start 0

  abbrev pub AtKey : ℕ → Key → Type 0
  AtKey v key = Vertex (LeadsTo board) mover keys game v key

  pub vertex_of : (v : ℕ) (key : Key) → StandsAt keys v key → AtKey v key
  vertex_of v key at = vertex_at (LeadsTo board) mover start keys game is.by_keys v key at

  -- ## Edges

  -- what an edge from a vertex of the first player leads to
  record FromFirst (q : ℕ) (to : Key) : Type 0 where
    letter : ℕ
    is_key : to ≡ Second q letter
    is_class : IsClassLetter board q letter

  from_first : (v w q p : ℕ) (to : Key) → StandsAt keys v (First q p) → StandsAt keys w to → HasEdge game v w →
      FromFirst q to
  from_first v w q p to at_v at_w edge =
      let here : AtKey v (First q p) = vertex_of v (First q p) at_v in
      let (x, is_key, is_class) = class_behind board q p here.next to here.leads_to
      (edge_key (LeadsTo board) mover start keys game is.by_keys v w (First q p) to here at_w edge) in
      record { letter = x; is_key = is_key; is_class = is_class }

  from_second : (v w q x : ℕ) (to : Key) → StandsAt keys v (Second q x) → StandsAt keys w to → HasEdge game v w →
      ReachedAt board q x to
  from_second v w q x to at_v at_w edge =
      let here : AtKey v (Second q x) = vertex_of v (Second q x) at_v in
      key_reached board q x here.next to here.leads_to
      (edge_key (LeadsTo board) mover start keys game is.by_keys v w (Second q x) to here at_w edge)

  -- an edge into a vertex of the second player
  pub record IntoSecond (u q x : ℕ) : Type 0 where
    pub priority : ℕ
    pub at : StandsAt keys u (First q priority)
    pub is_class : IsClassLetter board q x

  pub into_second : (u v q x : ℕ) → StandsAt keys v (Second q x) → HasEdge game u v → IntoSecond u q x
  into_second u v q x at edge =
      let (key, at_u) = key_at (LeadsTo board) mover start keys game is.by_keys u edge.0 in by_key key at_u
    where
      by_key : (key : Key) → StandsAt keys u key → IntoSecond u q x
      by_key (First o p) at_u =
          let from : FromFirst o (Second q x) = from_first u v o p (Second q x) at_u at edge in
          let same : o ≡ q = sym (second_state_same from.is_key) in
          let letter : from.letter ≡ x = sym (second_letter_same from.is_key) in
          record {
            priority = p;
            at = subst (λ (a : ℕ). StandsAt keys u (First a p)) same at_u;
            is_class = subst (λ (a : ℕ). IsClassLetter board a x) same
                (subst (λ (b : ℕ). IsClassLetter board o b) letter from.is_class);
          }
      by_key (Second o c) at_u =
          absurd (no_second (sym (from_second u v o c (Second q x) at_u at edge).is_key))

  -- an edge into a vertex of the first player
  pub record IntoFirst (u r s : ℕ) : Type 0 where
    pub state : ℕ
    pub letter : ℕ
    pub at : StandsAt keys u (Second state letter)
    pub reached : CanGoTo board state letter r s

  pub into_first : (u v r s : ℕ) → StandsAt keys v (First r s) → HasEdge game u v → IntoFirst u r s
  into_first u v r s at edge =
      let (key, at_u) = key_at (LeadsTo board) mover start keys game is.by_keys u edge.0 in by_key key at_u
    where
      by_key : (key : Key) → StandsAt keys u key → IntoFirst u r s
      by_key (First o p) at_u = absurd (no_second (from_first u v o p (First r s) at_u at edge).is_key)
      by_key (Second o c) at_u =
          let to : ReachedAt board o c (First r s) = from_second u v o c (First r s) at_u at edge in
          record {
            state = o;
            letter = c;
            at = at_u;
            reached = subst (λ (a : ℕ). CanGoTo board o c a s) (sym (same_states to.is_key))
                (subst (λ (b : ℕ). CanGoTo board o c to.state b) (sym (same_priorities to.is_key)) to.reached);
          }

  -- the vertex of a class letter
  pub record ClassVertex (v q x : ℕ) : Type 0 where
    pub number : ℕ
    pub edge : HasEdge game v number
    pub at : StandsAt keys number (Second q x)

  pub class_vertex : (v q p x : ℕ) → StandsAt keys v (First q p) → IsClassLetter board q x → ClassVertex v q x
  class_vertex v q p x at is_class =
      let here : AtKey v (First q p) = vertex_of v (First q p) at in
      let (u, edge, there) = next_vertex (LeadsTo board) mover start keys game is.by_keys v (First q p) (Second q x)
      here (class_leads board q p x here.next here.leads_to is_class) in
      record { number = u; edge = edge; at = there }

  pub edge_on : (u w q x r s : ℕ) → StandsAt keys u (Second q x) → StandsAt keys w (First r s) → CanGoTo board q x r s →
      HasEdge game u w
  edge_on u w q x r s at_u at_w reached =
      let here : AtKey u (Second q x) = vertex_of u (Second q x) at_u in
      key_edge (LeadsTo board) mover start keys game is.by_keys u w (Second q x) (First r s) here at_w
      (reached_key board q x r s here.next here.leads_to reached)

  pub after_start : (v q x : ℕ) → StandsAt keys v (Second q x) → 0 < v
  after_start v q x at = elim (cases_eq v 0) [
    | inl zero_is ↦ absurd (no_second (same_some
        (sym is.by_keys.begins ∙ subst (λ (u : ℕ). StandsAt keys u (Second q x)) zero_is at)))
    | inr other ↦ omega (arith, other)
  ]

  pub game_is_closed : (i q p r s : ℕ) → StandsAt keys i (First q p) → HasStepTo board q r s → Contains keys (First r s)
  game_is_closed i q p r s at leads =
      let step : ClassStep board q r s = class_step board q r s leads in
      let class : ClassVertex i q step.class = class_vertex i q p step.class at step.is_class in
      let here : AtKey class.number (Second q step.class) = vertex_of class.number (Second q step.class) class.at in
      let (w, edge, there) = next_vertex (LeadsTo board) mover start keys game is.by_keys class.number
      (Second q step.class) (First r s) here
      (reached_key board q step.class r s here.next here.leads_to step.reached) in
      stands_in keys w (First r s) there
