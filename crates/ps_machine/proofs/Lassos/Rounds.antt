-- One step of the machine is two moves in the game: first to the vertex of a class, and then to the vertex of a state
-- and a priority.
use Rattle.std.proofs.Common.{◌≡◌, ◌≢◌, ℕ, ◌+◌, ◌-◌, ◌<◌, List, length, map, get_or, Some, refl, ap, ap₂, sym}
use Rattle.std.proofs.Common.{◌∙◌, arith, rules}
use Rattle.std.specs.Prelude.{slice_get}
use Rattle.std.specs.List.{AllPairs, Contains}
use Rattle.std.proofs.lemmas.Option.{slice_get_within, get_or_from_slice_get}
use Rattle.std.proofs.lemmas.List.{length-map, get_or-map}
use Rattle.ps_game.specs.Games.{ParityGame, vertex_count, owner_of, priority_of, successors_of, HasEdge}
use Rattle.ps_certificate.specs.Certificates.{CertificateData, Fits, IsValid, winner_of, choice_of}
use Rattle.ps_machine.specs.Keys.{owner_of_key, priority_of_key}
use Rattle.ps_machine.specs.Numbering.{StandsAt, IsGameByKeys}
use Rattle.ps_machine.specs.Boards.{Board, IsSecondLetter, SameStep, IsClassLetter, IsMove, LeadsTo}
use Rattle.ps_machine.specs.Extracting.{GoesTo, StepsFirst, StepsSecond}
use Rattle.ps_solver.specs.Solving.{winner_at_start}
use Rattle.ps_machine.specs.declared.key.Key.{Key}
use Rattle.ps_machine.specs.declared.key.Key.TheVariants.{First, Second}
use Rattle.ps_machine.proofs.AutomatonGames.GameKeys.Standing.{same_some, zip_vertex}
use Rattle.ps_machine.proofs.AutomatonGames.LeastLetters.{none_without_least, contained_or_not}

-- ## Keys

-- in a list of different entries, each entry has only one index
pub one_place : {X : Type 0} (list : List X) → AllPairs (λ x y. x ≢ y) list → (place other : ℕ) {entry : X} →
    slice_get list place ≡ Some entry → slice_get list other ≡ Some entry → place ≡ other
one_place xs differ v w {entry = x} at there = search (rules, slice_get_within, get_or_from_slice_get)

pub map_contains : (f : ℕ → Key) (letters : List ℕ) (k : ℕ) {y : ℕ} → k < length letters → get_or letters k y ≡ y →
    Contains (map f letters) (f y)
map_contains f letters k {y} within is = grind (arith, length-map letters f, get_or-map f letters k y (f y) within)

-- ## Edges

-- the game has one vertex for each key, with the edges that the keys determine; the certificate fits the game and is
-- valid
pub record Setting (board : Board) (mover : ℕ) (keys : List Key) (game : ParityGame)
    (certificate : CertificateData) : Type 0 where
  pub is_mover : mover < 2
  pub by_keys : IsGameByKeys (LeadsTo board) mover (First board.auto.start 0) keys game
  pub fits : Fits game certificate
  pub valid : IsValid game certificate

-- an edge leads from v to the vertex `between`, and another from there to w; at each of the two vertices that the
-- winner of vertex 0 owns, the edge is the certificate's move
pub record Round (game : ParityGame) (certificate : CertificateData) (v w : ℕ) : Type 0 where
  pub between : ℕ
  pub there : HasEdge game v between
  pub on : HasEdge game between w
  pub priority : priority_of game between ≡ 0
  pub first : owner_of game v ≡ winner_at_start certificate → choice_of certificate v ≡ Some between
  pub second : owner_of game between ≡ winner_at_start certificate → choice_of certificate between ≡ Some w

module _ {board : Board} {mover : ℕ} {keys : List Key} {game : ParityGame} {certificate : CertificateData}
    (s : Setting board mover keys game certificate) where
  -- if the list `keys` has a key at the index v, v is a vertex of the game
  pub within_game : (v : ℕ) {key : Key} → StandsAt keys v key → v < vertex_count game
  within_game v {key = k} at = omega (arith, slice_get_within keys v k at, s.by_keys.count)

  pub same_place : (v w : ℕ) {k : Key} → StandsAt keys v k → StandsAt keys w k → v ≡ w
  same_place = one_place keys s.by_keys.different

  pub owner_at : (v : ℕ) {k : Key} → StandsAt keys v k → owner_of game v ≡ owner_of_key mover k
  owner_at v {k} at =
      let vertex = s.by_keys.vertices v (within_game v at) in
      vertex.owner ∙ ap (owner_of_key mover) (same_some (sym vertex.stands ∙ at))

  pub priority_here : (v : ℕ) {k : Key} → StandsAt keys v k → priority_of game v ≡ priority_of_key k
  priority_here v {k} at =
      let vertex = s.by_keys.vertices v (within_game v at) in
      vertex.priority ∙ ap priority_of_key (same_some (sym vertex.stands ∙ at))

  -- if a vertex's key leads to another vertex's key, the game has an edge between the two vertices
  edge_by_key : (v w : ℕ) (k l : Key) → StandsAt keys v k → StandsAt keys w l →
      ((next : List Key) → LeadsTo board k next → (Contains next l → ⊥) → ⊥) → HasEdge game v w
  edge_by_key v w k l at there leads =
      let within = within_game v at in
      let vertex = s.by_keys.vertices v within in
      let from : LeadsTo board k vertex.next = rw (same_some (sym vertex.stands ∙ at)) at vertex.leads_to in
      let one : (u : ℕ) → StandsAt keys u l → u ≡ w = λ u is. same_place u w is there in (
        within,
        decided (successors_of game v) (λ none. leads vertex.next from
            (λ c. grind (arith, zip_vertex keys (successors_of game v) vertex.next vertex.successors c))),
      )
    where
      decided : (xs : List ℕ) → ((Contains xs w → ⊥) → ⊥) → Contains xs w
      decided xs so = grind (arith, contained_or_not xs w)

  -- if the certificate is valid, its move at a vertex that the vertex's winner owns is an edge of the game
  edge_by_move : (v : ℕ) {w : ℕ} (k : Key) → StandsAt keys v k → owner_of game v ≡ winner_of certificate v →
      choice_of certificate v ≡ Some w → HasEdge game v w
  edge_by_move v k at own is =
      let moves = (s.valid.closed.moves v (within_game v at)).own own in
      rw is at moves

  pub to_class : (v at q p : ℕ) {class : ℕ} → StandsAt keys v (First q p) → StandsAt keys at (Second q class) →
      IsClassLetter board q class → HasEdge game v at
  to_class v at q p {class} here there is = edge_by_key v at (First q p) (Second q class) here there (λ next leads none.
      let c = leads.1.complete class is in
      none (rw leads.2 (map_contains (λ x. Second q x) leads.0 c.0 c.1 c.2)))

  to_pair : (at w q class y : ℕ) → StandsAt keys at (Second q class) → IsSecondLetter board y →
      GoesTo keys board q (class + y) w → HasEdge game at w
  to_pair at w q class y here second goes =
      let pair : ℕ → Key = λ z. First (board.auto.next q (class + z)) (board.auto.priority q (class + z)) in
      let P : ℕ → Type 0 = λ other. IsSecondLetter board other × SameStep board q (class + other) (class + y) in
      let itself : P y = (second, record { state = refl; priority = refl }) in
      edge_by_key at w (Second q class) (pair y) here goes.stands (λ next leads none.
      none_without_least board.propositions P (λ z is. is.0.within) (λ z least.
      let move : IsMove board q class z = record {
        here = (least.here.0, record { state = refl; priority = refl });
        none_before = search rules;
      } in
      let c = leads.1.complete z move in
      let same : pair z ≡ pair y = ap₂ (λ a b. First a b) least.here.1.state least.here.1.priority in
      none (rw leads.2 (rw same at (map_contains pair leads.0 c.0 c.1 c.2)))) y itself)

  -- the player who moves first owns each vertex whose key is a `First`; the other player owns each vertex whose key is
  -- a `Second`
  pub first_owner : (v : ℕ) {q p : ℕ} → StandsAt keys v (First q p) → owner_of game v ≡ mover
  first_owner v {q} {p} at = owner_at v at

  pub second_owner : (v : ℕ) {q x : ℕ} → StandsAt keys v (Second q x) → owner_of game v ≡ 1 - mover
  second_owner v {q} {x} at = owner_at v at

  -- A step of the machine is two moves in the game, one of them by the winner of vertex 0. The lemmas assume that this
  -- player also wins the vertex where the player makes this move; so the certificate's move there is an edge.
  pub round_first : (v q p x letter w : ℕ) → mover ≡ winner_at_start certificate →
      winner_of certificate v ≡ winner_at_start certificate →
      StandsAt keys v (First q p) → StepsFirst board keys certificate v q x letter → IsSecondLetter board x →
      GoesTo keys board q (x + letter) w → Round game certificate v w
  round_first v q p x letter w wins here at steps second goes =
      let own : owner_of game v ≡ winner_of certificate v = first_owner v at ∙ wins ∙ sym here in
      let sum : x + letter ≡ letter + x = omega arith in
      record {
        between = steps.chosen;
        there = edge_by_move v (First q p) at own steps.choice;
        on = search (rules, to_pair);
        priority = priority_here steps.chosen steps.stands;
        first = λ o. steps.choice;
        second = search (rules, second_owner);
      }

  pub round_second : (v u q p x letter w : ℕ) → mover ≢ winner_at_start certificate → winner_at_start certificate < 2 →
      StandsAt keys v (First q p) → (steps : StepsSecond board keys certificate u q x letter) →
      winner_of certificate steps.at ≡ winner_at_start certificate →
      GoesTo keys board q (x + letter) w → Round game certificate v w
  round_second v u q p x letter w loses small at steps here goes =
      search (rules, second_owner, same_place, to_class, edge_by_move, priority_here, first_owner)
