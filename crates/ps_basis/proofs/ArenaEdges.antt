-- An arena is a pruned game.
-- - `kept_there`: the list of the game's vertices that have the keys of the arena's vertices
-- - `turns`, `edge_out`, `edge_in`: the players move by turns, and edges of the arena are those of the game
-- - `arena_pruning`: the conditions on pruned games
use Rattle.std.specs.Prelude.{◌≡◌, ◌≢◌, ℕ, zero, suc, ◌+◌, ◌-◌, ◌<◌, List, [], ◌∷◌, length, map, Option, Some, None}
use Rattle.std.specs.Prelude.{slice_get}
use Rattle.std.specs.List.{AllPairs, Contains}
use Rattle.std.proofs.Common.{sym, ◌∙◌, subst, ap, refl, arith, get_or}
use Rattle.std.proofs.lemmas.List.Elements.{Contains-get_or}
use Rattle.std.proofs.lemmas.Option.{slice_get-get_or, slice_get_within}
use Rattle.ps_game.specs.Games.{ParityGame, IsGame, owner_of, HasEdge}
use Rattle.ps_machine.specs.Boards.{Board, IsClassLetter, IsMove, IsListOf, IsGameOf, LeadsTo}
use Rattle.ps_machine.specs.Keys.{owner_of_key}
use Rattle.ps_machine.specs.Numbering.{StandsAt}
use Rattle.ps_machine.specs.declared.key.Key.{Key}
use Rattle.ps_machine.specs.declared.key.Key.TheVariants.{First, Second}
use Rattle.ps_machine.proofs.AutomatonGames.GameKeys.Standing.{same_some}
use Rattle.ps_pruning.specs.Lifting.{Pruning, IsPruning, IsKeptAs}
use Rattle.ps_basis.specs.Arenas.{IsArenaOf, LeadsWithin, HaveSameKey, AreSameKeys}
use Rattle.ps_basis.proofs.ArenaKeys.{Vertex, below_keys, vertex_at, key_at, key_once, edge_key, key_edge, stands_in}
use Rattle.ps_basis.proofs.ArenaKeys.{stands_there, in_map, from_map}

-- ## Lists with a property at each place

pub record IsMade {X : Type 0} (P : ℕ → X → Type 0) (n : ℕ) (xs : List X) : Type 0 where
  pub count : length xs ≡ n
  pub each : (u : ℕ) (x : X) → slice_get xs u ≡ Some x → P u x

pub list_made : {X : Type 0} (n : ℕ) (P : ℕ → X → Type 0) → ((u : ℕ) → u < n → (x : X) × P u x) →
    (xs : List X) × IsMade P n xs
list_made {X} zero P there =
    ([], record { count = refl; each = λ u x none. let none_is : None ≡ Some x = none in absurd (cc none_is) })
list_made {X} (suc n) P there = with_first (there 0 (omega arith))
    (list_made n (λ u x. P (suc u) x) (λ u below. there (suc u) (omega (arith, below))))
  where
    with_first : (x : X) × P 0 x → (xs : List X) × IsMade (λ u y. P (suc u) y) n xs →
        (xs : List X) × IsMade P (suc n) xs
    with_first (x, here) (xs, made) = (x ∷ xs, record { count = omega (arith, made.count); each = each })
      where
        each : (u : ℕ) (y : X) → slice_get (x ∷ xs) u ≡ Some y → P u y
        each zero y is = let same : x ≡ y = cc is in subst (λ (z : X). P 0 z) same here
        each (suc u) y is = made.each u y is

pub second_letter_same : {q x r y : ℕ} → Second q x ≡ Second r y → x ≡ y
second_letter_same e = cc

pub second_state_same : {q x r y : ℕ} → Second q x ≡ Second r y → q ≡ r
second_state_same e = cc

-- ## Keys that a key leads to

-- the keys behind a second player's key do not depend on the list of its moves
pub second_leads : (board : Board) (q x : ℕ) (one other : List Key) → LeadsTo board (Second q x) one →
    LeadsTo board (Second q x) other → (key : Key) → Contains one key → Contains other key
second_leads board q x one other (letters, list, is) (others, also, is_other) key inside =
    let goes : ℕ → Key = λ y. First (board.auto.next q (x + y)) (board.auto.priority q (x + y)) in
    let mapped : Contains (map goes letters) key = subst (λ (keys : List Key). Contains keys key) is inside in
    let (y, listed, same) = from_map goes letters 0 key mapped in
    let is_move : IsMove board q x y = at_place letters list y listed in
    let there : Contains (map goes others) (goes y) = in_map goes others y (also.complete y is_move) in
    subst (λ (keys : List Key). Contains keys key) (sym is_other)
    (subst (λ (k : Key). Contains (map goes others) k) (sym same) there)
  where
    at_place : (letters : List ℕ) → IsListOf (IsMove board q x) letters → (y : ℕ) → Contains letters y →
        IsMove board q x y
    at_place letters list y (k, within, same) = subst (λ (z : ℕ). IsMove board q x z) same (list.each k y within)

-- a key of the first player leads to those of all class letters
pub class_leads : (board : Board) (q p x : ℕ) (next : List Key) → LeadsTo board (First q p) next →
    IsClassLetter board q x → Contains next (Second q x)
class_leads board q p x next (letters, list, same) letter =
    subst (λ (ks : List Key). Contains ks (Second q x)) (sym same)
    (in_map (λ z. Second q z) letters x (list.complete x letter))

-- a key of the first player leads only to those of class letters
pub class_behind : (board : Board) (q p : ℕ) (next : List Key) (key : Key) → LeadsTo board (First q p) next →
    Contains next key → (x : ℕ) × (key ≡ Second q x) × IsClassLetter board q x
class_behind board q p next key (letters, list, same) inside =
    let mapped : Contains (map (λ z. Second q z) letters) key =
    subst (λ (ks : List Key). Contains ks key) same inside in
    let (y, listed, is_y) = from_map (λ z. Second q z) letters 0 key mapped in
    let (k, within, at) = listed in
    (y, is_y, subst (λ (z : ℕ). IsClassLetter board q z) at (list.each k y within))

-- a key of the second player leads to keys of the first player
pub second_leads_first : (board : Board) (q x : ℕ) (next : List Key) (key : Key) → LeadsTo board (Second q x) next →
    Contains next key → (r : ℕ) × (s : ℕ) × (key ≡ First r s)
second_leads_first board q x next key (letters, list, same) inside =
    let goes : ℕ → Key = λ y. First (board.auto.next q (x + y)) (board.auto.priority q (x + y)) in
    let mapped : Contains (map goes letters) key = subst (λ (ks : List Key). Contains ks key) same inside in
    let (y, listed, is_y) = from_map goes letters 0 key mapped in
    (board.auto.next q (x + y), board.auto.priority q (x + y), is_y)

module _ (board : Board) (bases : ℕ → List ℕ) (mover : ℕ) (keys others : List Key) (game arena : ParityGame)
    (is : IsGameOf board mover keys game) (of : IsArenaOf board bases mover keys others arena) where
  abbrev start : Key
  start = First board.auto.start 0

  abbrev pub GameVertex : ℕ → Key → Type 0
  GameVertex v key = Vertex (LeadsTo board) mover keys game v key

  abbrev pub ArenaVertex : ℕ → Key → Type 0
  ArenaVertex u key = Vertex (LeadsWithin bases board) mover others arena u key

  pub in_game : (v : ℕ) (key : Key) → StandsAt keys v key → GameVertex v key
  in_game v key at = vertex_at (LeadsTo board) mover start keys game is.by_keys v key at

  pub in_arena : (u : ℕ) (key : Key) → StandsAt others u key → ArenaVertex u key
  in_arena u key at = vertex_at (LeadsWithin bases board) mover start others arena of.by_keys u key at

  pub arena_key_once : (u x : ℕ) (key : Key) → StandsAt others u key → StandsAt others x key → u ≡ x
  arena_key_once u x key one other = key_once (LeadsWithin bases board) mover start others arena of.by_keys u x key one
      other

  pub game_key_once : (v w : ℕ) (key : Key) → StandsAt keys v key → StandsAt keys w key → v ≡ w
  game_key_once v w key one other = key_once (LeadsTo board) mover start keys game is.by_keys v w key one other

  -- ## The kept vertices

  same_key_there : (u : ℕ) → u < length others → (v : ℕ) × HaveSameKey keys others u v
  same_key_there u below =
      let key : Key = get_or others u start in
      let (v, at) = stands_there keys key (of.within key (Contains-get_or others u start below)) in
      (v, record { key = key; in_arena = slice_get-get_or others u start below; in_game = at })

  pub kept_there : (kept : List ℕ) × AreSameKeys keys others kept
  kept_there = as_same (list_made (length others) (HaveSameKey keys others) same_key_there)
    where
      as_same : (kept : List ℕ) × IsMade (HaveSameKey keys others) (length others) kept →
          (kept : List ℕ) × AreSameKeys keys others kept
      as_same (kept, made) = (kept, record { count = made.count; same = made.each })

  -- ## Edges

  pub first_letter : (v q p : ℕ) (here : GameVertex v (First q p)) (r x : ℕ) → Contains here.next (Second r x) →
      (q ≡ r) × IsClassLetter board q x
  first_letter v q p here r x inside =
      let (y, is_y, letter) = class_behind board q p here.next (Second r x) here.leads_to inside in (
        sym (second_state_same is_y),
        subst (λ (z : ℕ). IsClassLetter board q z) (sym (second_letter_same is_y)) letter,
      )

  pub first_leads : (v q p : ℕ) (here : GameVertex v (First q p)) (x : ℕ) → IsClassLetter board q x →
      Contains here.next (Second q x)
  first_leads v q p here x letter = class_leads board q p x here.next here.leads_to letter

  -- what follows a vertex of the first player
  pub record Behind (key : Key) (q p : ℕ) : Type 0 where
    pub letter : ℕ
    pub is_key : key ≡ Second q letter
    pub is_class : IsClassLetter board q letter

  pub behind_first : (v q p : ℕ) (here : GameVertex v (First q p)) (key : Key) → Contains here.next key → Behind key q p
  behind_first v q p here key inside =
      let (y, is_y, is_class) = class_behind board q p here.next key here.leads_to inside in
      record { letter = y; is_key = is_y; is_class = is_class }

  pub behind_second : (v q x : ℕ) (here : GameVertex v (Second q x)) (key : Key) → Contains here.next key →
      (r : ℕ) × (s : ℕ) × (key ≡ First r s)
  behind_second v q x here key inside = second_leads_first board q x here.next key here.leads_to inside

  -- an edge of the game from the vertex of a key to that of another is an edge of the arena between their vertices
  edge_in_keys : (u v x w : ℕ) (from to : Key) → StandsAt others u from → StandsAt keys v from → StandsAt others x to →
      StandsAt keys w to → HasEdge game v w → HasEdge arena u x
  edge_in_keys u v x w (First q p) to at_u at_v at_x at_w edge =
      let here : GameVertex v (First q p) = in_game v (First q p) at_v in
      let there : ArenaVertex u (First q p) = in_arena u (First q p) at_u in
      let behind : Behind to q p = behind_first v q p here to
      (edge_key (LeadsTo board) mover start keys game is.by_keys v w (First q p) to here at_w edge) in
      let in_basis : Contains (bases q) behind.letter = of.seconds q behind.letter
      (subst (λ (k : Key). Contains others k) behind.is_key (stands_in others x to at_x)) in
      let next : Contains there.next (Second q behind.letter) =
      subst (λ (ks : List Key). Contains ks (Second q behind.letter)) (sym there.leads_to)
      (in_map (λ z. Second q z) (bases q) behind.letter in_basis) in
      key_edge (LeadsWithin bases board) mover start others arena of.by_keys u x (First q p) to there at_x
      (subst (λ (k : Key). Contains there.next k) (sym behind.is_key) next)
  edge_in_keys u v x w (Second q c) to at_u at_v at_x at_w edge =
      let here : GameVertex v (Second q c) = in_game v (Second q c) at_v in
      let there : ArenaVertex u (Second q c) = in_arena u (Second q c) at_u in
      key_edge (LeadsWithin bases board) mover start others arena of.by_keys u x (Second q c) to there at_x
      (second_leads board q c here.next there.next here.leads_to there.leads_to to
      (edge_key (LeadsTo board) mover start keys game is.by_keys v w (Second q c) to here at_w edge))

  pub in_basis_is_class : (q p x : ℕ) → Contains keys (First q p) → Contains (bases q) x → IsClassLetter board q x
  in_basis_is_class q p x inside (k, within, same) =
      subst (λ (z : ℕ). IsClassLetter board q z) same ((of.are_bases q p inside).each k x within)

  edge_out_keys : (u v x w : ℕ) (from to : Key) → StandsAt others u from → StandsAt keys v from →
      StandsAt others x to → StandsAt keys w to → HasEdge arena u x → HasEdge game v w
  edge_out_keys u v x w (First q p) to at_u at_v at_x at_w edge =
      let here : GameVertex v (First q p) = in_game v (First q p) at_v in
      let there : ArenaVertex u (First q p) = in_arena u (First q p) at_u in
      let inside : Contains there.next to =
      edge_key (LeadsWithin bases board) mover start others arena of.by_keys u x (First q p) to there at_x edge in
      let mapped : Contains (map (λ z. Second q z) (bases q)) to =
      subst (λ (ks : List Key). Contains ks to) there.leads_to inside in
      let (y, listed, is_y) = from_map (λ z. Second q z) (bases q) 0 to mapped in
      let letter : IsClassLetter board q y = in_basis_is_class q p y (stands_in keys v (First q p) at_v) listed in
      key_edge (LeadsTo board) mover start keys game is.by_keys v w (First q p) to here at_w
      (subst (λ (k : Key). Contains here.next k) (sym is_y) (first_leads v q p here y letter))
  edge_out_keys u v x w (Second q c) to at_u at_v at_x at_w edge =
      let here : GameVertex v (Second q c) = in_game v (Second q c) at_v in
      let there : ArenaVertex u (Second q c) = in_arena u (Second q c) at_u in
      key_edge (LeadsTo board) mover start keys game is.by_keys v w (Second q c) to here at_w
      (second_leads board q c there.next here.next there.leads_to here.leads_to to
      (edge_key (LeadsWithin bases board) mover start others arena of.by_keys u x (Second q c) to there at_x edge))

  -- ## Turns

  module _ (small : mover < 2) where
    other_owner : (q p r x : ℕ) → owner_of_key mover (Second r x) ≢ owner_of_key mover (First q p)
    other_owner q p r x same = differ mover small same
      where
        differ : (m : ℕ) → m < 2 → 1 - m ≡ m → ⊥
        differ m below is_it = omega (arith, below, is_it)

    turn_of : (v w : ℕ) (from to : Key) → StandsAt keys v from → StandsAt keys w to → HasEdge game v w →
        owner_of game w ≢ owner_of game v
    turn_of v w (First q p) to at_v at_w edge same =
        let here : GameVertex v (First q p) = in_game v (First q p) at_v in
        let there : GameVertex w to = in_game w to at_w in
        let behind : Behind to q p = behind_first v q p here to
        (edge_key (LeadsTo board) mover start keys game is.by_keys v w (First q p) to here at_w edge) in
        other_owner q p q behind.letter
        (ap (λ (k : Key). owner_of_key mover k) (sym behind.is_key) ∙ sym there.owner ∙ same ∙ here.owner)
    turn_of v w (Second q c) to at_v at_w edge same =
        let here : GameVertex v (Second q c) = in_game v (Second q c) at_v in
        let there : GameVertex w to = in_game w to at_w in
        let (r, s, is_to) = behind_second v q c here to
        (edge_key (LeadsTo board) mover start keys game is.by_keys v w (Second q c) to here at_w edge) in
        other_owner r s q c
        (sym here.owner ∙ sym same ∙ there.owner ∙ ap (λ (k : Key). owner_of_key mover k) is_to)

    -- ## The conditions on pruned games

    module _ (well : IsGame game) (kept : List ℕ) (are : AreSameKeys keys others kept) where
      abbrev pub p : Pruning
      p = record { mover = mover; game = game; kept = kept; pruned = arena }

      -- the vertex of the arena with the key of v is kept as v
      pub kept_by_key : (u v : ℕ) (key : Key) → StandsAt others u key → StandsAt keys v key → IsKeptAs p u v
      kept_by_key u v key at_u at_v = at_place (slice_get kept u) refl
        where
          inside : u < length kept
          inside = subst (λ (n : ℕ). u < n) (sym are.count) (slice_get_within others u key at_u)

          at_place : (o : Option ℕ) → slice_get kept u ≡ o → IsKeptAs p u v
          at_place None none =
              let gone : None ≡ Some (get_or kept u 0) = sym none ∙ slice_get-get_or kept u 0 inside in absurd (cc gone)
          at_place (Some w) is_w =
              let same : HaveSameKey keys others u w = are.same u w is_w in
              let key_same : same.key ≡ key = same_some (sym same.in_arena ∙ at_u) in
              let at_w : StandsAt keys w key = subst (λ (k : Key). StandsAt keys w k) key_same same.in_game in
              is_w ∙ ap (λ (z : ℕ). Some z) (game_key_once w v key at_w at_v)

      kept_apart : AllPairs (λ v w. v ≢ w) kept
      kept_apart i j d less within same =
          let below : i < length kept = omega (arith, less, within) in
          let one : HaveSameKey keys others i (get_or kept i d) = are.same i (get_or kept i d)
          (slice_get-get_or kept i d below) in
          let other : HaveSameKey keys others j (get_or kept j d) = are.same j (get_or kept j d)
          (slice_get-get_or kept j d within) in
          let at : StandsAt keys (get_or kept i d) other.key =
          subst (λ (v : ℕ). StandsAt keys v other.key) (sym same) other.in_game in
          let key_same : one.key ≡ other.key = same_some (sym one.in_game ∙ at) in
          let index : i ≡ j = arena_key_once i j other.key
          (subst (λ (k : Key). StandsAt others i k) key_same one.in_arena) other.in_arena in
          omega (arith, less, index)

      first_is_kept : (v : ℕ) (key : Key) → StandsAt keys v key → owner_of game v ≡ mover → Contains kept v
      first_is_kept v (First q r) at own =
          let (u, there) = stands_there others (First q r) (of.firsts q r (stands_in keys v (First q r) at)) in
          stands_in kept u v (kept_by_key u v (First q r) there at)
      first_is_kept v (Second q c) at own =
          absurd (other_owner 0 0 q c (sym ((in_game v (Second q c) at).owner) ∙ own))

      pub arena_pruning : IsPruning p
      arena_pruning = record {
        mover = small;
        is_game = well;
        turns = λ v w edge.
            let (from, at_v) = key_at (LeadsTo board) mover start keys game is.by_keys v edge.0 in
            let (to, at_w) = key_at (LeadsTo board) mover start keys game is.by_keys w (well.within v w edge) in
            turn_of v w from to at_v at_w edge;
        count = are.count ∙ of.by_keys.count;
        different = kept_apart;
        within = λ u v at. let same = are.same u v at in
            below_keys (LeadsTo board) mover start keys game is.by_keys v same.key same.in_game;
        firsts = λ v below own.
            let (key, at) = key_at (LeadsTo board) mover start keys game is.by_keys v below in
            first_is_kept v key at own;
        owners = λ u v at. let same = are.same u v at in
            (in_arena u same.key same.in_arena).owner ∙ sym ((in_game v same.key same.in_game).owner);
        priorities = λ u v at. let same = are.same u v at in
            (in_arena u same.key same.in_arena).priority ∙ sym ((in_game v same.key same.in_game).priority);
        edges = λ u v x w at_u at_x. let from = are.same u v at_u in let to = are.same x w at_x in (
          edge_out_keys u v x w from.key to.key from.in_arena from.in_game to.in_arena to.in_game,
          edge_in_keys u v x w from.key to.key from.in_arena from.in_game to.in_arena to.in_game,
        );
      }
