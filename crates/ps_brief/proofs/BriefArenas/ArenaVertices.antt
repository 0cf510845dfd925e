-- The vertices of an arena, as they are added.
-- - `vertices_begun`, `vertices_more`, `vertices_pushed`: no vertex, and one more
-- - `arena_ready`: with all vertices it is a game whose vertices have no successor twice
use Rattle.std.specs.Prelude.{◌≡◌, ◌≢◌, ◌⊎◌, ℕ, ◌+◌, ◌<◌, List, [], ◌∷◌, ◌++◌, length}
use Rattle.std.specs.List.{All, AllPairs, AllZip, Contains}
use Rattle.std.proofs.Common.{ap, sym, ◌∙◌, subst, refl, inl, inr, arith, get_or}
use Rattle.std.proofs.Math.ListN.{get_or-append}
use Rattle.std.proofs.Math.Seq.{get_or-append_seam}
use Rattle.std.proofs.lemmas.List.{length-append, length-map}
use Rattle.std.proofs.lemmas.Slice.Zip.{AllZip-long}
use Rattle.ps_diagram.proofs.Letters.{no_bit}
use Rattle.ps_game.specs.Games.{ParityGame, VertexData, no_vertex, owner_of, priority_of, successors_of, vertex_count}
use Rattle.ps_machine.specs.Boards.{Board, IsFirstLetter, IsListOf, IsMove}
use Rattle.ps_machine.specs.Inner.Visits.{IsReady}
use Rattle.ps_machine.specs.Keys.{owner_of_key, priority_of_key}
use Rattle.ps_machine.specs.Numbering.{IsVertexOf, StandsAt}
use Rattle.ps_machine.specs.declared.key.Key.{Key}
use Rattle.ps_machine.specs.declared.key.Key.TheVariants.{First, Second}
use Rattle.ps_machine.proofs.AutomatonGames.BoardLetters.{zero_second}
use Rattle.ps_machine.proofs.AutomatonGames.BoardSteps.{pairs_map}
use Rattle.ps_machine.proofs.AutomatonGames.DecidedMoves.{move_there, same_priorities, same_states}
use Rattle.ps_machine.proofs.AutomatonGames.GameKeys.Exploring.{less_or_last}
use Rattle.ps_machine.proofs.AutomatonGames.GameKeys.Standing.{stand-apart, stand-within}
use Rattle.ps_basis.specs.Arenas.{LeadsWithin}
use Rattle.ps_basis.specs.Bases.{IsBasis}
use Rattle.ps_basis.proofs.ArenaKeys.{stands_in}
use Rattle.ps_brief.specs.ArenaGames.{letters_at}
use Rattle.ps_brief.specs.Inner.Arranging.{AreArenaVertices, HasSuccessors}
use Rattle.ps_brief.specs.declared.bases.Bases.{Bases}
use Rattle.ps_brief.proofs.BriefArenas.ArenaKeyLists.{letters_differ}

module _ (board : Board) (bases : Bases) (mover : ℕ) (keys : List Key) where
  abbrev VertexIn : ParityGame → ℕ → Type 0
  VertexIn game v = IsVertexOf (LeadsWithin (letters_at bases) board) mover keys game v

  -- ## One more vertex

  vertex_old : (game : ParityGame) (x : VertexData) (v : ℕ) → v < vertex_count game → VertexIn game v →
      VertexIn (game ++ x ∷ []) v
  unfolding vertex_count owner_of priority_of successors_of
  vertex_old game x v within is = record {
    key = is.key;
    next = is.next;
    stands = is.stands;
    owner = ap (λ (y : VertexData). y.owner) same ∙ is.owner;
    priority = ap (λ (y : VertexData). y.priority) same ∙ is.priority;
    leads_to = is.leads_to;
    successors = subst (λ (l : List ℕ). AllZip (StandsAt keys) l is.next)
        (sym (ap (λ (y : VertexData). y.successors) same)) is.successors;
  }
    where
      same : get_or (game ++ x ∷ []) v no_vertex ≡ get_or game v no_vertex
      same = get_or-append game (x ∷ []) no_vertex v within

  abbrev pub vertex_with : Key → List ℕ → VertexData
  vertex_with key numbers =
      record { owner = owner_of_key mover key; priority = priority_of_key key; successors = numbers }

  vertex_new : (game : ParityGame) (key : Key) (numbers : List ℕ) → StandsAt keys (vertex_count game) key →
      HasSuccessors board bases keys key numbers → VertexIn (game ++ vertex_with key numbers ∷ []) (vertex_count game)
  unfolding vertex_count owner_of priority_of successors_of
  vertex_new game key numbers stands has = record {
    key = key;
    next = has.next;
    stands = stands;
    owner = ap (λ (y : VertexData). y.owner) same;
    priority = ap (λ (y : VertexData). y.priority) same;
    leads_to = has.leads;
    successors = subst (λ (l : List ℕ). AllZip (StandsAt keys) l has.next)
        (sym (ap (λ (y : VertexData). y.successors) same)) has.stand;
  }
    where
      same : get_or (game ++ vertex_with key numbers ∷ []) (length game) no_vertex ≡ vertex_with key numbers
      same = get_or-append_seam game (vertex_with key numbers) [] no_vertex

  count_more : (game : ParityGame) (x : VertexData) → vertex_count (game ++ x ∷ []) ≡ vertex_count game + 1
  unfolding vertex_count
  count_more game x = length-append game (x ∷ [])

  pub vertices_begun : (game : ParityGame) → game ≡ [] → AreArenaVertices board bases mover keys game 0
  unfolding vertex_count
  vertices_begun game none =
      record { count = ap (λ (l : ParityGame). length l) none; each = λ v below. absurd (omega (arith, below)) }

  pub vertices_more : (old now : ParityGame) (n : ℕ) (key : Key) (numbers : List ℕ) →
      AreArenaVertices board bases mover keys old n → StandsAt keys n key →
      HasSuccessors board bases keys key numbers → now ≡ old ++ vertex_with key numbers ∷ [] →
      AreArenaVertices board bases mover keys now (n + 1)
  vertices_more old now n key numbers are stands has grown =
      subst (λ (game : ParityGame). AreArenaVertices board bases mover keys game (n + 1)) (sym grown) (record {
        count = count_more old (vertex_with key numbers) ∙ ap (λ (m : ℕ). m + 1) are.count;
        each = λ v below. at_index v (less_or_last v n below);
      })
    where
      at_index : (v : ℕ) → (v < n) ⊎ (v ≡ n) → VertexIn (old ++ vertex_with key numbers ∷ []) v
      at_index v (inl less) = vertex_old old (vertex_with key numbers) v
          (subst (λ (m : ℕ). v < m) (sym are.count) less) (are.each v less)
      at_index v (inr last) =
          subst (λ (m : ℕ). VertexIn (old ++ vertex_with key numbers ∷ []) m) (are.count ∙ sym last)
          (vertex_new old key numbers (subst (λ (m : ℕ). StandsAt keys m key) (sym are.count) stands) has)

  -- the vertex that is pushed
  pub vertices_pushed : (old now : ParityGame) (n : ℕ) (key : Key) (numbers list : List ℕ) (owner priority : ℕ) →
      AreArenaVertices board bases mover keys old n → StandsAt keys n key →
      HasSuccessors board bases keys key numbers → owner ≡ owner_of_key mover key → priority ≡ priority_of_key key →
      list ≡ numbers → now ≡ old ++ record { owner = owner; priority = priority; successors = list } ∷ [] →
      AreArenaVertices board bases mover keys now (n + 1)
  vertices_pushed old now n key numbers list owner priority are stands has is_owner is_priority same grown =
      vertices_more old now n key numbers are stands has (grown ∙ ap (λ (x : VertexData). old ++ x ∷ []) vertex_same)
    where
      vertex_same : record { owner = owner; priority = priority; successors = list } ≡ vertex_with key numbers
      vertex_same = rw (is_owner, is_priority, same) refl

  -- ## All vertices

  zero_first : IsFirstLetter board 0
  zero_first = record {
    within = (zero_second board).within;
    own = λ p isnt. no_bit 0 0 p (omega arith) (omega arith);
  }

  basis_some : (q : ℕ) (letters : List ℕ) → IsBasis board q letters → 0 < length letters
  basis_some q letters is =
      let (x, below) = is.below_each 0 zero_first in
      let (k, within, same) = below.listed in
      omega (arith, within)

  abbrev goes : ℕ → ℕ → ℕ → Key
  goes q x y = First (board.auto.next q (x + y)) (board.auto.priority q (x + y))

  moves_differ : (q x : ℕ) (letters : List ℕ) → IsListOf (IsMove board q x) letters → (i j : ℕ) → i < j →
      j < length letters → goes q x (get_or letters i 0) ≡ goes q x (get_or letters j 0) → ⊥
  moves_differ q x letters list i j less within alike =
      let one : IsMove board q x (get_or letters i 0) = list.each i 0 (omega (arith, less, within)) in
      (list.each j 0 within).none_before (get_or letters i 0)
      (one.here.0, record { state = same_states alike; priority = same_priorities alike })
      (list.rising i j 0 less within)

  module _ (are_bases : (q p : ℕ) → Contains keys (First q p) → IsBasis board q (letters_at bases q)) where
    next_some : (key : Key) (next : List Key) → Contains keys key → LeadsWithin (letters_at bases) board key next →
        0 < length next
    next_some (First q p) next inside leads = omega (
      arith,
      basis_some q (letters_at bases q) (are_bases q p inside),
      ap (λ (l : List Key). length l) leads,
      length-map (letters_at bases q) (λ x. Second q x),
    )
    next_some (Second q x) next inside (letters, list, same) =
        let (move, is_move, same_step) = move_there board {q = q} x (zero_second board) in
        let (k, within, at) = list.complete move is_move in
        omega (
          arith,
          within,
          ap (λ (l : List Key). length l) same,
          length-map letters (goes q x),
        )

    next_differ : (key : Key) (next : List Key) → Contains keys key → LeadsWithin (letters_at bases) board key next →
        AllPairs (λ a b. a ≢ b) next
    next_differ (First q p) next inside leads = subst (λ (l : List Key). AllPairs (λ a b. a ≢ b) l) (sym leads)
        (letters_differ q (letters_at bases q) (are_bases q p inside).rising)
    next_differ (Second q x) next inside (letters, list, same) =
        subst (λ (l : List Key). AllPairs (λ a b. a ≢ b) l) (sym same)
        (pairs_map (λ (a b : Key). a ≢ b) (goes q x) letters 0 (moves_differ q x letters list))

    pub arena_ready : (game : ParityGame) → AreArenaVertices board bases mover keys game (length keys) →
        IsReady (record { keys = keys; game = game })
    arena_ready game are = record {
      count = sym are.count;
      some = λ v below. (let is = there v below in let leads = some_at v is in
          omega (arith, leads, AllZip-long (StandsAt keys) (successors_of game v) is.next is.successors));
      apart = λ v below. (let is = there v below in stand-apart keys (successors_of game v) is.next is.successors
          (next_differ is.key is.next (stands_in keys v is.key is.stands) is.leads_to));
      within = λ v below. (let is = there v below in
          subst (λ (m : ℕ). All (λ w. w < m) (successors_of game v)) (sym are.count)
          (stand-within keys (successors_of game v) is.next is.successors));
    }
      where
        there : (v : ℕ) → v < vertex_count game → VertexIn game v
        there v below = are.each v (subst (λ (m : ℕ). v < m) are.count below)

        some_at : (v : ℕ) (is : VertexIn game v) → 0 < length is.next
        some_at v is = next_some is.key is.next (stands_in keys v is.key is.stands) is.leads_to
