-- Parsing the text that was written for a game gives that game.
-- - `game_kept`: the nodes that are written for a game describe the same game
-- - `readable`: nodes with different ids can be parsed, one after the other
-- - `reads_again`: parsing the whole text that was written for a game gives this game
use Rattle.std.proofs.Common.{◌≡◌, ℕ, suc, ◌+◌, ◌<◌, ◌≤◌, Bool, true, cond, eqb, List, [], ◌∷◌, ◌++◌, length, rules}
use Rattle.std.proofs.Common.{get_or, map, drop, Option, Some, None, Ok, refl, sym, ap, ap₂, subst, ◌∙◌, arith}
use Rattle.std.proofs.Common.{append_assoc, length-append}
use Rattle.std.specs.Prelude.{not}
use Rattle.std.specs.List.{All, Contains, filter}
use Rattle.std.proofs.Math.Seq.{get_or-append_seam}
use Rattle.std.proofs.lemmas.Bool.{cases_lt, eq-eqb, lt-ltb, ne_eqb}
use Rattle.std.proofs.lemmas.List.{drop_all, drop_more, get_or_append_left, get_or_default, get_or_past, length-map}
use Rattle.std.proofs.lemmas.List.{map-append}
use Rattle.std.proofs.lemmas.List.Elements.{All-nil, All-cons, All-head, All-tail, All-map, All-from_get_or}
use Rattle.std.proofs.lemmas.List.Elements.{Contains-get_or}
use Rattle.std.proofs.lemmas.List.Sums.{position_or_len_is}
use Rattle.ps_game.specs.Drafts.{distinct, without_repeats}
use Rattle.ps_game.specs.Games.{VertexData, ParityGame, NamedGameData, IsNamedGame, HasNoQuote, no_vertex, vertex_count}
use Rattle.ps_game.specs.Games.{owner_of, successors_of}
use Rattle.ps_game.specs.Plays.{greatest}
use Rattle.ps_pgsolver.specs.GameTexts.{too_large, IsUnknown}
use Rattle.ps_pgsolver.specs.GamesOf.{place_of, draft_of, named_game_of}
use Rattle.ps_pgsolver.specs.Nodes.{NodeData, IsDistinct, ids_of, names_of}
use Rattle.ps_pgsolver.specs.Reading.{IsGameAnswer, text_limit, meaning}
use Rattle.ps_pgsolver.specs.Written.{IsWord, game_text}
use Rattle.ps_pgsolver.proofs.ReadGames.GameLemmas.{same_named}
use Rattle.ps_pgsolver.proofs.WrittenParts.{IsKnown, AreReadable, written_answers}
use Rattle.ps_pgsolver.proofs.WrittenSigns.{IsPlainVertex, id_at, node_made, nodes_made, written_tokens}

-- ## Lists

filter_keeps : (p : ℕ → Bool) (xs : List ℕ) → All (λ x. p x ≡ true) xs → filter p xs ≡ xs
filter_keeps p [] h = refl
filter_keeps p (x ∷ xs) h = ap (λ b. cond b (x ∷ filter p xs) (filter p xs)) (All-head (λ y. p y ≡ true) x xs h)
    ∙ ap (λ ys. x ∷ ys) (filter_keeps p xs (All-tail (λ y. p y ≡ true) x xs h))

distinct_same : (xs : List ℕ) → IsDistinct xs → distinct xs ≡ xs
distinct_same [] h = refl
distinct_same (x ∷ xs) h =
    let others : All (λ y. not (eqb x y) ≡ true) xs =
    λ k d lt. ap not (ne_eqb x (get_or xs k d) (h 0 (suc k) d (omega arith) (omega (arith, lt)))) in
    ap (λ ys. x ∷ filter (λ y. not (eqb x y)) ys) (distinct_same xs
    (λ i j d l m. h (suc i) (suc j) d (omega (arith, l)) (omega (arith, m))))
    ∙ ap (λ ys. x ∷ ys) (filter_keeps (λ y. not (eqb x y)) xs others)

not_before : (xs ys : List ℕ) (y : ℕ) → IsDistinct (xs ++ y ∷ ys) → Contains xs y → ⊥
not_before xs ys y h c = h c.0 (length xs) y c.1 (omega (arith, length-append xs (y ∷ ys)))
    (get_or_append_left xs (y ∷ ys) y c.0 c.1 ∙ c.2 ∙ sym (get_or-append_seam xs y ys y))

-- ## The nodes

module _ (ids : List ℕ) (names : List (Option (List ℕ))) where
  made_ids : (v : ℕ) (vertices : ParityGame) → v + length vertices ≡ length ids →
      ids_of (nodes_made ids names v vertices) ≡ drop v ids
  made_ids v [] e = sym (drop_all v ids (omega (arith, e)))
  made_ids v (x ∷ vertices) e = search (rules, drop_more, made_ids (v + 1) vertices (omega (arith, e)))

  made_names : (v : ℕ) (vertices : ParityGame) → v + length vertices ≡ length names →
      names_of (nodes_made ids names v vertices) ≡ drop v names
  made_names v [] e = sym (drop_all v names (omega (arith, e)))
  made_names v (x ∷ vertices) e = search (rules, drop_more, made_names (v + 1) vertices (omega (arith, e)))

  made_count : (v : ℕ) (vertices : ParityGame) → length (nodes_made ids names v vertices) ≡ length vertices
  made_count v [] = refl
  made_count v (x ∷ vertices) = ap suc (made_count (v + 1) vertices)

-- the successors of the vertex are distinct vertices of the game
record IsKept (count : ℕ) (vertex : VertexData) : Type 0 where
  within : All (λ w. w < count) vertex.successors
  different : IsDistinct vertex.successors

module _ (ids : List ℕ) (differ : IsDistinct ids) where
  found_at : {w : ℕ} → w < length ids → place_of ids (id_at ids w) ≡ w
  found_at {w} within =
      let id = id_at ids w in
      let e = position_or_len_is (λ other. eqb id other) ids w 0 (omega (arith, within))
      (λ k lt. ne_eqb id (get_or ids k 0) (λ x. differ k w 0 lt within (sym x))) (λ _. eq-eqb id id refl) in
      grind (arith, lt-ltb)

  places : (ws : List ℕ) → All (λ w. w < length ids) ws → map (place_of ids) (map (id_at ids) ws) ≡ ws
  places [] h = refl
  places (w ∷ ws) h = ap₂ (λ x xs. x ∷ xs) (found_at (All-head (λ z. z < length ids) w ws h))
      (places ws (All-tail (λ z. z < length ids) w ws h))

  game_kept : (names : List (Option (List ℕ))) (v : ℕ) (vertices : ParityGame) → All (IsKept (length ids)) vertices →
      without_repeats (draft_of ids (nodes_made ids names v vertices)) ≡ vertices
  game_kept names v [] h = refl
  game_kept names v (x ∷ vertices) h =
      let is = All-head (IsKept (length ids)) x vertices h in
      search (
        rules,
        places,
        distinct_same,
        All-tail,
        game_kept names (v + 1) vertices (All-tail (IsKept (length ids)) x vertices h),
      )

-- ## What can be read

record IsPlainNode (known : Option (List ℕ)) (node : NodeData) : Type 0 where
  id : node.id < too_large
  priority : node.priority < too_large
  owner : node.owner < 2
  some : 0 < length node.successors
  successors : All (IsKnown known) node.successors

readable : (known : Option (List ℕ)) (before nodes : List NodeData) → IsDistinct (ids_of (before ++ nodes)) →
    All (IsPlainNode known) nodes → AreReadable known before nodes
readable known before [] differ h = tt
readable known before (n ∷ nodes) differ h =
    let is = All-head (IsPlainNode known) n nodes h in (
      record {
        id = is.id;
        new = not_before (ids_of before) (ids_of nodes) n.id
            (subst IsDistinct (map-append (λ m. m.id) before (n ∷ nodes)) differ);
        priority = is.priority;
        owner = is.owner;
        some = is.some;
        successors = is.successors;
      },
      readable known (before ++ n ∷ []) nodes (subst (λ ns. IsDistinct (ids_of ns))
          (sym (append_assoc before (n ∷ []) nodes)) differ) (All-tail (IsPlainNode known) n nodes h),
    )

module _ (ids : List ℕ) (names : List (Option (List ℕ))) (small : (w : ℕ) → IsWord (id_at ids w))
    (known : Option (List ℕ)) (knows : (w : ℕ) → w < length ids → IsUnknown known (id_at ids w) → ⊥) where
  made_plain : (v : ℕ) (vertices : ParityGame) → All IsPlainVertex vertices → All (IsKept (length ids)) vertices →
      All (IsPlainNode known) (nodes_made ids names v vertices)
  made_plain v [] h k = All-nil (IsPlainNode known)
  made_plain v (x ∷ vertices) h k =
      let is = All-head IsPlainVertex x vertices h in
      let kept = All-head (IsKept (length ids)) x vertices k in
      let one : IsPlainNode known (node_made ids names v x) = record {
        id = omega (arith, small v);
        priority = omega (arith, is.priority);
        owner = is.owner;
        some = omega (arith, is.some, length-map x.successors (id_at ids));
        successors = All-map (IsKnown known) (id_at ids) x.successors (λ i d lt. search (rules, small, x.successors));
      } in
      All-cons (IsPlainNode known) (node_made ids names v x) (nodes_made ids names (v + 1) vertices) one
      (made_plain (v + 1) vertices (All-tail IsPlainVertex x vertices h) (All-tail (IsKept (length ids)) x vertices k))

-- ## The whole text

module _ (named : NamedGameData) (is : IsNamedGame named) (some : 0 < vertex_count named.game)
    (words : All IsWord named.ids) (priorities : All (λ vertex. IsWord vertex.priority) named.game)
    (word : IsWord (greatest named.ids)) where
  small : (w : ℕ) → IsWord (id_at named.ids w)
  small w = search (rules, get_or_past, cases_lt)

  plain : (v : ℕ) → HasNoQuote (get_or named.names v None)
  plain v = search (rules, get_or_past, cases_lt)

  vertices_plain : All IsPlainVertex named.game
  unfolding vertex_count owner_of successors_of
  vertices_plain = All-from_get_or IsPlainVertex named.game no_vertex (λ v lt. search rules)

  vertices_kept : All (IsKept (length named.ids)) named.game
  unfolding vertex_count successors_of
  vertices_kept = All-from_get_or (IsKept (length named.ids)) named.game no_vertex (λ v lt. record {
    within = λ k d l. let ws = (get_or named.game v no_vertex).successors in
        let x : get_or ws k 0 < length named.game =
        is.is_game.within v (get_or ws k 0) (lt, Contains-get_or ws k 0 l) in
        grind (arith, get_or_default);
    different = is.is_game.different v lt;
  })

  nodes : List NodeData
  nodes = nodes_made named.ids named.names 0 named.game

  ids_are : ids_of nodes ≡ named.ids
  unfolding nodes vertex_count
  ids_are = made_ids named.ids named.names 0 named.game (omega (arith, is.id_each))

  names_are : names_of nodes ≡ named.names
  unfolding nodes vertex_count
  names_are = made_names named.ids named.names 0 named.game (omega (arith, is.name_each))

  game_is : named ≡ named_game_of nodes
  unfolding nodes
  game_is = search (rules, game_kept, vertices_kept, same_named, nodes, ids_are, names_are)

  nodes_readable : (known : Option (List ℕ)) → ((w : ℕ) → w < length named.ids → IsUnknown known (id_at named.ids w) →
      ⊥) → AreReadable known [] nodes
  unfolding nodes
  nodes_readable known knows = readable known [] nodes (subst IsDistinct (sym ids_are) is.ids_differ)
      (made_plain named.ids named.names small known knows 0 named.game vertices_plain vertices_kept)

  pub reads_again : length (game_text named) ≤ text_limit → IsGameAnswer (game_text named) (Ok named)
  unfolding nodes vertex_count
  reads_again short =
      let t = written_tokens named.ids named.names small plain (greatest named.ids) named.game word vertices_plain in
      let count : 0 < length nodes = omega (arith, some, made_count named.ids named.names 0 named.game) in
      let first = written_answers None t.0 (greatest named.ids) nodes t.2 (omega (arith, word)) count
      (nodes_readable None (λ w lt u. u)) in
      let second = written_answers (Some (ids_of nodes)) t.0 (greatest named.ids) nodes t.2 (omega (arith, word)) count
      (search (rules, nodes_readable, nodes, ids_are, Contains-get_or)) in
      meaning t.0 nodes (record { short = short; tokens = t.1 }) first second (ap Ok game_is)
