-- Lemmas about the parsed nodes, which are stored as a list of ids, a list of vertices and a list of names.
use Rattle.std.proofs.Common.{◌≡◌, ℕ, zero, suc, ◌+◌, ◌-◌, ◌<◌, ◌≤◌, true, List, [], ◌∷◌, ◌++◌, Option, None}
use Rattle.std.proofs.Common.{length, map, refl, sym, ap, ap₂, subst, ◌∙◌, arith, length-append, append_assoc, rules}
use Rattle.std.specs.Prelude.{Vec, replicate}
use Rattle.std.specs.Global.{Global}
use Rattle.std.specs.List.{All, Contains, list_all}
use Rattle.std.specs.Option.{is_some}
use Rattle.std.proofs.lemmas.List.{get_or_append_left, length-map, length-replicate, map-append}
use Rattle.std.proofs.lemmas.List.Elements.{All-map}
use Rattle.std.proofs.lemmas.List.Folds.{list_all-map}
use Rattle.ps_game.specs.Drafts.{with_places}
use Rattle.ps_game.specs.Games.{VertexData, ParityGame, HasNoQuote}
use Rattle.ps_game.specs.Names.{name_bytes, with_none}
use Rattle.ps_game.proofs.StoredGames.NamesKept.{with_none-all}
use Rattle.ps_pgsolver.specs.GamesOf.{draft_of, vertex_of_node}
use Rattle.ps_pgsolver.specs.Inner.Kept.{AreKept, nodes_kept, node_kept, vertex_kept, names_with}
use Rattle.ps_pgsolver.specs.Nodes.{NodeData, IsReadNode, AreNodes, KnowsEach, KnowsAll, knows_each, knows_all, ids_of}
use Rattle.ps_pgsolver.specs.Nodes.{names_of}
use Rattle.ps_pgsolver.proofs.ReadGames.NodeLemmas.{AreNodes-push}

kept_ids : (ids : List ℕ) (vertices : ParityGame) (names : List (Option (List ℕ))) → length ids ≡ length vertices →
    length names ≡ length ids → ids_of (nodes_kept ids vertices names) ≡ ids
unfolding nodes_kept
kept_ids [] vertices names i n = refl
kept_ids (id ∷ ids) [] names i n = absurd (omega (arith, i))
kept_ids (id ∷ ids) (v ∷ vertices) [] i n = absurd (omega (arith, n))
kept_ids (id ∷ ids) (v ∷ vertices) (name ∷ names) i n =
    ap (λ xs. id ∷ xs) (kept_ids ids vertices names (omega (arith, i)) (omega (arith, n)))

kept_names : (ids : List ℕ) (vertices : ParityGame) (names : List (Option (List ℕ))) → length ids ≡ length vertices →
    length names ≡ length ids → names_of (nodes_kept ids vertices names) ≡ names
unfolding nodes_kept
kept_names [] vertices [] i n = refl
kept_names [] vertices (name ∷ names) i n = absurd (omega (arith, n))
kept_names (id ∷ ids) [] names i n = absurd (omega (arith, i))
kept_names (id ∷ ids) (v ∷ vertices) [] i n = absurd (omega (arith, n))
kept_names (id ∷ ids) (v ∷ vertices) (name ∷ names) i n =
    ap (λ xs. name ∷ xs) (kept_names ids vertices names (omega (arith, i)) (omega (arith, n)))

kept_vertices : (ids : List ℕ) (vertices : ParityGame) (names : List (Option (List ℕ))) → length ids ≡ length vertices →
    length names ≡ length ids → map vertex_kept (nodes_kept ids vertices names) ≡ vertices
unfolding nodes_kept
kept_vertices [] [] names i n = refl
kept_vertices [] (v ∷ vertices) names i n = absurd (omega (arith, i))
kept_vertices (id ∷ ids) [] names i n = absurd (omega (arith, i))
kept_vertices (id ∷ ids) (v ∷ vertices) [] i n = absurd (omega (arith, n))
kept_vertices (id ∷ ids) (v ∷ vertices) (name ∷ names) i n =
    ap (λ xs. v ∷ xs) (kept_vertices ids vertices names (omega (arith, i)) (omega (arith, n)))

-- appending to the lists of ids, vertices and names stores one more node
kept_push : (ids : List ℕ) (vertices : ParityGame) (names : List (Option (List ℕ))) (id : ℕ) (v : VertexData)
    (name : Option (List ℕ)) → length ids ≡ length vertices → length names ≡ length ids → nodes_kept (ids ++ id ∷ [])
    (vertices ++ v ∷ []) (names ++ name ∷ []) ≡ nodes_kept ids vertices names ++ node_kept id v name ∷ []
unfolding nodes_kept
kept_push [] [] [] id v name i n = refl
kept_push [] [] (name0 ∷ names) id v name i n = absurd (omega (arith, n))
kept_push [] (v0 ∷ vertices) names id v name i n = absurd (omega (arith, i))
kept_push (id0 ∷ ids) [] names id v name i n = absurd (omega (arith, i))
kept_push (id0 ∷ ids) (v0 ∷ vertices) [] id v name i n = absurd (omega (arith, n))
kept_push (id0 ∷ ids) (v0 ∷ vertices) (name0 ∷ names) id v name i n = ap
    (λ ns. node_kept id0 v0 name0 ∷ ns) (kept_push ids vertices names id v name (omega (arith, i)) (omega (arith, n)))

placed : (ids : List ℕ) (nodes : List NodeData) → map (with_places ids) (map vertex_kept nodes) ≡ draft_of ids nodes
placed ids [] = refl
placed ids (n ∷ nodes) = ap (λ vs. vertex_of_node ids n ∷ vs) (placed ids nodes)

-- ## The lists, as the nodes that they store

module _ (ids : List ℕ) (vertices : ParityGame) (names : List (Option (List ℕ))) (kept : AreKept ids vertices names)
    (nodes : List NodeData) (e : nodes_kept ids vertices names ≡ nodes) where
  pub ids_are : ids ≡ ids_of nodes
  ids_are = sym (kept_ids ids vertices names kept.id_each kept.name_each) ∙ ap ids_of e

  pub names_are : names ≡ names_of nodes
  names_are = sym (kept_names ids vertices names kept.id_each kept.name_each) ∙ ap names_of e

  vertices_are : vertices ≡ map vertex_kept nodes
  vertices_are = sym (kept_vertices ids vertices names kept.id_each kept.name_each) ∙ ap (map vertex_kept) e

  pub known_are : list_all (λ v. knows_each ids v.successors) vertices ≡ knows_all (ids_of nodes) nodes
  known_are = search (rules, ids_are, vertices_are, list_all-map)

  pub each_is_id : KnowsAll (ids_of nodes) nodes → All (λ v. KnowsEach ids v.successors) vertices
  each_is_id known = let Knows : List ℕ → VertexData → Type 0 = λ is v. KnowsEach is v.successors in subst
      (λ (vs : ParityGame). All (Knows ids) vs) (sym vertices_are) (subst (λ is. All (Knows is) (map vertex_kept nodes))
      (sym ids_are) (All-map (Knows (ids_of nodes)) vertex_kept nodes known))

  pub draft_is : map (with_places ids) vertices ≡ draft_of (ids_of nodes) nodes
  draft_is = ap₂ (λ is vs. map (with_places is) vs) ids_are vertices_are ∙ placed (ids_of nodes) nodes

  module _ (ids' : List ℕ) (vertices' : ParityGame) (names' : List (Option (List ℕ))) (id : ℕ) (v : VertexData)
      (name : Option (List ℕ))
      (i : ids' ≡ ids ++ id ∷ []) (vs : vertices' ≡ vertices ++ v ∷ []) (n : names' ≡ names ++ name ∷ []) where
    pub pushed_is : nodes_kept ids' vertices' names' ≡ nodes ++ node_kept id v name ∷ []
    pushed_is = search (rules, kept_push)

    pub AreKept-push : ¬ Contains (ids_of nodes) id → IsReadNode (node_kept id v name) → AreKept ids' vertices' names'
    AreKept-push new is = record {
      id_each = grind (arith, length-append);
      name_each = grind (arith, length-append);
      well_formed = subst AreNodes (sym pushed_is) (AreNodes-push (subst AreNodes e kept.well_formed) new is);
    }

pub AreKept-none : {ids : List ℕ} {vertices : ParityGame} {names : List (Option (List ℕ))} → ids ≡ [] → vertices ≡ [] →
    names ≡ [] → AreKept ids vertices names
unfolding nodes_kept
AreKept-none {vertices} {names} i v n = search rules

pub nodes_kept-none : {ids : List ℕ} (vertices : ParityGame) (names : List (Option (List ℕ))) → ids ≡ [] →
    nodes_kept ids vertices names ≡ []
unfolding nodes_kept
nodes_kept-none vertices names i = ap (λ xs. nodes_kept xs vertices names) i

-- ## Names up to the last node that has one

abbrev no_name : Option (List ℕ)
no_name = None

pub few_names : {count : ℕ} (names : List (Option (List ℕ))) → length (with_none count names) ≡ count →
    length names ≤ count
few_names {count} names e = search (rules, length-replicate)

-- an empty item at the end of the list of names gives no node a name
pub none_kept : (count : ℕ) (names : List (Option (List ℕ))) → length names < count →
    with_none count (names ++ None ∷ []) ≡ with_none count names
none_kept count names room = grind (
  arith,
  length-append names (no_name ∷ []),
  append_assoc names (no_name ∷ []) (replicate (count - length names - 1) no_name),
)

none_more : (n : ℕ) → replicate (suc n) no_name ≡ replicate n no_name ++ no_name ∷ []
none_more zero = refl
none_more (suc n) = ap (λ xs. no_name ∷ xs) (none_more n)

with_none-more : (count : ℕ) (names : List (Option (List ℕ))) → length names ≤ count →
    with_none (count + 1) names ≡ with_none count names ++ None ∷ []
with_none-more count names few = grind (arith, none_more, append_assoc)

pub names_pushed : {count : ℕ} (padded old : List (Option (Vec ℕ Global))) (name : Option (Vec ℕ Global)) →
    length padded ≤ count → (is_some name ≡ true → length padded ≡ count) →
    with_none count (map name_bytes padded) ≡ with_none count (map name_bytes old) → with_none
    (count + 1) (map name_bytes (names_with padded name)) ≡ with_none count (map name_bytes old) ++ name_bytes name ∷ []
names_pushed {count} padded old h4 few full same =
    grind (arith, with_none-more, length-map, map-append, with_none-all, length-append)

pub plain_kept : (count : ℕ) (names : List (Option (List ℕ))) → All HasNoQuote (with_none count names) →
    All HasNoQuote names
plain_kept count names plain k d lt = grind (arith, get_or_append_left, length-append)
