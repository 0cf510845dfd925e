-- The levels and the worklist with which `attract` begins, and the result that it reads from its tables at the end.
use Rattle.std.proofs.Common.{◌≡◌, ◌≢◌, ℕ, ◌+◌, ◌<◌, ◌≤◌, ◌⊎◌, inl, inr, List, [], ◌∷◌, ◌++◌, Bool, false, IsTrue}
use Rattle.std.proofs.Common.{Option, None, IsSome, length, get_or, drop, refl, rules, sym, ◌∙◌, arith}
use Rattle.std.specs.Prelude.{slice_set}
use Rattle.std.proofs.lemmas.Bool.{cases_eq, cases_lt, false≢true, eq-eqb}
use Rattle.std.proofs.lemmas.Bool.Decides.{nat_tests}
use Rattle.std.proofs.lemmas.List.{get_or_append_left, get_or_push, length_push, get_or-set_same, get_or-set_other}
use Rattle.std.proofs.lemmas.List.{drop_more}
use Rattle.ps_game.specs.Games.{ParityGame, vertex_count, owner_of}
use Rattle.ps_game.specs.Subgames.{IsWithin, IsSubgame}
use Rattle.ps_game.specs.Attractors.{LeadsDown, Falls}
use Rattle.ps_game.specs.Regions.{has, move_at}
use Rattle.ps_attractor.specs.declared.attractor.TheConstants.{OUTSIDE, PLACED, FREE}
use Rattle.ps_attractor.specs.Tables.{TablesData, level_of, moves_of, place_in}
use Rattle.ps_attractor.specs.Aims.{StandsFrom, IsPosed, IsSetOfPlaced, IsAttracted, rank_of}
use Rattle.ps_attractor.specs.Steps.{with_placed}
use Rattle.ps_attractor.specs.declared.attractor.Attracted.{Attracted}
use Rattle.ps_attractor.specs.Results.{AreLaidOut, AreAttracted, IsAttractor, IsReadOff, IsRegionTo, AreMovesTo, aim_of}
use Rattle.ps_attractor.specs.Results.{rank_at}
use Rattle.ps_attractor.proofs.Placing.{stands_after, stands_longer}

-- after one more vertex gets its level, the worklist has exactly the target's vertices up to and including that vertex
laid_more : {subgame target : List Bool} {n : ℕ} {old new : TablesData} → AreLaidOut subgame target n old →
    ((v : ℕ) → v ≢ n → level_of new v ≡ level_of old v) → (IsTrue (has target n) → level_of new n ≡ PLACED) →
    (has target n ≡ false → IsTrue (has subgame n) → level_of new n ≡ FREE) →
    (has target n ≡ false → has subgame n ≡ false → level_of new n ≡ OUTSIDE) →
    (IsTrue (has target n) → StandsFrom new 0 n) → ((v : ℕ) → StandsFrom old 0 v → StandsFrom new 0 v) →
    ((j : ℕ) → j < length new.trail → IsTrue (has target (get_or new.trail j 0)) × (get_or new.trail j 0 < n + 1)) →
    AreLaidOut subgame target (n + 1) new
laid_more {n = n} laid kept placed free outside here stands trail = record {
  targets = λ v below inside. grind (arith, cases_eq v n, kept v, laid.targets v);
  frees = λ v below out inside. grind (arith, cases_eq v n, kept v, laid.frees v);
  outside = λ v below out outer. grind (arith, cases_eq v n, kept v, laid.outside v);
  later = λ v past. kept v (omega arith) ∙ laid.later v (omega arith);
  stands = λ v below inside. elim (cases_eq v n) [
    | inl same ↦ rw same (here (rw (sym same) inside))
    | inr differ ↦ stands v (laid.stands v (omega arith) inside)
  ];
  only = λ j within. (trail j within).0;
  before = λ j within. (trail j within).1;
}

pub laid_placed : {subgame target : List Bool} {n : ℕ} {old : TablesData} → n < length old.level → IsTrue (has target n)
    → AreLaidOut subgame target n old → AreLaidOut subgame target (n + 1) (with_placed old n PLACED)
laid_placed {target = target} {n = n} {old = old} within there laid =
    let size : length (old.trail ++ n ∷ []) ≡ length old.trail + 1 = length_push old.trail n in
    laid_more laid (λ v differ. grind (arith, get_or-set_other))
    (λ _. grind (arith, get_or-set_same)) (λ no _. absurd (false≢true (sym no ∙ there)))
    (λ no _. absurd (false≢true (sym no ∙ there)))
    (λ _. grind (arith, get_or_push old.trail n 0 (length old.trail) refl))
    (λ v. search (rules, stands_longer, get_or_append_left))
    (λ j low. grind (arith, cases_lt, get_or_append_left, get_or_push))

-- a vertex outside the target gets the level `FREE` or keeps the level `OUTSIDE`
pub laid_kept : {subgame target : List Bool} {n : ℕ} {old : TablesData} (new : TablesData) → has target n ≡ false →
    new.trail ≡ old.trail → ((v : ℕ) → v ≢ n → level_of new v ≡ level_of old v) →
    (IsTrue (has subgame n) → level_of new n ≡ FREE) → (has subgame n ≡ false → level_of new n ≡ OUTSIDE) →
    AreLaidOut subgame target n old → AreLaidOut subgame target (n + 1) new
laid_kept new not_there trail kept free outside laid = search (rules, laid_more, false≢true, stands_longer)

-- the recorded first index of each vertex stays correct when the loop, which runs backwards, records one more entry of
-- the worklist
pub first_place_more : (trail places : List ℕ) (count k : ℕ) → k < length trail → length places ≡ count →
    get_or trail k 0 < count → ((v i : ℕ) → k + 1 ≤ i → i < length trail → get_or trail i 0 ≡ v →
    get_or places v 0 ≡ k + 1 + place_in (drop (k + 1) trail) v) → (v i : ℕ) → k ≤ i → i < length trail →
    get_or trail i 0 ≡ v → get_or (slice_set places (get_or trail k 0) k) v 0 ≡ k + place_in (drop k trail) v
first_place_more trail places count k within size low so_far v i after inside is =
    search (rules, drop_more, cases_eq, eq-eqb, get_or-set_same, nat_tests, get_or-set_other)

-- ## The whole

-- a vertex is in a region, or it is not
pub in_or_not : (region : List Bool) (v : ℕ) → IsTrue (has region v) ⊎ (has region v ≡ false)
in_or_not region v = search rules

-- the tables record a computed attractor, and the set `region` has exactly the vertices with the level `PLACED`
record Answer (game : ParityGame) (player : ℕ) (subgame target : List Bool) (new : TablesData)
    (region : List Bool) : Type 0 where
  is_subgame : IsSubgame game (has subgame)
  target_within : IsWithin (has target) (has subgame)
  made : AreAttracted game player subgame target new
  placed : IsRegionTo new (vertex_count game) region

module _ (game : ParityGame) {subgame target : List Bool} {old : TablesData} (v : ℕ)
    (laid : AreLaidOut subgame target (vertex_count game) old) (is_vertex : v < vertex_count game) where
  -- a vertex with the initial level `FREE` is in the subgame
  free_inside : level_of old v ≡ FREE → IsTrue (has subgame v)
  free_inside free = search (rules, in_or_not)

  -- a vertex in the initial worklist is in the target
  placed_target : level_of old v ≡ PLACED → IsTrue (has target v)
  placed_target placed = search (rules, in_or_not)

pub laid_posed : {game : ParityGame} (player : ℕ) {subgame target : List Bool} {old : TablesData} →
    IsSubgame game (has subgame) → IsWithin (has target) (has subgame) →
    AreLaidOut subgame target (vertex_count game) old → IsPosed game (aim_of player) old (has subgame) (has target)
laid_posed {game = game} player {target = target} is_subgame target_within laid =
    let vertex = λ (v : ℕ) (there : IsTrue (has target v)). is_subgame.vertices v (target_within v there) in
    record {
      is_subgame = is_subgame;
      split = λ v inside. elim (in_or_not target v) [
        | inl there ↦ inr there
        | inr not_there ↦ inl (laid.frees v (is_subgame.vertices v inside) not_there inside)
      ];
      frees = λ v is_vertex free. free_inside game v laid is_vertex free;
      target_within = target_within;
      target_placed = λ v there free. absurd (omega (arith, laid.targets v (vertex v there) there));
      target_stands = λ v there. laid.stands v (vertex v there) there;
      only_target = λ j after within. laid.only j within;
    }

module _ {game : ParityGame} {player : ℕ} {subgame target : List Bool} {new : TablesData} {region : List Bool}
    (answer : Answer game player subgame target new region) where
  -- each number in the set `region` is a vertex of the game
  region_vertex : (v : ℕ) → IsTrue (has region v) → v < vertex_count game
  region_vertex v inside = search (rules, cases_lt, false≢true)

  -- each vertex of the set `region` is in the worklist and in the subgame
  stands_inside : (v : ℕ) → IsTrue (has region v) → StandsFrom new 0 v × IsTrue (has subgame v)
  stands_inside v inside =
      let made = answer.made in
      let is_vertex = region_vertex v inside in
      elim (made.grown.each v) [
        | inl same ↦
            let there = placed_target game v made.laid is_vertex (grind (arith, answer.placed.placed v)) in (
              stands_longer made.grown.longer made.grown.front (made.laid.stands v is_vertex there),
              answer.target_within v there,
            )
        | inr placed ↦ (grind (arith, stands_after), free_inside game v made.laid is_vertex placed.was_free)
      ]

  taken : IsSetOfPlaced (aim_of player) new (has subgame) (has region)
  taken = search (rules, stands_inside, region_vertex, in_or_not)

  region_within : IsWithin (has region) (has subgame)
  region_within v inside = (stands_inside v inside).1

  region_attracted : IsAttracted game (has subgame) player (has target) (has region) (moves_of new)
      (rank_of (aim_of player) new)
  region_attracted = answer.made.attracted (has region) taken

  -- the ranks and the moves that are read from the tables agree: along each move, the rank decreases
  answer_falls : {moves : List (Option ℕ)} (rank : List ℕ) →
      AreMovesTo game new player target (vertex_count game) moves →
      ((v : ℕ) → StandsFrom new 0 v → get_or rank v 0 ≡ place_in new.trail v) →
      Falls game (has subgame) player (has target) (has region) (move_at moves) (rank_at rank)
  answer_falls {moves = moves} rank given places =
      let falls = region_attracted.falls in
      let same_rank = λ (v : ℕ) (inside : IsTrue (has region v)). places v (stands_inside v inside).0 in
      let down : (v w : ℕ) → IsTrue (has region v) →
      LeadsDown game (has subgame) (has region) (rank_of (aim_of player) new) v w →
      LeadsDown game (has subgame) (has region) (rank_at rank) v w = search rules in
      record {
        own = search (rules, region_vertex, in_or_not);
        other = λ v w inside outside others leads. down v w inside (falls.other v w inside outside others leads);
      }

  -- a vertex has a move only if it belongs to the player and is in the set `region`, but not in the target
  only_moves : {moves : List (Option ℕ)} → AreMovesTo game new player target (vertex_count game) moves →
      (v : ℕ) → IsSome (move_at moves v) → IsTrue (has region v) × (owner_of game v ≡ player) × (has target v ≡ false)
  only_moves {moves = moves} given v some =
      let none_some : move_at moves v ≡ None → ⊥ = λ none. (let no : IsTrue false = rw none at some in cc) in
      elim (cases_lt v (vertex_count game)) [
        | inr past ↦ absurd (none_some (given.later v past))
        | inl is_vertex ↦ elim (cases_eq (level_of new v) PLACED) [
          | inr not_placed ↦ absurd (none_some (given.only v is_vertex (λ is. not_placed is.placed)))
          | inl placed ↦ elim (cases_eq (owner_of game v) player) [
            | inr others ↦ absurd (none_some (given.only v is_vertex (λ is. others is.owns)))
            | inl owns ↦ elim (in_or_not target v) [
              | inl there ↦
                  absurd (none_some (given.only v is_vertex (λ is. false≢true (sym is.outside ∙ there))))
              | inr outside ↦ (answer.placed.all v is_vertex placed, owns, outside)
            ]
          ]
        ]
      ]

-- if the tables record a computed attractor, the region, the moves and the ranks that are read from the tables are
-- those of the attractor
pub attractor_of : {game : ParityGame} {player : ℕ} {subgame target : List Bool} {new : TablesData} {a : Attracted} →
    IsSubgame game (has subgame) → IsWithin (has target) (has subgame) →
    AreAttracted game player subgame target new → IsReadOff game new player target a →
    IsAttractor game player subgame target a
attractor_of {game = game} {player = player} {subgame = subgame} {target = target} {new = new} {a = a} is_subgame
    target_within made read =
    let answer : Answer game player subgame target new a.region =
    record { is_subgame = is_subgame; target_within = target_within; made = made; placed = read.region } in
    record {
      places = read.places;
      move_places = read.move_places;
      rank_places = read.rank_places;
      within = region_within answer;
      closed = (region_attracted answer).closed;
      least = (region_attracted answer).least;
      moves = only_moves answer read.moves;
      falls = answer_falls answer a.rank.items read.moves read.ranks;
    }
