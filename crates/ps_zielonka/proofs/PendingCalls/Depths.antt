-- Lower bounds on the number of distinct priorities of a subgame, and the vertices that the first iteration leaves to
-- the next recursive call.
use Rattle.std.proofs.Common.{◌≡◌, ◌≢◌, ℕ, zero, suc, ◌+◌, ◌%◌, ◌<◌, ◌≤◌, List, [], ◌∷◌, length, get_or, Bool, Option}
use Rattle.std.proofs.Common.{sym, ap, ◌∙◌, arith, rules}
use Rattle.std.specs.Prelude.{IsTrue}
use Rattle.std.specs.List.{Contains}
use Rattle.std.proofs.lemmas.Bool.{ltb-true, lt-ltb}
use Rattle.std.proofs.lemmas.List.{get_or_default}
use Rattle.ps_game.specs.Games.{ParityGame, vertex_count, priority_of}
use Rattle.ps_game.specs.Subgames.{IsWithin, LeadsInto}
use Rattle.ps_game.specs.Attractors.{IsClosedUnderAttraction}
use Rattle.ps_attractor.proofs.Least.{falls_least}
use Rattle.ps_zielonka.specs.Inner.Turns.{IsTurned}
use Rattle.ps_zielonka.specs.Depths.{is_vertex, HasPriorities, IsClosedToTops}

-- a list without its entry at index k
drop_at : List ℕ → ℕ → List ℕ
drop_at [] k = []
drop_at (x ∷ xs) zero = xs
drop_at (x ∷ xs) (suc k) = x ∷ drop_at xs k

length-drop_at : (xs : List ℕ) (k : ℕ) → k < length xs → length (drop_at xs k) + 1 ≡ length xs
unfolding drop_at
length-drop_at [] k within = absurd (omega arith)
length-drop_at (x ∷ xs) zero within = omega arith
length-drop_at (x ∷ xs) (suc k) within = omega (arith, length-drop_at xs k (omega arith))

Contains-drop_at : (xs : List ℕ) (k x j : ℕ) → j < length xs → get_or xs j x ≡ x → (get_or xs k x ≡ x → ⊥) →
    Contains (drop_at xs k) x
unfolding drop_at
Contains-drop_at [] k x j within is other = absurd (omega arith)
Contains-drop_at (y ∷ ys) zero x zero within is other = absurd (other is)
Contains-drop_at (y ∷ ys) zero x (suc j) within is other = (j, omega arith, is)
Contains-drop_at (y ∷ ys) (suc k) x zero within is other = (0, omega arith, is)
Contains-drop_at (y ∷ ys) (suc k) x (suc j) within is other =
    let found = Contains-drop_at ys k x j (omega arith) is other in
    (suc found.0, omega (arith, found.1), found.2)

-- a set with a vertex has at least one priority
pub one_priority : (game : ParityGame) (set : ℕ → Bool) (v : ℕ) → IsTrue (set v) → HasPriorities game set 1
one_priority game set v inside = search rules

-- a superset has at least as many distinct priorities
pub HasPriorities-larger : {game : ParityGame} {smaller : ℕ → Bool} (larger : ℕ → Bool) {n : ℕ} →
    IsWithin smaller larger → HasPriorities game smaller n → HasPriorities game larger n
HasPriorities-larger larger within has_n = search rules

-- a set has at least one distinct priority more than a subset that lacks one of the set's priorities
HasPriorities-more : {game : ParityGame} {smaller : ℕ → Bool} (larger : ℕ → Bool) {n : ℕ} (top : ℕ) →
    IsWithin smaller larger → IsTrue (larger top) → ((v : ℕ) → IsTrue (smaller v) →
    priority_of game v ≢ priority_of game top) → HasPriorities game smaller n → HasPriorities game larger (n + 1)
HasPriorities-more {game} larger {n} top within inside differ has_n = record {
  many = λ list all. (
      let found = all top inside in
      let d : ℕ = priority_of game top in
      let fewer : n ≤ length (drop_at list found.0) = has_n.many (drop_at list found.0) (λ v in_smaller.
      let here = all v (within v in_smaller) in
      Contains-drop_at list found.0 (priority_of game v) here.0 here.1 here.2 (λ same. grind (arith, get_or_default)))
      in
      omega (arith, length-drop_at list found.0 found.1));
}

-- the undecided vertices outside the attractor of an iteration have fewer distinct priorities than all undecided
-- vertices
pub HasPriorities-turned : {game : ParityGame} {open_part rest : ℕ → Bool} {player : ℕ} {win : ℕ → ℕ}
    {table : ℕ → Option ℕ} {n : ℕ} → IsTurned game open_part rest player win table → HasPriorities game rest n →
    HasPriorities game open_part (n + 1)
HasPriorities-turned {game} {open_part} {rest} {n} turned has_n =
    let (top, is_top, greatest) = turned.some_top in
    HasPriorities-more open_part top turned.left.within (grind arith) (λ v inside same. grind arith) has_n

-- if the attractor's target is exactly the vertices of the greatest priority, each set that contains these vertices and
-- is closed under attraction (`IsClosedToTops`) contains the attractor
pub left_out : {game : ParityGame} {whole rest set : ℕ → Bool} {player : ℕ} {win : ℕ → ℕ} {table : ℕ → Option ℕ} (v : ℕ)
    → ((u : ℕ) → u < vertex_count game → IsTrue (whole u)) → ((u : ℕ) → IsTrue (whole u) → u < vertex_count game) →
    (turned : IsTurned game whole rest player win table) → ((u : ℕ) → IsTrue (turned.tops u) →
    priority_of game u ≡ turned.greatest) → IsClosedToTops game set → v < vertex_count game → ¬ IsTrue (set v) →
    IsTrue (rest v)
left_out {game} {whole} {set} {player} {table} v all only turned just tops below outside =
    let (top, is_top, top_is) = turned.some_top in
    let top_inside : IsTrue (whole top) = turned.within top (turned.closed.holds top is_top) in
    let (great, great_vertex, great_is) = tops.is_greatest.stands in
    let same : turned.greatest ≡ tops.greatest = search rules in
    let parity : player ≡ tops.greatest % 2 = sym turned.parity ∙ ap (λ n. n % 2) same in
    let to_vertex = λ (u w : ℕ) (leads : LeadsInto game whole u w). (
    let there : LeadsInto game (is_vertex game) u w = grind (arith, lt-ltb) in there) in
    let to_whole = λ (u w : ℕ) (leads : LeadsInto game (is_vertex game) u w). (
    let there : LeadsInto game whole u w = grind (arith, ltb-true) in there) in
    let closed : IsClosedUnderAttraction game whole player turned.tops set = record {
      holds = search rules;
      own = search (rules, lt-ltb);
      other = λ u inside others leads. tops.closed.other u (lt-ltb u (vertex_count game) (only u inside))
          (λ owns. others (owns ∙ sym parity)) (λ w on. leads w (to_whole u w on));
    } in
    let least : IsWithin turned.attracted set = falls_least turned.within turned.falls set closed in
    turned.left.all v (all v below) (λ pulled. outside (least v pulled))
