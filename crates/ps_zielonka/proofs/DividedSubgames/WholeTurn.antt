-- An iteration that solves the whole subgame: the opponent wins the vertices that it won outside the player's
-- attractor, and the player wins all others.
use Rattle.std.proofs.Common.{◌≡◌, ◌≢◌, ℕ, ◌<◌, ◌⊎◌, inl, inr, Bool, Option, IsSomeAnd, sym, ◌∙◌, rules}
use Rattle.std.specs.Prelude.{IsTrue}
use Rattle.std.proofs.lemmas.Bool.{cases_Bool, false≢true}
use Rattle.ps_game.specs.Games.{ParityGame, IsGame, owner_of, HasEdge}
use Rattle.ps_game.specs.Subgames.{IsWithin, LeadsInto, HoldsWithin}
use Rattle.ps_game.specs.Attractors.{LeadsDown, Falls}
use Rattle.ps_zielonka.specs.Inner.Turns.{nothing, IsWithout, IsWon, Progress, Solved, IsTurned}
use Rattle.ps_zielonka.proofs.DividedSubgames.HeldSets.{not_in, some_more, HoldsWithin-all}
use Rattle.ps_zielonka.proofs.DividedSubgames.Turning.{in_part_or_rest, Progress-taken, lost_held, without}
use Rattle.ps_zielonka.proofs.DividedSubgames.Turning.{IsWithout-without}

kept_of : (rest lost : ℕ → Bool) (v : ℕ) → IsTrue (without rest lost v) → IsTrue (rest v) × ¬ IsTrue (lost v)
kept_of rest lost v inside = let split = IsWithout-without rest lost in (split.within v inside, split.outside v inside)

to_keeps : (rest lost : ℕ → Bool) (v : ℕ) → IsTrue (rest v) → ¬ IsTrue (lost v) → IsTrue (without rest lost v)
to_keeps rest lost v inside outside = let split = IsWithout-without rest lost in split.all v inside outside

-- of the vertices outside the attractor (`rest`), the player wins exactly those that the opponent does not win
pub IsWon-without : (game : ParityGame) {rest lost : ℕ → Bool} {win : ℕ → ℕ} (table : ℕ → Option ℕ) (player : ℕ)
    {other : ℕ} → player < 2 → other < 2 → other ≢ player → IsWon rest nothing win other lost →
    Solved game rest win table → IsWon rest nothing win player (without rest lost)
IsWon-without game {rest} {lost} {win} table player {other} is_player is_other differ is_won solved =
    search (rules, kept_of, false≢true, to_keeps)

-- Let no top (target vertex of the attractor) that the opponent owns have an edge to a vertex of `lost`, the vertices
-- outside the attractor that the opponent wins. Then no undecided vertex outside `lost` that the opponent owns has an
-- edge to a vertex of `lost`.
none_to_lost : {game : ParityGame} {open_part rest lost left : ℕ → Bool} {win : ℕ → ℕ} {table : ℕ → Option ℕ}
    {player other : ℕ} → player < 2 → other < 2 → other ≢ player →
    (turned : IsTurned game open_part rest player win table) → IsWon rest nothing win other lost →
    Solved game rest win table → IsWithout open_part lost left →
    ((v w : ℕ) → IsTrue (turned.tops v) → owner_of game v ≢ player → HasEdge game v w → ¬ IsTrue (lost w)) → (v w : ℕ) →
    IsTrue (left v) → owner_of game v ≡ other → HasEdge game v w → ¬ IsTrue (lost w)
none_to_lost {game} {open_part} {rest} {lost} {win} {table} {player} {other} is_player is_other differ turned is_won
    solved parted top_edges v w still owns edge there =
    let others : owner_of game v ≢ player = λ same. differ (sym owns ∙ same) in
    let in_rest : IsTrue (rest w) = is_won.within w there in
    elim (in_part_or_rest turned.left v (parted.within v still)) [
      | inl pulled ↦ elim (cases_Bool (turned.tops v)) [
        | inl top ↦ top_edges v w top others edge there
        | inr below ↦ (
            let down : LeadsDown game open_part turned.attracted turned.rank v w = turned.falls.other v w pulled
            (not_in turned.tops v below) others (record { edge = edge; inside = turned.left.within w in_rest }) in
            turned.left.outside w in_rest down.inside)
      ]
      | inr from ↦ (
          let kept_won = IsWon-without game table player is_player is_other differ is_won solved in
          let kept : HoldsWithin game rest player (without rest lost) table =
          solved.held player (without rest lost) is_player kept_won in
          let stays : IsTrue (without rest lost w) = search (rules, to_keeps) in
          (kept_of rest lost w stays).1 there)
    ]

pub Solved-kept : {game : ParityGame} {subgame open_part rest lost left : ℕ → Bool} {win : ℕ → ℕ} {table : ℕ → Option ℕ}
    {player other : ℕ} → IsGame game → player < 2 → other < 2 → other ≢ player →
    (turned : IsTurned game open_part rest player win table) → IsWon rest nothing win other lost →
    Solved game rest win table → IsWithout open_part lost left →
    ((v : ℕ) → IsTrue (turned.tops v) → owner_of game v ≡ player → IsSomeAnd (table v) (LeadsInto game left v)) →
    ((v w : ℕ) → IsTrue (turned.tops v) → owner_of game v ≢ player → HasEdge game v w → ¬ IsTrue (lost w)) →
    Progress game subgame open_part win table → Solved game subgame win table
Solved-kept {game} {subgame} {open_part} {rest} {lost} {left} {win} {table} {player} {other} is_game is_player is_other
    differ turned is_won solved parted top_moves top_edges progress =
    let lost_left : Progress game subgame left win table = Progress-taken is_game is_other parted (λ v
    inside. turned.left.within v (is_won.within v inside)) is_won.won (none_to_lost is_player is_other differ turned
    is_won solved parted top_edges) (lost_held is_game is_player is_other differ turned is_won solved) progress in
    let kept_won = IsWon-without game table player is_player is_other differ is_won solved in
    let pulled_left : IsWithin turned.attracted left = search rules in
    let split = λ (v : ℕ) (still : IsTrue (left v)). elim (in_part_or_rest turned.left v
    (parted.within v still)) as (λ _. IsTrue (turned.attracted v) ⊎ IsTrue (without rest lost v)) [
      | inl pulled ↦ inl pulled
      | inr in_rest ↦ inr (to_keeps rest lost v in_rest (parted.outside v still))
    ] in
    let falls : Falls game left player turned.tops turned.attracted table turned.rank = record {
      own = search (rules, some_more);
      other = λ v w pulled below others leads. (
          let down : LeadsDown game open_part turned.attracted turned.rank v w =
          turned.falls.other v w pulled below others (search rules) in
          record { leads = leads; inside = down.inside; falls = down.falls });
    } in
    let all : HoldsWithin game left player left table =
    HoldsWithin-all (λ v w top still. turned.above v w top (parted.within w still)) top_moves pulled_left falls split
    (λ v kept. search (rules, kept_of)) (solved.held player (without rest lost) is_player kept_won) in
    Progress-taken is_game is_player (search (rules, false≢true)) (λ v inside. inside) (λ v still. search rules)
    (λ v w h. absurd (false≢true h)) all lost_left
