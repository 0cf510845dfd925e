-- One iteration of Zielonka's algorithm, for the solver's steps: it solves the subgame, or decides some vertices for
-- the opponent.
use Rattle.std.proofs.Common.{◌≡◌, ◌≢◌, ℕ, ◌-◌, ◌<◌, inl, inr, Option, IsSomeAnd, Bool, IsTrue, sym, ◌∙◌, arith, rules}
use Rattle.std.proofs.lemmas.Bool.{false≢true}
use Rattle.ps_game.specs.Games.{ParityGame, IsGame, owner_of, HasEdge}
use Rattle.ps_game.specs.Subgames.{IsWithin, IsSubgame, LeadsInto}
use Rattle.ps_attractor.specs.Aims.{IsAttracted}
use Rattle.ps_zielonka.specs.Inner.Turns.{nothing, IsWithout, IsWon, Progress, Solved, IsTurned}
use Rattle.ps_zielonka.proofs.DividedSubgames.HeldSets.{some_more, HoldsWithin-none, HoldsWithin-same}
use Rattle.ps_zielonka.proofs.DividedSubgames.Turning.{won_by, IsWon-won_by, without, IsWithout-without}
use Rattle.ps_zielonka.proofs.DividedSubgames.Turning.{in_part_or_rest}
use Rattle.ps_zielonka.proofs.DividedSubgames.Turning.{Progress-same, Progress-attracted, lost_held}
use Rattle.ps_zielonka.proofs.DividedSubgames.WholeTurn.{Solved-kept}

-- if no vertex of a subgame is decided yet, the decisions so far (`Progress`) are correct
pub progress_start : (game : ParityGame) (subgame open_part : ℕ → Bool) (win : ℕ → ℕ) (table : ℕ → Option ℕ) →
    IsWithin open_part subgame → IsWithin subgame open_part → Progress game subgame open_part win table
progress_start game subgame open_part win table smaller larger = search (rules, HoldsWithin-none)

-- an iteration solves the subgame if the player keeps each top, which means that plays go on from the top to vertices
-- that the player wins
pub frame_kept : {game : ParityGame} {subgame open_part rest : ℕ → Bool} {player : ℕ} {win : ℕ → ℕ}
    {table : ℕ → Option ℕ} → IsGame game → IsSubgame game open_part → Progress game subgame open_part win table →
    (turned : IsTurned game open_part rest player win table) → Solved game rest win table →
    ((v : ℕ) → IsTrue (turned.tops v) → owner_of game v ≡ player →
    IsSomeAnd (table v) (λ w. HasEdge game v w × IsTrue (open_part w) × (win w ≡ player))) →
    ((v w : ℕ) → IsTrue (turned.tops v) → owner_of game v ≢ player → HasEdge game v w → IsTrue (open_part w) →
    win w ≡ player) → Solved game subgame win table
frame_kept {game} {subgame} {open_part} {rest} {player} {win} {table} is_game alive progress turned solved own edges =
    let is_player : player < 2 = omega arith in
    let lost : ℕ → Bool = won_by rest win (1 - player) in
    let is_won : IsWon rest nothing win (1 - player) lost = IsWon-won_by rest win (1 - player) in
    let parted : IsWithout open_part lost (without open_part lost) = IsWithout-without open_part lost in
    let not_lost = λ (w : ℕ) (wins : win w ≡ player) (there : IsTrue (lost w)).
    (let h : ⊥ = omega (arith, is_won.won w there) in h) in
    Solved-kept is_game
    is_player (omega arith) (λ same. omega arith) turned is_won solved parted
    (λ v top owns. some_more (λ w. HasEdge game v w × IsTrue (open_part w) × (win w ≡ player))
    (LeadsInto game (without open_part lost) v) (table v)
    (λ w leads. record { edge = leads.0; inside = parted.all w leads.1 (not_lost w leads.2) }) (own v top owns))
    (λ v w top others edge there. not_lost w (edges v w top others edge (turned.left.within w (is_won.within w there)))
    there)
    progress

-- the vertices that the opponent won outside the attractor, and those that the opponent attracts to them, can be
-- decided for the opponent
pub frame_goes_on : {game : ParityGame} {subgame open_part rest lost gone left : ℕ → Bool} {player : ℕ} {win : ℕ → ℕ}
    (win_now : ℕ → ℕ) {table table_now : ℕ → Option ℕ} {rank : ℕ → ℕ} → IsGame game → IsSubgame game open_part →
    Progress game subgame open_part win table → IsTurned game open_part rest player win table →
    Solved game rest win table → ((v : ℕ) → IsTrue (lost v) → IsTrue (open_part v) × (win v ≢ player)) →
    ((v : ℕ) → IsTrue (open_part v) → win v ≢ player → IsTrue (lost v)) →
    IsAttracted game open_part (1 - player) lost gone table_now rank → IsWithin gone open_part →
    IsWithout open_part gone left → ((v : ℕ) → IsTrue (gone v) → win_now v ≡ 1 - player) →
    ((v : ℕ) → IsTrue (subgame v) → ¬ IsTrue (open_part v) → win_now v ≡ win v) →
    ((v : ℕ) → IsTrue (lost v) → table_now v ≡ table v) → ((v : ℕ) → IsTrue (subgame v) → ¬ IsTrue (open_part v) →
    table_now v ≡ table v) → Progress game subgame left win_now table_now
frame_goes_on {rest} {lost} {left} {player} {win} win_now {table_now} is_game alive progress turned solved lost_is
    is_lost attracted within parted given same_win same_lost same_table =
    let is_player : player < 2 = omega arith in
    let is_other : 1 - player < 2 = omega arith in
    let differ : 1 - player ≢ player = λ same. omega arith in
    let in_rest = λ (v : ℕ) (there : IsTrue (lost v)). elim (in_part_or_rest turned.left v
    (lost_is v there).0) as (λ _. IsTrue (rest v)) [
      | inl pulled ↦ absurd ((lost_is v there).1 (turned.given v pulled))
      | inr left ↦ left
    ] in
    let is_won : IsWon rest nothing win (1 - player) lost = record {
      within = in_rest;
      decided = λ v there h. false≢true h;
      won = λ v there. (
          let winner : win v < 2 = solved.winners v (in_rest v there) (λ h. false≢true h) in
          let loses : win v ≢ player = (lost_is v there).1 in
          omega arith);
      all = λ v inside decided wins. is_lost v (turned.left.within v inside) (λ same. differ (sym wins ∙ same));
    } in
    Progress-attracted is_game is_other attracted within parted given (HoldsWithin-same lost table_now
    (λ v there. there) (λ v there. there) (λ v there owns. same_lost v there) (lost_held is_game is_player is_other
    differ turned is_won solved)) (Progress-same win_now table_now same_win same_table progress)
