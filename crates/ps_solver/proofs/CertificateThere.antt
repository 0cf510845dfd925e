-- Each game has a certificate: its vertices divide into two regions, each won by one player's moves, and such regions
-- and moves have a certificate.
use Rattle.std.proofs.Common.{◌≡◌, ◌⊎◌, inl, inr, ℕ, ◌<◌, List, map, Option, IsSomeAnd, Bool, not, Ok}
use Rattle.std.proofs.Common.{sym, subst, ◌∙◌, arith, rules}
use Rattle.std.specs.Prelude.{slice_index}
use Rattle.std.specs.List.{range_with_len}
use Rattle.std.proofs.lemmas.List.FromFn.{get_or-map-range_with_len}
use Rattle.ps_certificate.specs.Certificates.{CertificateData, IsFirstFlaw}
use Rattle.ps_certificate.specs.declared.flaw.Flaw.{Flaw}
use Rattle.ps_game.specs.Games.{ParityGame, NamedGameData, IsGame, HasEdge, vertex_count}
use Rattle.ps_game.specs.Plays.{Follows, Holds, IsPath}
use Rattle.ps_game.specs.Regions.{has, move_at}
use Rattle.ps_referee.specs.Solutions.{IsCertificateOf, IsCycleOf, IsSolution, claimed}
use Rattle.ps_referee.proofs.PlayersPart.{holds_same}
use Rattle.ps_zielonka.specs.Divisions.{Division}
use Rattle.ps_solver.specs.Solving.{AnswersLeast}

-- if a player wins everywhere in a set by a table of moves, then any other table with the same moves at the game's
-- vertices also wins there
pub holds_by : {game : ParityGame} {player : ℕ} {set : ℕ → Bool} {table : ℕ → Option ℕ} (other : ℕ → Option ℕ) →
    ((v : ℕ) → v < vertex_count game → other v ≡ table v) → Holds game player set table → Holds game player set other
holds_by {game} {player} {set} {table} other same h = record {
  keeps = record {
    moves = λ v below inside own. subst (λ (o : Option ℕ). IsSomeAnd o (HasEdge game v)) (sym (same v below))
        (h.keeps.moves v below inside own);
    stays = λ path is_path begins follows. h.keeps.stays path is_path begins (by_table path is_path follows);
  };
  wins = λ path i j is_path begins follows. h.wins path i j is_path begins (by_table path is_path follows);
}
  where
    by_table : (path : List ℕ) → IsPath game path → Follows game player other path → Follows game player table path
    by_table path is_path follows k within own =
        sym (same (slice_index path k) (is_path.vertices k (omega (arith, within)))) ∙ follows k within own

module _ (game : ParityGame) (d : Division game) where
  abbrev won : List Bool
  won = map d.region (range_with_len 0 (vertex_count game))

  abbrev first : List (Option ℕ)
  first = map d.first (range_with_len 0 (vertex_count game))

  abbrev second : List (Option ℕ)
  second = map d.second (range_with_len 0 (vertex_count game))

  won_is : (v : ℕ) → v < vertex_count game → has won v ≡ d.region v
  won_is v below = search (rules, get_or-map-range_with_len)

  first_is : (v : ℕ) → v < vertex_count game → move_at first v ≡ d.first v
  first_is v below = search (rules, get_or-map-range_with_len)

  second_is : (v : ℕ) → v < vertex_count game → move_at second v ≡ d.second v
  second_is v below = search (rules, get_or-map-range_with_len)

  rest_is : (v : ℕ) → v < vertex_count game → d.others v ≡ not (has won v)
  rest_is v below = rw (won_is v below) (d.apart v below)

  solution : IsSolution game won first second
  solution = record {
    first_holds = holds_by (move_at first) first_is
        (holds_same (λ v below. sym (won_is v below)) d.first_holds);
    second_holds = holds_by (move_at second) second_is (holds_same rest_is d.second_holds);
  }

-- laws of other crates that `certificate_there` takes as arguments
abbrev pub GameDivided : Type 0
GameDivided = (game : ParityGame) → IsGame game → Division game

abbrev pub SolutionJudged : Type 0
SolutionJudged = (game : ParityGame) (won : List Bool) (first second : List (Option ℕ)) → IsGame game →
    (IsSolution game won first second ×
    ((certificate : CertificateData) × IsCertificateOf game won first second certificate)) ⊎
    ((flaw : Flaw) × IsFirstFlaw game (claimed game won first second) flaw) ⊎
    ((player : ℕ) × (cycle : List ℕ) × IsCycleOf game won first second player cycle)

abbrev pub NoFlaw : Type 0
NoFlaw = (game : ParityGame) (won : List Bool) (first second : List (Option ℕ)) (flaw : Flaw) → IsGame game →
    IsSolution game won first second → ¬ IsFirstFlaw game (claimed game won first second) flaw

abbrev pub NoCycle : Type 0
NoCycle = (game : ParityGame) (won : List Bool) (first second : List (Option ℕ)) (player : ℕ) (cycle : List ℕ) →
    IsSolution game won first second → ¬ IsCycleOf game won first second player cycle

pub certificate_there : GameDivided → SolutionJudged → NoFlaw → NoCycle → (game : NamedGameData) → IsGame game.game →
    (certificate : CertificateData) × AnswersLeast game (Ok certificate)
certificate_there divided judged no_flaw no_cycle game is =
    let d = divided game.game is in
    let holds : IsSolution game.game (won game.game d) (first game.game d) (second game.game d) =
    solution game.game d in
    elim (judged game.game (won game.game d) (first game.game d) (second game.game d) is) [
      | inl (_, (certificate, of)) ↦ (certificate, (record { fits = of.fits; valid = of.valid }, of.least))
      | inr (inl (flaw, found)) ↦ absurd (no_flaw game.game _ _ _ flaw is holds found)
      | inr (inr (player, cycle, lost)) ↦ absurd (no_cycle game.game _ _ _ player cycle holds lost)
    ]
