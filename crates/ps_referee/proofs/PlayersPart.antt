-- The set of the vertices that one player wins according to a certificate, and the player's moves there.
use Rattle.std.proofs.Common.{◌≡◌, ◌≢◌, ◌∙◌, ℕ, zero, suc, ◌+◌, ◌<◌, List, [], ◌∷◌, get_or, Option, Some, None, Bool}
use Rattle.std.proofs.Common.{subst, arith, rules, length, sym}
use Rattle.std.specs.Prelude.{IsTrue, IsSomeAnd}
use Rattle.std.proofs.lemmas.Bool.{cases_Bool}
use Rattle.ps_game.specs.Games.{ParityGame, IsGame, vertex_count, owner_of, HasEdge}
use Rattle.ps_game.specs.Plays.{IsPath, Follows, KeepsTo, Holds}
use Rattle.ps_game.specs.Ranking.{RemainsFor, RemainsWithin}
use Rattle.ps_certificate.specs.Certificates.{CertificateData, HasRightMove, Remains, IsClosed, winner_of, choice_of}
use Rattle.ps_measure.specs.Ranks.{IsLostCycle}
use Rattle.ps_referee.specs.Solutions.{won_by, moves_by, claimed}
use Rattle.ps_referee.proofs.Claims.{winner_is, choice_is}

-- the two ends of an edge form a path
pub two_path : (game : ParityGame) (v w : ℕ) → IsGame game → HasEdge game v w → IsPath game (v ∷ w ∷ [])
two_path game v w is_game edge = record { begins = omega arith; vertices = places; edges = steps }
  where
    places : (k : ℕ) → k < 2 → get_or (v ∷ w ∷ []) k 0 < vertex_count game
    places zero within = edge.0
    places (suc zero) within = is_game.within v w edge
    places (suc (suc k)) within = absurd (omega arith)

    steps : (k : ℕ) → k + 1 < 2 → HasEdge game (get_or (v ∷ w ∷ []) k 0) (get_or (v ∷ w ∷ []) (k + 1) 0)
    steps k within = grind arith

pub two_follows : (game : ParityGame) (player : ℕ) (table : ℕ → Option ℕ) (v w : ℕ) →
    (owner_of game v ≡ player → table v ≡ Some w) → Follows game player table (v ∷ w ∷ [])
two_follows game player table v w h = search rules

-- the certificate states that the player wins exactly the vertices of the set, by the moves of the table
pub record IsPart (game : ParityGame) (c : CertificateData) (player : ℕ) (set : ℕ → Bool) (table : ℕ → Option ℕ) :
    Type 0 where
  pub inside : (v : ℕ) → v < vertex_count game → winner_of c v ≡ player → IsTrue (set v)
  pub winner : (v : ℕ) → v < vertex_count game → IsTrue (set v) → winner_of c v ≡ player
  pub own : (v : ℕ) → v < vertex_count game → winner_of c v ≡ player → owner_of game v ≡ player → choice_of c v ≡ table v
  pub other : (v : ℕ) → v < vertex_count game → winner_of c v ≡ player → owner_of game v ≢ player → choice_of c v ≡ None

module _ {game : ParityGame} {c : CertificateData} {player : ℕ} {set : ℕ → Bool} {table : ℕ → Option ℕ}
    (part : IsPart game c player set table) where
  remains : {v w : ℕ} → IsTrue (set v) → RemainsFor game player table v w → Remains game c v w
  remains {v} inside r = search rules

  stays : (closed : IsClosed game c) (path : List ℕ) → IsPath game path → IsTrue (set (get_or path 0 0)) →
      Follows game player table path → (k : ℕ) → k < length path → IsTrue (set (get_or path k 0))
  stays closed path is_path begins follows zero within = begins
  stays closed path is_path begins follows (suc k) within =
      grind (arith, remains, stays closed path is_path begins follows k (omega arith))

  -- if the certificate has no wrong moves or edges (`IsClosed`), the player stays in the set by the table
  pub keeps : IsClosed game c → KeepsTo game player set table
  keeps closed = record {
    moves = λ v below inside own.
        let wins = part.winner v below inside in
        subst (λ o. IsSomeAnd o (HasEdge game v)) (part.own v below wins own)
        ((closed.moves v below).own (own ∙ sym wins));
    stays = stays closed;
  }

module _ (game : ParityGame) (won : List Bool) (first second : List (Option ℕ)) where
  pub part : (player : ℕ) → player < 2 →
      IsPart game (claimed game won first second) player (won_by won player) (moves_by first second player)
  part zero is_player = search (rules, cases_Bool, winner_is, choice_is)
  part (suc zero) is_player = search (rules, cases_Bool, winner_is, choice_is)
  part (suc (suc n)) is_player = absurd (omega arith)

-- let the certificate state that the player wins the set by the table (`IsPart`); if the player keeps to the set by the
-- table, the certificate's moves in the set are right (`HasRightMove`), and no edge that they allow leaves the set
module _ {game : ParityGame} {c : CertificateData} {player : ℕ} {set : ℕ → Bool} {table : ℕ → Option ℕ}
    (is_game : IsGame game) (p : IsPart game c player set table) (keeps : KeepsTo game player set table) where
  pub right_move : (v : ℕ) → v < vertex_count game → winner_of c v ≡ player → HasRightMove game c v
  right_move v below wins = search rules

  pub stays_in : (v w : ℕ) → winner_of c v ≡ player → Remains game c v w → winner_of c w ≡ winner_of c v
  stays_in v w wins r =
      let inside : IsTrue (set w) = keeps.stays (v ∷ w ∷ []) (two_path game v w is_game r.edge)
      (p.inside v r.edge.0 wins) (two_follows game player table v w (λ own. grind arith)) 1 (omega arith) in
      p.winner w (is_game.within v w r.edge) inside ∙ sym wins

-- let two sets contain the same vertices of the game; if a player keeps to one set (`KeepsTo`), or also wins its loops
-- (`Holds`), or loses a cycle within it (`IsLostCycle`), this is also true for the other set
module _ {game : ParityGame} {player : ℕ} {set other : ℕ → Bool} {table : ℕ → Option ℕ}
    (same : (v : ℕ) → v < vertex_count game → set v ≡ other v) where
  pub keeps_same : KeepsTo game player set table → KeepsTo game player other table
  keeps_same h = search rules

  pub holds_same : Holds game player set table → Holds game player other table
  holds_same h = search rules

  pub lost_same : IsGame game → {cycle : List ℕ} → IsLostCycle game player set table cycle →
      IsLostCycle game player other table cycle
  lost_same is_game {cycle} lost = record {
    some = lost.some;
    vertices = lost.vertices;
    edges = λ k within. edge_same (lost.edges k within);
    closes = edge_same lost.closes;
    lost = lost.lost;
  }
    where
      edge_same : {v w : ℕ} → RemainsWithin game player set table v w → RemainsWithin game player other table v w
      edge_same {v} {w} r = record {
        from = sym (same v r.remains.edge.0) ∙ r.from;
        to = sym (same w (is_game.within v w r.remains.edge)) ∙ r.to;
        remains = r.remains;
      }
