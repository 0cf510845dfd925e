-- A path that follows the winner's moves of a closed certificate stays in the region that this player wins.
use Rattle.std.proofs.Common.{◌≡◌, ℕ, ◌<◌, List, length, arith, zero, suc, rules}
use Rattle.std.specs.Prelude.{slice_index}
use Rattle.std.proofs.lemmas.Bool.{eqb-true, eq-eqb}
use Rattle.ps_game.specs.Games.{ParityGame}
use Rattle.ps_game.specs.Plays.{IsPath, Follows}
use Rattle.ps_certificate.specs.Certificates.{CertificateData, IsClosed, winner_of, choice_of}
use Rattle.ps_certificate.specs.Regions.{BothKeep}

-- in a closed certificate, all vertices of a path that follows the moves of the first vertex's winner have this winner
pub path_stays : (game : ParityGame) (certificate : CertificateData) (player : ℕ) (path : List ℕ) → IsClosed
    game certificate → IsPath game path → Follows game player (choice_of certificate) path → winner_of certificate
    (slice_index path 0) ≡ player → (k : ℕ) → k < length path → winner_of certificate (slice_index path k) ≡ player
path_stays game certificate player path closed is_path follows begins zero within = begins
path_stays game certificate player path closed is_path follows begins (suc k) within =
    grind (arith, path_stays game certificate player path closed is_path follows begins k (omega arith))

pub BothKeep-from_closed : (game : ParityGame) (certificate : CertificateData) → IsClosed game certificate →
    BothKeep game certificate
BothKeep-from_closed game certificate closed player player_below = record {
  moves = λ v below in_region own. (closed.moves v below).own (grind (arith, eqb-true));
  stays = search (rules, eq-eqb, path_stays, eqb-true);
}
