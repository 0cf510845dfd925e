-- Certificates that have the same winners and moves, and which of them has the least counts, that is, the smallest
-- count for each vertex and priority.
-- - `SaysTheSame game c d`: the certificates c and d have the same winners and moves
-- - `DiffersInCounts game c d`: the certificates c and d have the same winners, moves and priorities
-- - `HasLeastCounts game c`: no valid certificate with the winners, moves and priorities of c has, for any vertex and
--   priority, a smaller count than c
use Rattle.std.specs.Prelude.{◌≡◌, ℕ, ◌<◌, ◌≤◌, length, slice_index}
use Rattle.ps_game.specs.Games.{ParityGame, priority_of, vertex_count}
use Rattle.ps_certificate.specs.Certificates.{CertificateData, winner_of, choice_of, counts_of, opposing_at, Fits}
use Rattle.ps_certificate.specs.Certificates.{IsValid}

-- certificates that give each vertex the same winner and the same move
pub record SaysTheSame (game : ParityGame) (one other : CertificateData) : Type 0 where
  pub winners : (v : ℕ) → v < vertex_count game → winner_of one v ≡ winner_of other v
  pub moves : (v : ℕ) → v < vertex_count game → choice_of one v ≡ choice_of other v

-- certificates that differ only in counts
pub record DiffersInCounts (game : ParityGame) (one other : CertificateData) : Type 0 where
  pub odd : one.odd ≡ other.odd
  pub even : one.even ≡ other.even
  pub same : SaysTheSame game one other

-- No valid certificate that differs from `certificate` only in counts has, for any vertex and priority, a smaller
-- count. In `certificate`, a vertex's count for a priority less than the vertex's own is 0; the rule of counts never
-- uses such a count.
pub record HasLeastCounts (game : ParityGame) (certificate : CertificateData) : Type 0 where
  pub least : (other : CertificateData) → Fits game other → IsValid game other →
      DiffersInCounts game certificate other →
      (v k : ℕ) → v < vertex_count game → k < length (counts_of certificate v) →
      slice_index (counts_of certificate v) k ≤ slice_index (counts_of other v) k
  pub without_meaning : (v k : ℕ) → v < vertex_count game → k < length (counts_of certificate v) →
      opposing_at certificate v k < priority_of game v →
      slice_index (counts_of certificate v) k ≡ 0
