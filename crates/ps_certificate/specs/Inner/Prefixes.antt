-- Facts about single vertices and edges that the steps of a certificate's check establish. Only contracts of private
-- functions use these facts; the public contracts use `IsClosed`, `IsValid` and `IsFirstFlaw`.
use Rattle.std.specs.Prelude.{◌≡◌, ◌≢◌, ℕ, ◌%◌, ◌<◌, ◌⊎◌, List, length, IfSome, slice_index}
use Rattle.std.specs.List.{Contains}
use Rattle.ps_game.specs.Games.{ParityGame, vertex_count, priority_of, successors_of}
use Rattle.ps_certificate.specs.declared.flaw.Flaw.{Flaw}
use Rattle.ps_certificate.specs.declared.flaw.Flaw.TheVariants.{Move, Escape, Rank}
use Rattle.ps_certificate.specs.Certificates.{CertificateData, Fits, Remains, HasRightMove, IsFlaw, Precedes}
use Rattle.ps_certificate.specs.Certificates.{OccursBefore}
use Rattle.ps_certificate.specs.Certificates.{winner_of, choice_of, counts_of, opposing, KeepsCount, opposing_at}

-- each edge of a vertex that the winner's moves allow leads to a vertex with the same winner
abbrev pub StaysInside : ParityGame → CertificateData → ℕ → Type 0
StaysInside game certificate v =
    (w : ℕ) → Remains game certificate v w → winner_of certificate w ≡ winner_of certificate v

-- the move of a vertex is right, and each edge of the vertex that the winner's moves allow leads to a vertex with the
-- same winner
pub record IsSoundAt (game : ParityGame) (certificate : CertificateData) (v : ℕ) : Type 0 where
  pub right_move : HasRightMove game certificate v
  pub inside : StaysInside game certificate v

-- the certificate has one entry for each vertex of the game, and v is a vertex
pub record HasEntry (game : ParityGame) (certificate : CertificateData) (v : ℕ) : Type 0 where
  pub entry_each : length certificate.entries ≡ vertex_count game
  pub vertex : v < vertex_count game

-- the certificate has one entry for each vertex of the game, and the move in vertex v's entry is right
pub record HasRightEntry (game : ParityGame) (certificate : CertificateData) (v : ℕ) : Type 0 where
  pub entry : HasEntry game certificate v
  pub right_move : HasRightMove game certificate v

-- the counts of v and w can be compared: the certificate fits the game, and gives both vertices the same winner
pub record AreComparable (game : ParityGame) (certificate : CertificateData) (v w : ℕ) : Type 0 where
  pub fits : Fits game certificate
  pub vertex : v < vertex_count game
  pub successor : w < vertex_count game
  pub same_winner : winner_of certificate w ≡ winner_of certificate v

-- the certificate fits the game, v's move is right, and each edge that the winner's moves allow at v has the same
-- winner at both ends; so the counts at these ends can be compared
pub record IsRankable (game : ParityGame) (certificate : CertificateData) (v : ℕ) : Type 0 where
  pub fits : Fits game certificate
  pub vertex : v < vertex_count game
  pub sound : IsSoundAt game certificate v

-- an edge that the winner's moves allow, but that leads to a vertex with the other winner
pub record Leaves (game : ParityGame) (certificate : CertificateData) (v w : ℕ) : Type 0 where
  pub remains : Remains game certificate v w
  pub other_winner : winner_of certificate w ≢ winner_of certificate v

-- the vertex's first escape: of the edges that the winner's moves allow, the first that leads to a vertex with the
-- other winner
pub record IsFirstEscape (game : ParityGame) (certificate : CertificateData) (v w : ℕ) : Type 0 where
  pub leaves : Leaves game certificate v w
  pub first : (other : ℕ) → Leaves game certificate v other → (w ≡ other) ⊎ OccursBefore (successors_of game v) w other

-- the stage of the check that reports a flaw: the first stage reports wrong moves, and edges that the winner's moves
-- allow but that leave the winner's region; the second reports flaws in counts
abbrev pub stage_of : Flaw → ℕ
stage_of (Move _ _) = 0
stage_of (Escape _ _) = 0
stage_of (Rank _ _ _) = 1

abbrev pub vertex_of : Flaw → ℕ
vertex_of (Move v _) = v
vertex_of (Escape v _) = v
vertex_of (Rank v _ _) = v

-- the first flaw that one stage of the check reports at a vertex
pub record IsFirstFlawAt (game : ParityGame) (certificate : CertificateData) (stage v : ℕ) (flaw : Flaw) : Type 0 where
  pub is_flaw : IsFlaw game certificate flaw
  pub at_stage : stage_of flaw ≡ stage
  pub at_vertex : vertex_of flaw ≡ v
  pub first : (other : Flaw) → IsFlaw game certificate other → stage_of other ≡ stage → vertex_of other ≡ v →
      (flaw ≡ other) ⊎ Precedes game flaw other

-- a list contains the priority of every vertex whose priority has a given parity
abbrev pub IsComplete : ParityGame → ℕ → List ℕ → Type 0
IsComplete game parity list =
    (v : ℕ) → v < vertex_count game → priority_of game v % 2 ≡ parity → Contains list (priority_of game v)

-- the entry of a vertex fits a game with a given number of vertices
pub record EntryFits (vertices : ℕ) (certificate : CertificateData) (v : ℕ) : Type 0 where
  pub winner : winner_of certificate v < 2
  pub choice : IfSome (choice_of certificate v) (λ w. w < vertices)
  pub count_each : length (counts_of certificate v) ≡ length (opposing certificate (winner_of certificate v))

-- a number is at a given index of a list
pub record IsAt (list : List ℕ) (number place : ℕ) : Type 0 where
  pub within : place < length list
  pub is : slice_index list place ≡ number

-- an edge obeys the certificate's rule of counts for each priority that opposes the winner of the vertex that the edge
-- leaves
abbrev pub KeepsCounts : ParityGame → CertificateData → ℕ → ℕ → Type 0
KeepsCounts game certificate v w =
    (k : ℕ) → k < length (opposing certificate (winner_of certificate v)) → KeepsCount game certificate v w k

-- each edge of a vertex that its winner's moves allow obeys the certificate's rule of counts for each priority that
-- opposes this winner
abbrev pub KeepsCountsAt : ParityGame → CertificateData → ℕ → Type 0
KeepsCountsAt game certificate v = (w : ℕ) → Remains game certificate v w → KeepsCounts game certificate v w

-- at each vertex before vertex `n`, each edge that the winner's moves allow obeys the certificate's rule of counts
abbrev pub KeepCountsBefore : ParityGame → CertificateData → ℕ → Type 0
KeepCountsBefore game certificate n = (v : ℕ) → v < n → KeepsCountsAt game certificate v

-- the flaw is the first edge that the winner's moves allow and that breaks the certificate's rule of counts; no earlier
-- vertex has such an edge
pub record IsFirstUnranked (game : ParityGame) (certificate : CertificateData) (flaw : Flaw) : Type 0 where
  pub vertex : ℕ
  pub at_vertex : IsFirstFlawAt game certificate 1 vertex flaw
  pub before : KeepCountsBefore game certificate vertex

-- the first priority for which an edge breaks the certificate's rule of counts, of those that oppose the winner of the
-- vertex that the edge leaves
pub record IsFirstBroken (game : ParityGame) (certificate : CertificateData) (v w p : ℕ) : Type 0 where
  pub place : ℕ
  pub within : place < length (opposing certificate (winner_of certificate v))
  pub priority : opposing_at certificate v place ≡ p
  pub broken : ¬ KeepsCount game certificate v w place
  pub earlier : (k : ℕ) → k < place → KeepsCount game certificate v w k
