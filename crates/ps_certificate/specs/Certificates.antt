-- Certificates of parity games: when a certificate fits a game, when it is valid, and what its flaws are.
use Rattle.std.specs.Prelude.{◌≡◌, ◌≢◌, ℕ, ◌<◌, ◌≤◌, ◌⊎◌, List, [], length, Option, None, IfSome, IsSome, IsSomeAnd}
use Rattle.std.specs.Prelude.{if◌then◌else◌, ◌==◌, slice_index, slice_index_or}
use Rattle.ps_game.specs.Games.{ParityGame, vertex_count, owner_of, priority_of, successors_of, HasEdge}
use Rattle.ps_game.specs.Ranking.{RemainsFor, ListsPriorities, KeepsRule}
use Rattle.ps_certificate.specs.declared.flaw.Flaw.{Flaw}
use Rattle.ps_certificate.specs.declared.flaw.Flaw.TheVariants.{Move, Escape, Rank}

-- the entry of one vertex: who wins it, the winner's move, and the counts
pub record EntryData : Type 0 where
  pub winner : ℕ
  pub choice : Option ℕ
  pub counts : List ℕ

-- the odd and the even priorities, and an entry for each vertex
pub record CertificateData : Type 0 where
  pub odd : List ℕ
  pub even : List ℕ
  pub entries : List EntryData

-- the entry that stands for a missing one, at an index past the last entry; its winner is 2, which is not a player
abbrev pub no_entry : EntryData
no_entry = record { winner = 2; choice = None; counts = [] }

unfoldable pub winner_of : CertificateData → ℕ → ℕ
winner_of certificate v = (slice_index_or certificate.entries v no_entry).winner

unfoldable pub choice_of : CertificateData → ℕ → Option ℕ
choice_of certificate v = (slice_index_or certificate.entries v no_entry).choice

unfoldable pub counts_of : CertificateData → ℕ → List ℕ
counts_of certificate v = (slice_index_or certificate.entries v no_entry).counts

-- the priorities that oppose a player: the odd ones for player 0, the even ones for player 1. A player loses a play
-- that repeats a loop whose greatest priority opposes the player.
unfoldable pub opposing : CertificateData → ℕ → List ℕ
opposing certificate player = if player == 0 then certificate.odd else certificate.even

-- a certificate fits a game: it has one entry for each vertex, winners 0 or 1, moves that are vertices, the game's
-- priorities, and a count for each priority that opposes the winner
pub record Fits (game : ParityGame) (certificate : CertificateData) : Type 0 where
  pub entry_each : length certificate.entries ≡ vertex_count game
  pub winners : (v : ℕ) → v < vertex_count game → winner_of certificate v < 2
  pub choices : (v : ℕ) → v < vertex_count game → IfSome (choice_of certificate v) (λ w. w < vertex_count game)
  pub odd_listed : ListsPriorities game 1 certificate.odd
  pub even_listed : ListsPriorities game 0 certificate.even
  pub count_each : (v : ℕ) → v < vertex_count game → length (counts_of certificate v) ≡ length
      (opposing certificate (winner_of certificate v))

-- an edge remains (the winner's moves allow it) if it leaves a vertex that its loser owns, or is the winner's move
abbrev pub Remains : ParityGame → CertificateData → ℕ → ℕ → Type 0
Remains game certificate v w = RemainsFor game (winner_of certificate v) (choice_of certificate) v w

-- the move of a vertex is right: a successor if the vertex's winner owns it, and none if its loser owns it
pub record HasRightMove (game : ParityGame) (certificate : CertificateData) (v : ℕ) : Type 0 where
  pub own : owner_of game v ≡ winner_of certificate v → IsSomeAnd (choice_of certificate v) (HasEdge game v)
  pub other : owner_of game v ≢ winner_of certificate v → choice_of certificate v ≡ None

-- a certificate is closed if no move is wrong, and each edge that the winner's moves allow leads to a vertex with the
-- same winner
pub record IsClosed (game : ParityGame) (certificate : CertificateData) : Type 0 where
  pub moves : (v : ℕ) → v < vertex_count game → HasRightMove game certificate v
  pub stays : (v w : ℕ) → Remains game certificate v w → winner_of certificate w ≡ winner_of certificate v

-- the priority at index `k` of the list of all priorities that oppose the winner of vertex `v`
abbrev pub opposing_at : CertificateData → ℕ → ℕ → ℕ
opposing_at certificate v k = slice_index (opposing certificate (winner_of certificate v)) k

-- an edge obeys the certificate's rule of counts for the priority at index `k` of those that oppose the winner of the
-- vertex that the edge leaves
abbrev pub KeepsCount : ParityGame → CertificateData → ℕ → ℕ → ℕ → Type 0
KeepsCount game certificate v w k =
    KeepsRule (opposing_at certificate v k) (priority_of game v) (priority_of game w)
    (slice_index (counts_of certificate v) k) (slice_index (counts_of certificate w) k)

-- a certificate is valid if it is closed, and each edge that the winner's moves allow obeys the rule of counts for each
-- priority that opposes the winner
pub record IsValid (game : ParityGame) (certificate : CertificateData) : Type 0 where
  pub closed : IsClosed game certificate
  pub counts : (v w k : ℕ) → Remains game certificate v w → winner_of certificate w ≡ winner_of certificate v →
      k < length (opposing certificate (winner_of certificate v)) → KeepsCount game certificate v w k

-- the move of a vertex is wrong if the winner owns the vertex and the move is missing or is not a successor, or if the
-- loser owns the vertex and it has a move
abbrev pub HasWrongMove : ParityGame → CertificateData → ℕ → Type 0
HasWrongMove game certificate v =
    ((owner_of game v ≡ winner_of certificate v) × ¬ IsSomeAnd (choice_of certificate v) (HasEdge game v))
    ⊎ ((owner_of game v ≢ winner_of certificate v) × IsSome (choice_of certificate v))

-- an edge that the winner's moves allow, between two vertices with the same winner, breaks the certificate's rule of
-- counts for priority `p`
pub record BreaksCount (game : ParityGame) (certificate : CertificateData) (v w p : ℕ) : Type 0 where
  pub remains : Remains game certificate v w
  pub same_winner : winner_of certificate w ≡ winner_of certificate v
  pub place : ℕ
  pub within : place < length (opposing certificate (winner_of certificate v))
  pub priority : opposing_at certificate v place ≡ p
  pub broken : ¬ KeepsCount game certificate v w place

-- the certificate has the given flaw: a wrong move, or an edge that the winner's moves allow and that leaves the
-- winner's region (an escape) or breaks the rule of counts
abbrev pub IsFlaw : ParityGame → CertificateData → Flaw → Type 0
IsFlaw game certificate (Move v choice) =
    (v < vertex_count game) × (choice_of certificate v ≡ choice) × HasWrongMove game certificate v
IsFlaw game certificate (Escape v w) =
    Remains game certificate v w × (winner_of certificate w ≢ winner_of certificate v)
IsFlaw game certificate (Rank v w p) = BreaksCount game certificate v w p

-- one number occurs before another in a list
abbrev pub OccursBefore : List ℕ → ℕ → ℕ → Type 0
OccursBefore xs x y =
    (i : ℕ) × (j : ℕ) × (i < j) × (j < length xs) × (slice_index xs i ≡ x) × (slice_index xs j ≡ y)

-- The edge from v to w comes before the edge from v' to w'. Edges are ordered by the vertices that they leave; edges
-- that leave one vertex are in the order of its list of successors.
abbrev pub EdgePrecedes : ParityGame → ℕ → ℕ → ℕ → ℕ → Type 0
EdgePrecedes game v w v' w' = (v < v') ⊎ ((v ≡ v') × OccursBefore (successors_of game v) w w')

-- The order of a certificate's flaws: wrong moves and escapes (edges that the winner's moves allow, out of the winner's
-- region) come first, in the order of the vertices. At the same vertex, a wrong move comes before the escapes, which
-- are in the order of the vertex's successors. The edges that break the rule of counts come last, ordered by vertex,
-- then successor, then priority.
abbrev pub Precedes : ParityGame → Flaw → Flaw → Type 0
Precedes game (Move v _) (Move v' _) = v < v'
Precedes game (Move v _) (Escape v' _) = v ≤ v'
Precedes game (Escape v _) (Move v' _) = v < v'
Precedes game (Escape v w) (Escape v' w') = EdgePrecedes game v w v' w'
Precedes game (Rank v w p) (Rank v' w' p') = EdgePrecedes game v w v' w' ⊎ ((v ≡ v') × (w ≡ w') × (p < p'))
Precedes game (Move _ _) (Rank _ _ _) = Unit {0}
Precedes game (Escape _ _) (Rank _ _ _) = Unit {0}
Precedes game (Rank _ _ _) (Move _ _) = ⊥
Precedes game (Rank _ _ _) (Escape _ _) = ⊥

-- the certificate's first flaw, which comes before every other flaw
pub record IsFirstFlaw (game : ParityGame) (certificate : CertificateData) (flaw : Flaw) : Type 0 where
  pub is_flaw : IsFlaw game certificate flaw
  pub first : (other : Flaw) → IsFlaw game certificate other → (flaw ≡ other) ⊎ Precedes game flaw other
