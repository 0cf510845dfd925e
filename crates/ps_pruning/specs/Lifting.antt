-- A game, the same game without some vertices of the player who moves second, and certificates of both.
-- - `Pruning`: a game, the vertices of it that are kept, and the pruned game, which has no other vertices
-- - `IsPruning p`: the players of the game move by turns, all vertices of the first mover are kept, and the pruned game
--   has the edges between the kept vertices
-- - `IsCovered p`: each vertex of the second mover may be replaced by a kept one with no other successors
-- - `Serves p certificate v u`: the game's vertex v is won like the vertex u of the pruned game
-- - `IsGuideBy p certificate order guide`: the guide gives each vertex the first in a list of candidates that serves it
-- - `IsLift p certificate guide lifted`: `lifted` extends a certificate of the pruned game to the whole game
--
-- The vertices of the pruned game have numbers of their own: its vertex u is the vertex of the game that the list of
-- kept vertices has at the index u.
use Rattle.std.specs.Prelude.{◌≡◌, ◌≢◌, ℕ, ◌<◌, ◌⊎◌, ◌↔◌, List, length, Option, None, Some, slice_get, slice_index}
use Rattle.std.specs.List.{AllPairs, Contains}
use Rattle.std.specs.Option.{option_map}
use Rattle.ps_game.specs.Games.{ParityGame, IsGame, vertex_count, owner_of, priority_of, successors_of, HasEdge}
use Rattle.ps_certificate.specs.Certificates.{CertificateData, winner_of, choice_of, counts_of, opposing, Remains}
use Rattle.ps_certificate.specs.Certificates.{HasRightMove}

-- `mover` is the player who moves first, at vertex 0
pub record Pruning : Type 0 where
  pub mover : ℕ
  pub game : ParityGame
  pub kept : List ℕ
  pub pruned : ParityGame

-- the vertex u of the pruned game is the vertex v of the game
abbrev pub IsKeptAs : Pruning → ℕ → ℕ → Type 0
IsKeptAs p u v = slice_get p.kept u ≡ Some v

pub record IsPruning (p : Pruning) : Type 0 where
  pub mover : p.mover < 2
  pub is_game : IsGame p.game
  pub turns : (v w : ℕ) → HasEdge p.game v w → owner_of p.game w ≢ owner_of p.game v
  pub count : length p.kept ≡ vertex_count p.pruned
  pub different : AllPairs (λ v w. v ≢ w) p.kept
  pub within : (u v : ℕ) → IsKeptAs p u v → v < vertex_count p.game
  pub firsts : (v : ℕ) → v < vertex_count p.game → owner_of p.game v ≡ p.mover → Contains p.kept v
  pub owners : (u v : ℕ) → IsKeptAs p u v → owner_of p.pruned u ≡ owner_of p.game v
  pub priorities : (u v : ℕ) → IsKeptAs p u v → priority_of p.pruned u ≡ priority_of p.game v
  pub edges : (u v x w : ℕ) → IsKeptAs p u v → IsKeptAs p x w → HasEdge p.pruned u x ↔ HasEdge p.game v w

-- the first mover may go to w in place of v: whatever has an edge to v has one to w
pub record MayReplace (p : Pruning) (v w : ℕ) : Type 0 where
  pub owner : owner_of p.game w ≡ owner_of p.game v
  pub priority : priority_of p.game w ≡ priority_of p.game v
  pub entered : (u : ℕ) → HasEdge p.game u v → HasEdge p.game u w

-- the vertex u of the pruned game may replace v, and leads nowhere but where v leads
pub record CoversVertex (p : Pruning) (v u : ℕ) : Type 0 where
  pub vertex : ℕ
  pub is_kept : IsKeptAs p u vertex
  pub replaces : MayReplace p v vertex
  pub less : (w : ℕ) → Contains (successors_of p.game vertex) w → Contains (successors_of p.game v) w

abbrev pub IsCovered : Pruning → Type 0
IsCovered p = (v : ℕ) → v < vertex_count p.game → owner_of p.game v ≢ p.mover → (u : ℕ) × CoversVertex p v u

-- the second mover wins the vertex u of the pruned game, which may replace v, by a move to a successor of v
pub record Guides (p : Pruning) (certificate : CertificateData) (v u : ℕ) : Type 0 where
  pub turn : owner_of p.game v ≢ p.mover
  pub won : winner_of certificate u ≡ owner_of p.game v
  pub vertex : ℕ
  pub is_kept : IsKeptAs p u vertex
  pub replaces : MayReplace p v vertex
  pub chosen : ℕ
  pub choice : choice_of certificate u ≡ Some chosen
  pub target : ℕ
  pub is_target : IsKeptAs p chosen target
  pub edge : HasEdge p.game v target

-- u is the vertex v itself, or guides the second mover there
abbrev pub Serves : Pruning → CertificateData → ℕ → ℕ → Type 0
Serves p certificate v u = IsKeptAs p u v ⊎ Guides p certificate v u

-- the guide gives each vertex of the game a vertex that serves it, and None only if there is none
pub record IsGuide (p : Pruning) (certificate : CertificateData) (guide : ℕ → Option ℕ) : Type 0 where
  pub serves : (v u : ℕ) → v < vertex_count p.game → guide v ≡ Some u → Serves p certificate v u
  pub complete : (v u : ℕ) → v < vertex_count p.game → guide v ≡ None → ¬ Serves p certificate v u

-- x is the first number of the list that has the property P
pub record IsFirstIn (list : List ℕ) (P : ℕ → Type 0) (x : ℕ) : Type 0 where
  pub place : ℕ
  pub stands : slice_get list place ≡ Some x
  pub here : P x
  pub none_before : (k y : ℕ) → k < place → slice_get list k ≡ Some y → ¬ P y

-- `order` lists, for each vertex of the game, at least the vertices that serve it
abbrev pub AreCandidates : Pruning → CertificateData → (order : ℕ → List ℕ) → Type 0
AreCandidates p certificate order =
    (v u : ℕ) → v < vertex_count p.game → Serves p certificate v u → Contains (order v) u

-- a guide that gives the first of the candidates that serves a vertex
pub record IsGuideBy (p : Pruning) (certificate : CertificateData) (order : ℕ → List ℕ) (guide : ℕ → Option ℕ) :
    Type 0 where
  pub is_guide : IsGuide p certificate guide
  pub first : (v u : ℕ) → guide v ≡ Some u → IsFirstIn (order v) (Serves p certificate v) u

-- the vertex v has the winner, the move and the counts of the vertex u of the pruned game
pub record HasEntryOf (p : Pruning) (certificate lifted : CertificateData) (v u : ℕ) : Type 0 where
  pub winner : winner_of lifted v ≡ winner_of certificate u
  pub choice : choice_of lifted v ≡ option_map (λ w. slice_index p.kept w) (choice_of certificate u)
  pub counts : counts_of lifted v ≡ counts_of certificate u

-- each edge from v that the winner's moves allow leads to a vertex with the same winner and with smaller counts
pub record HasOwnEntry (game : ParityGame) (certificate : CertificateData) (v : ℕ) : Type 0 where
  pub winner : winner_of certificate v < 2
  pub move : HasRightMove game certificate v
  pub count_each : length (counts_of certificate v) ≡ length (opposing certificate (winner_of certificate v))
  pub stays : (w : ℕ) → Remains game certificate v w → winner_of certificate w ≡ winner_of certificate v
  pub falls : (w k : ℕ) → Remains game certificate v w → k < length (counts_of certificate v) →
      slice_index (counts_of certificate w) k < slice_index (counts_of certificate v) k

-- a vertex that the guide serves has the entry of the vertex that serves it; each other vertex is settled by the
-- entries of its successors
pub record IsLift (p : Pruning) (certificate : CertificateData) (guide : ℕ → Option ℕ) (lifted : CertificateData) :
    Type 0 where
  pub entry_each : length lifted.entries ≡ vertex_count p.game
  pub odd : lifted.odd ≡ certificate.odd
  pub even : lifted.even ≡ certificate.even
  pub served : (v u : ℕ) → v < vertex_count p.game → guide v ≡ Some u → HasEntryOf p certificate lifted v u
  pub settled : (v : ℕ) → v < vertex_count p.game → guide v ≡ None → HasOwnEntry p.game lifted v
