-- Lemmas about the edges of a game, each given by its index in a vertex's list of successors.
use Rattle.std.proofs.Common.{◌≡◌, ◌≢◌, ℕ, ◌<◌, ◌∙◌, List, length, get_or, sym, ap, arith, Option, Some, subst, rules}
use Rattle.std.specs.Prelude.{slice_index, IsSomeAnd}
use Rattle.std.specs.List.{Contains}
use Rattle.std.proofs.lemmas.List.{get_or_default}
use Rattle.std.proofs.lemmas.Bool.{cases_order, cases_eq}
use Rattle.ps_game.specs.Games.{ParityGame, IsGame, vertex_count, owner_of, successors_of, HasEdge}
use Rattle.ps_certificate.specs.Certificates.{CertificateData, Remains, HasRightMove, HasWrongMove, winner_of}
use Rattle.ps_certificate.specs.Certificates.{choice_of}
use Rattle.ps_certificate.specs.Inner.Prefixes.{StaysInside, IsFirstEscape}

pub Contains-at : (xs : List ℕ) (k : ℕ) {x : ℕ} → k < length xs → x ≡ slice_index xs k → Contains xs x
Contains-at xs k {x} within is = (k, within, get_or_default xs k x 0 within ∙ sym is)

pub place_of : (xs : List ℕ) {x : ℕ} → Contains xs x → (k : ℕ) × (k < length xs) × (slice_index xs k ≡ x)
place_of xs {x} (k, within, is) = (k, within, get_or_default xs k 0 x within ∙ is)

-- each item in a vertex's list of successors is the end of an edge from this vertex
pub HasEdge-at : (game : ParityGame) (v k : ℕ) {w : ℕ} → v < vertex_count game → k < length (successors_of game v) →
    w ≡ slice_index (successors_of game v) k → HasEdge game v w
HasEdge-at game v k in_range within is = (in_range, Contains-at (successors_of game v) k within is)

-- a certificate with one entry for each vertex has an entry for each successor of a vertex
pub has_entry : {game : ParityGame} (certificate : CertificateData) →
    IsGame game → length certificate.entries ≡ vertex_count game → (v k : ℕ) {w : ℕ} → v < vertex_count game →
    k < length (successors_of game v) → w ≡ slice_index (successors_of game v) k → w < length certificate.entries
has_entry {game} certificate well each v k {w} in_range within is = let below : w < vertex_count game =
    well.within v w (HasEdge-at game v k in_range within is) in omega (arith, each)

-- the winner's moves allow each edge that leaves a vertex which the loser owns
pub Remains-other : (game : ParityGame) (certificate : CertificateData) (v w : ℕ) →
    owner_of game v ≢ winner_of certificate v → HasEdge game v w → Remains game certificate v w
Remains-other game certificate v w other edge = record { edge = edge; chosen = λ own. absurd (other own) }

-- the winner's moves allow the edge of the winner's own move
pub Remains-own : (game : ParityGame) (certificate : CertificateData) (v : ℕ) {w : ℕ} →
    choice_of certificate v ≡ Some w → HasEdge game v w → Remains game certificate v w
Remains-own game certificate v is edge = record { edge = edge; chosen = λ _. is }

pub IsSomeAnd-at : {A : Type 0} {o : Option A} (P : A → Type 0) {x : A} → o ≡ Some x → IsSomeAnd o P → P x
IsSomeAnd-at {A} P is holds = let F : Option A → Type 0 = λ p. IsSomeAnd p P in subst F is holds

-- if an option has a value, and this value has the property P, the option is `Some x` for some x that has the property
-- P
pub some_of : {A : Type 0} (o : Option A) (P : A → Type 0) → IsSomeAnd o P → (x : A) × (o ≡ Some x) × P x
some_of o P h = search rules

-- at a vertex that its winner owns, a right move is some successor `w` of the vertex
pub own_move : (game : ParityGame) (certificate : CertificateData) (v : ℕ) → HasRightMove game certificate v →
    owner_of game v ≡ winner_of certificate v → (w : ℕ) × (choice_of certificate v ≡ Some w) × HasEdge game v w
own_move game certificate v right own = some_of (choice_of certificate v) (HasEdge game v) (right.own own)

-- if a vertex does not meet the condition for a right move, it meets the condition for a wrong move
pub HasWrongMove-from_not_right : (game : ParityGame) (certificate : CertificateData) (v : ℕ) →
    ¬ HasRightMove game certificate v → HasWrongMove game certificate v
HasWrongMove-from_not_right game certificate v not_right =
    grind (arith, cases_eq (owner_of game v) (winner_of certificate v))

-- a vertex can't meet both the condition for a right move and the condition for a wrong move
pub not_wrong_when_right : {game : ParityGame} {certificate : CertificateData} {v : ℕ} →
    HasRightMove game certificate v → HasWrongMove game certificate v → ⊥
not_wrong_when_right h k = search rules

-- at a vertex that the loser owns, the winner's moves allow every edge; so the edge to the first successor with another
-- winner is the vertex's first escape
pub IsFirstEscape-at : {game : ParityGame} {certificate : CertificateData} {v : ℕ} (k : ℕ) {w : ℕ} → v <
    vertex_count game → owner_of game v ≢ winner_of certificate v → k < length (successors_of game v) → w ≡ slice_index
    (successors_of game v) k → ((j : ℕ) → j < k → winner_of certificate (get_or (successors_of game v) j 0)
    ≡ winner_of certificate v) → winner_of certificate w ≢ winner_of certificate v → IsFirstEscape game certificate v w
IsFirstEscape-at {game} {certificate} {v} k {w} in_range other_owner within is before leaves = record {
  leaves = search (rules, Remains-other, HasEdge-at);
  first = λ other other_leaves.
      let (j, j_within, j_is) = place_of (successors_of game v) other_leaves.remains.edge.1 in
      grind (arith, cases_order);
}

-- if the winner of a vertex also wins all its successors, no edge of the vertex leaves the winner's region
pub StaysInside-from_all : (game : ParityGame) (certificate : CertificateData) (v : ℕ) →
    ((j : ℕ) → j < length (successors_of game v) → winner_of certificate (get_or (successors_of game v) j 0) ≡ winner_of
    certificate v) → StaysInside game certificate v
StaysInside-from_all game certificate v each w remains = let (j, j_within, j_is) =
    place_of (successors_of game v) remains.edge.1 in ap (λ n. winner_of certificate n) (sym j_is) ∙ each j j_within

-- the certificate has an entry for the vertex to which a right move of the winner leads
pub own_entry : {game : ParityGame} (certificate : CertificateData) → IsGame game →
    length certificate.entries ≡ vertex_count game → (v w : ℕ) → HasRightMove game certificate v →
    owner_of game v ≡ winner_of certificate v → choice_of certificate v ≡ Some w → w < length certificate.entries
own_entry {game} certificate well each v w right own is =
    let edge : HasEdge game v w = IsSomeAnd-at (HasEdge game v) is (right.own own) in
    omega (arith, well.within v w edge, each)
