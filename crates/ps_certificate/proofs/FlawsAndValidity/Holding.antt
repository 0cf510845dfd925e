-- If a player follows the moves of a valid certificate, from a vertex that this certificate gives to the player, the
-- greatest priority of every loop of the path has the player's parity. Suppose that the greatest priority p of a loop
-- has the opponent's parity. Then the count for p never rises along the edges of the loop, and it falls along each of
-- these edges that leaves a vertex of priority p. So the count for p is less at the end of the loop than at its
-- beginning, although both are the same vertex: a contradiction.
use Rattle.std.proofs.Common.{◌≡◌, ◌≢◌, ℕ, ◌+◌, ◌-◌, ◌%◌, ◌<◌, ◌≤◌, ◌∙◌, List, length, inl, inr, sym, ap, arith, zero}
use Rattle.std.proofs.Common.{suc, rules}
use Rattle.std.specs.Prelude.{slice_index}
use Rattle.std.proofs.lemmas.Bool.{cases_eq, eqb-true, eq-eqb}
use Rattle.ps_game.specs.Games.{ParityGame, IsGame, vertex_count, priority_of}
use Rattle.ps_game.specs.Plays.{IsPath, IsLoop, Follows, WinsLoop, loop_priority, other_player}
use Rattle.ps_game.proofs.PathsAndLoops.LoopPriorities.{le-loop_priority, loop_priority_stands}
use Rattle.ps_game.proofs.PathsAndLoops.Beaten.{histories_beaten}
use Rattle.ps_game.proofs.PathsAndLoops.Memory.{WinsByNoMemory-AllHistoriesBeaten}
use Rattle.ps_certificate.specs.Certificates.{CertificateData, Fits, IsValid, KeepsCount, winner_of, choice_of}
use Rattle.ps_certificate.specs.Certificates.{counts_of, opposing, opposing_at}
use Rattle.ps_certificate.specs.Regions.{BothHold, NoneWinsOutside}
use Rattle.ps_certificate.proofs.FlawsAndValidity.SuccessorEdges.{place_of}
use Rattle.ps_certificate.proofs.FlawsAndValidity.CountRule.{opposing_complete}
use Rattle.ps_certificate.proofs.FlawsAndValidity.Keeping.{path_stays, BothKeep-from_closed}

-- if a sequence of numbers never rises, its last number is at most its first
pub never_rises_along : (f : ℕ → ℕ) (i d : ℕ) → ((k : ℕ) → i ≤ k → k < i + d → f (k + 1) ≤ f k) → f (i + d) ≤ f i
never_rises_along f i zero step = (let e : f (i + 0) ≡ f i = ap f (omega arith) in omega arith)
never_rises_along f i (suc d) step =
    let before : f (i + d) ≤ f i = never_rises_along f i d (λ k after below. step k after (omega arith)) in
    grind arith

-- if a sequence of numbers never rises, and falls once, its last number is less than its first
pub falls_in_the_end : (f : ℕ → ℕ) (i j m : ℕ) → i ≤ m → m < j → ((k : ℕ) → i ≤ k → k < j → f (k + 1) ≤ f k) →
    f (m + 1) < f m → f j < f i
falls_in_the_end f i j m after below step falls =
    let to_fall : f (i + (m - i)) ≤ f i = never_rises_along f i (m - i) (λ k k_after k_below. grind arith) in
    let from_fall : f (m + 1 + (j - (m + 1))) ≤ f (m + 1) =
    never_rises_along f (m + 1) (j - (m + 1)) (λ k k_after k_below. step k (omega arith) (omega arith)) in
    grind arith

-- assumed for a contradiction: a path that follows the player's moves of a valid certificate has a loop whose greatest
-- priority opposes the player. `place` is the index of the loop's greatest priority in the list of the priorities that
-- oppose the player
record LostLoop (game : ParityGame) (certificate : CertificateData) (player : ℕ) (path : List ℕ)
    (i j place : ℕ) : Type 0 where
  pub fits : Fits game certificate
  pub valid : IsValid game certificate
  pub is_path : IsPath game path
  pub follows : Follows game player (choice_of certificate) path
  pub begins : winner_of certificate (slice_index path 0) ≡ player
  pub loop : IsLoop path i j
  pub within : place < length (opposing certificate player)
  pub is : slice_index (opposing certificate player) place ≡ loop_priority game path i j

-- no vertex of the loop, not even its end, has a priority greater than `loop_priority`, the greatest priority of the
-- loop
bounded : (game : ParityGame) (certificate : CertificateData) (player : ℕ) (path : List ℕ) (i j place : ℕ) →
    LostLoop game certificate player path i j place → (k : ℕ) → i ≤ k → k ≤ j →
    priority_of game (slice_index path k) ≤ loop_priority game path i j
bounded game certificate player path i j place lost k after before = elim (cases_eq k j) [
  | inl last ↦ search (rules, le-loop_priority)
  | inr earlier ↦ le-loop_priority game path i j k after (omega arith) (omega (arith, lost.loop.within))
]

winner_along : {game : ParityGame} {certificate : CertificateData} {player : ℕ} {path : List ℕ} {i j place : ℕ} →
    LostLoop game certificate player path i j place → (k : ℕ) → k ≤ j →
    winner_of certificate (slice_index path k) ≡ player
winner_along {game} {certificate} {player} {path} lost k before = search (rules, path_stays)

-- at each vertex of a lost loop (one whose greatest priority opposes the winner), the item at index `place` of the
-- priorities that oppose the winner is the loop's greatest priority
at_place : {game : ParityGame} {certificate : CertificateData} {player : ℕ} {path : List ℕ} {i j place : ℕ} →
    LostLoop game certificate player path i j place → (k : ℕ) → k ≤ j →
    opposing_at certificate (slice_index path k) place ≡ loop_priority game path i j
at_place {certificate} {place} lost k before = grind (arith, winner_along lost k before)

-- each step of a lost loop (one whose greatest priority opposes the winner) obeys the certificate's rule of counts for
-- this priority
step_keeps : {game : ParityGame} {certificate : CertificateData} {player : ℕ} {path : List ℕ} {i j place : ℕ} →
    LostLoop game certificate player path i j place → (k : ℕ) → i ≤ k → k < j →
    KeepsCount game certificate (slice_index path k) (slice_index path (k + 1)) place
step_keeps {game} {certificate} {player} {path} {place} lost k after below =
    grind (arith, winner_along lost k (omega arith), winner_along lost (k + 1) (omega arith))

step_at_most : {game : ParityGame} {certificate : CertificateData} {player : ℕ} {path : List ℕ} {i j place : ℕ} →
    LostLoop game certificate player path i j place → (k : ℕ) → i ≤ k → k < j → slice_index (counts_of certificate
    (slice_index path (k + 1))) place ≤ slice_index (counts_of certificate (slice_index path k)) place
step_at_most {game} {certificate} {player} {path} {i} {j} {place} lost k after below = grind (
  arith,
  at_place lost k (omega arith),
  bounded game certificate player path i j place lost k after (omega arith),
  bounded game certificate player path i j place lost (k + 1) (omega arith) (omega arith),
  step_keeps lost k after below,
)

-- a path that follows the player's moves of a valid certificate, from a vertex that it gives to the player, has no loop
-- whose greatest priority opposes the player
no_lost_loop : {game : ParityGame} {certificate : CertificateData} {player : ℕ} {path : List ℕ} {i j place : ℕ} →
    LostLoop game certificate player path i j place → ⊥
no_lost_loop {game} {certificate} {player} {path} {i} {j} {place} lost =
    let (m, after, below, has) = loop_priority_stands game path i j lost.loop.rises (omega (arith, lost.loop.within)) in
    let count : ℕ → ℕ = λ k. slice_index (counts_of certificate (slice_index path k)) place in
    let is : opposing_at certificate (slice_index path m) place ≡ loop_priority game path i j =
    at_place lost m (omega arith) in
    let next : priority_of game (slice_index path (m + 1)) ≤ loop_priority game path i j =
    bounded game certificate player path i j place lost (m + 1) (omega arith) (omega arith) in
    let falls : slice_index (counts_of certificate (slice_index path (m + 1))) place < slice_index (counts_of
    certificate (slice_index path m)) place = (step_keeps lost m after below).falls (has ∙ sym is) (omega arith) in
    grind (arith, falls_in_the_end count i j m after below (step_at_most lost) falls)

wins_each_loop : {game : ParityGame} {certificate : CertificateData} {player : ℕ} → player < 2 → Fits game certificate →
    IsValid game certificate → {path : List ℕ} {i j : ℕ} → IsPath game path → winner_of certificate (slice_index path 0)
    ≡ player → Follows game player (choice_of certificate) path → IsLoop path i j → WinsLoop game player path i j
wins_each_loop {game} {certificate} {player} is_player fits valid {path} {i} {j} is_path begins follows loop =
    elim (cases_eq (loop_priority game path i j % 2) player) [
      | inl wins ↦ wins
      | inr loses ↦
          let (m, after, below, has) = loop_priority_stands game path i j loop.rises (omega (arith, loop.within)) in
          let in_range : slice_index path m < vertex_count game = is_path.vertices m (omega (arith, loop.within)) in
          let lost : priority_of game (slice_index path m) % 2 ≢ player = λ e. loses (ap (λ p. p % 2) (sym has) ∙ e) in
          let (place, within, is) = place_of (opposing certificate player)
          (opposing_complete player fits is_player (slice_index path m) in_range lost) in
          absurd (no_lost_loop (record {
            fits = fits;
            valid = valid;
            is_path = is_path;
            follows = follows;
            begins = begins;
            loop = loop;
            within = within;
            is = is ∙ has;
          }))
    ]

-- each player wins the vertices that a valid certificate gives to the player, by following the certificate's moves
pub BothHold-from_valid : (game : ParityGame) (certificate : CertificateData) → Fits game certificate →
    IsValid game certificate → BothHold game certificate
BothHold-from_valid game certificate fits valid player is_player =
    search (rules, BothKeep-from_closed, wins_each_loop, eqb-true)

pub NoneWinsOutside-from_valid : (game : ParityGame) (certificate : CertificateData) → IsGame game →
    Fits game certificate → IsValid game certificate → NoneWinsOutside game certificate
NoneWinsOutside-from_valid game certificate is_game fits valid player is_player v below other =
    let winner_below : winner_of certificate v < 2 = fits.winners v below in
    let is_other : winner_of certificate v ≡ other_player player = omega (arith, other) in
    let holds = BothHold-from_valid game certificate fits valid (other_player player) (omega arith) in
    search (rules, eq-eqb, histories_beaten, WinsByNoMemory-AllHistoriesBeaten)
