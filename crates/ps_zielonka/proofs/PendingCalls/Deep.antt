-- The number of pending recursive calls is at most the number of distinct priorities, since each call has fewer
-- priorities in its subgame than the call that waits for it.
use Rattle.std.proofs.Common.{◌≡◌, ℕ, zero, suc, ◌+◌, ◌*◌, ◌<◌, inl, inr, List, length, get_or, Bool, true, false}
use Rattle.std.proofs.Common.{max, refl, sym, ◌∙◌, arith, rules}
use Rattle.std.proofs.lemmas.Bool.{cases_lt, lt-ltb, false≢true}
use Rattle.std.proofs.lemmas.List.{get_or_past}
use Rattle.ps_game.specs.Games.{ParityGame, vertex_count}
use Rattle.ps_attractor.specs.Tables.{TablesData, level_of}
use Rattle.ps_zielonka.specs.declared.level.TheConstants.{UNPLACED}
use Rattle.ps_zielonka.specs.declared.frame.Frame.{Frame}
use Rattle.ps_zielonka.specs.Depths.{is_vertex, HasPriorities, IsDepth}
use Rattle.ps_zielonka.specs.Inner.Depths.{IsFresh, IsSecondCall, IsDepthSoFar}
use Rattle.ps_zielonka.specs.Inner.Nests.{from, frame_at, Waits, IsNest}
use Rattle.ps_zielonka.proofs.PendingCalls.Depths.{one_priority, HasPriorities-larger, HasPriorities-turned}
use Rattle.ps_zielonka.proofs.PlacedVertices.Sets.{from_at}
use Rattle.ps_zielonka.proofs.PendingCalls.Begun.{Begun}
use Rattle.ps_zielonka.proofs.PendingCalls.Begins.{begun_left}

-- the subgame of the first call has at least j more priorities than the subgame of the call of depth j
chain : {game : ParityGame} (tables : TablesData) (winner order : List ℕ) (frames : List Frame) (j : ℕ) {m : ℕ} →
    ((i : ℕ) → i < j → Waits game tables winner order (2 * i) (frame_at frames i)) →
    HasPriorities game (from tables.level (2 * j + 1)) m → HasPriorities game (from tables.level 1) (m + j)
chain {game} tables winner order frames zero {m} waits has_m = search rules
chain {game} tables winner order frames (suc j) {m} waits has_m =
    let wait = waits j (omega arith) in
    let level : 2 * suc j + 1 ≡ 2 * j + 3 = omega arith in
    let same : m + 1 + j ≡ m + suc j = omega arith in
    let more : HasPriorities game (from tables.level (2 * j + 2)) (m + 1) =
    HasPriorities-turned wait.prepared (rw level at has_m) in
    rw same at (chain tables winner order frames j (λ i less. waits i (omega arith))
    (HasPriorities-larger (from tables.level (2 * j + 1)) wait.progress.within more))

-- the game has at least as many distinct priorities as there are pending recursive calls
nest_priorities : {game : ParityGame} {tables : TablesData} {winner order : List ℕ} {frames : List Frame} {cursor : ℕ}
    {solved : Bool} (k : ℕ) → length frames ≡ k + 1 → IsNest game tables winner order frames cursor solved →
    HasPriorities game (is_vertex game) (k + 1)
nest_priorities {game} {tables} {winner} {order} {frames} k calls nest =
    let wait = nest.waits k (omega arith) in
    let (top, is_top, greatest) = wait.prepared.some_top in
    let one = one_priority game (from tables.level (2 * k + 1)) top (grind arith) in
    let same : 1 + k ≡ k + 1 = omega arith in
    rw same at (HasPriorities-larger (is_vertex game)
    (λ v inside. grind (arith, lt-ltb, cases_lt, get_or_past, from_at))
    (chain tables winner order frames k (λ i less. nest.waits i (omega arith)) one))

-- ## The depth so far

-- the recorded maximal depth satisfies its invariant before the first iteration begins
pub depth_start : (game : ParityGame) (levels : List ℕ) → ((v : ℕ) → v < vertex_count game →
    get_or levels v 0 ≡ UNPLACED) → IsDepthSoFar game levels 0 false 0
depth_start game levels unplaced = search rules

-- a recorded maximal depth within its promised bounds (`IsDepth`) satisfies the invariant `IsDepthSoFar` in every state
-- of the solver
depth_stays : {game : ParityGame} (levels : List ℕ) (calls : ℕ) (solved : Bool) {depth : ℕ} → IsDepth game depth →
    IsDepthSoFar game levels calls solved depth
depth_stays levels calls solved is_depth = record {
  most = is_depth.most;
  some = λ v is_vertex. inl (is_depth.some v is_vertex);
  two = λ set closed v is_vertex outside. inl (is_depth.two set closed v is_vertex outside);
}

-- once the first iteration has begun, the recorded maximal depth is within its promised bounds (`IsDepth`), except
-- while a call of depth 1 still has vertices to solve (`IsSecondCall`)
depth_known : {game : ParityGame} {levels : List ℕ} {calls : ℕ} {solved : Bool} {depth : ℕ} →
    ((v : ℕ) → v < vertex_count game → IsFresh game levels calls solved → ⊥) →
    ((v : ℕ) → IsSecondCall levels calls solved v → ⊥) → IsDepthSoFar game levels calls solved depth →
    IsDepth game depth
depth_known not_fresh not_second so_far = record {
  most = so_far.most;
  some = λ v is_vertex. elim (so_far.some v is_vertex) [
    | inl one ↦ one
    | inr fresh ↦ absurd (not_fresh v is_vertex fresh)
  ];
  two = λ set closed v is_vertex outside. elim (so_far.two set closed v is_vertex outside) [
    | inl two ↦ two
    | inr early ↦ elim early [
      | inl fresh ↦ absurd (not_fresh v is_vertex fresh)
      | inr second ↦ absurd (not_second v second)
    ]
  ];
}

-- if the current call is solved, the recorded maximal depth is within its promised bounds (`IsDepth`)
pub depth_solved : {game : ParityGame} {levels : List ℕ} {calls : ℕ} {solved : Bool} {depth : ℕ} → solved ≡ true →
    IsDepthSoFar game levels calls solved depth → IsDepth game depth
depth_solved is_solved so_far = depth_known (λ v is_vertex fresh. false≢true (sym fresh.unsolved ∙ is_solved))
    (λ v second. false≢true (sym second.unsolved ∙ is_solved)) so_far

-- the recorded maximal depth satisfies its invariant after the solver returns to the last pending call
pub depth_climbs : {game : ParityGame} {levels : List ℕ} (now : List ℕ) {calls : ℕ} (left : ℕ) {solved : Bool}
    (is : Bool) {depth : ℕ} → solved ≡ true → IsDepthSoFar game levels calls solved depth →
    IsDepthSoFar game now left is depth
depth_climbs {game} {levels} now {calls} left {solved} is {depth} is_solved so_far =
    search (rules, depth_stays, depth_solved)

pub depth_kept : {game : ParityGame} {levels : List ℕ} (now : List ℕ) {calls : ℕ} (left : ℕ) {solved : Bool} (is : Bool)
    {depth : ℕ} (deep : ℕ) → deep ≡ depth → solved ≡ true → IsDepthSoFar game levels calls solved depth →
    IsDepthSoFar game now left is deep
depth_kept {game} {levels} now {calls} left {solved} is {depth} deep same is_solved so_far =
    rw same (depth_climbs now left is is_solved so_far)

-- the recorded maximal depth satisfies its invariant when the current call has no undecided vertex left
pub depth_done : {game : ParityGame} {tables : TablesData} {winner order : List ℕ} {frames : List Frame} {cursor : ℕ}
    {solved : Bool} {depth : ℕ} → IsNest game tables winner order frames cursor true →
    IsDepthSoFar game tables.level (length frames) solved depth →
    IsDepthSoFar game tables.level (length frames) true depth
depth_done {tables = tables} {frames = frames} nest so_far =
    let placed : (v : ℕ) → level_of tables v ≡ UNPLACED → ⊥ = λ v unplaced. omega (arith, (nest.done refl).placed v) in
    depth_stays tables.level (length frames) true (depth_known
    (λ v is_vertex fresh. placed v (fresh.unplaced v is_vertex)) (λ v second. placed v second.unplaced) so_far)

-- the recorded maximal depth satisfies its invariant after an iteration begins
pub depth_begun : (b : Begun) {frames : List Frame} {cursor : ℕ} {solved : Bool} {depth : ℕ} (deeper : ℕ) →
    length frames ≡ b.depth + 1 → solved ≡ false → deeper ≡ max depth (length frames) →
    IsNest b.game b.new b.winner_now b.order frames cursor solved →
    IsDepthSoFar b.game b.old.level b.depth solved depth → IsDepthSoFar b.game b.new.level (length frames) solved deeper
depth_begun b {frames} {cursor} {solved} {depth} deeper calls unsolved greater nest so_far = record {
  most = elim (cases_lt depth (length frames)) [
    | inl less ↦ (let same : b.depth + 1 ≡ deeper = omega arith in
        rw same at (nest_priorities b.depth calls nest))
    | inr more ↦ (let same : depth ≡ deeper = omega arith in rw same at so_far.most)
  ];
  some = λ v is_vertex. inl (omega arith);
  two = λ set closed v is_vertex outside. elim (cases_lt (length frames) 2) [
    | inr many ↦ inl (omega arith)
    | inl one ↦ elim (so_far.two set closed v is_vertex outside) [
      | inl two ↦ inl (omega arith)
      | inr early ↦ elim early [
        | inl fresh ↦ inr (inr (record {
          one = omega arith;
          unsolved = unsolved;
          unplaced = begun_left b v fresh.none fresh.unplaced closed is_vertex outside;
        }))
        | inr second ↦ absurd (omega arith)
      ]
    ]
  ];
}
