-- Two parts of a solver step: testing which tops (target vertices of the attractor) the player keeps, and taking
-- vertices off the trail (the list of placed vertices), some of which are placed again.
use Rattle.std.proofs.Common.{◌≡◌, ◌≢◌, ℕ, ◌+◌, ◌-◌, ◌<◌, ◌≤◌, ◌⊎◌, inl, inr, List, [], ◌∷◌, length, get_or, take}
use Rattle.std.proofs.Common.{refl, ◌∙◌, arith, rules}
use Rattle.std.specs.Prelude.{slice_set}
use Rattle.std.proofs.lemmas.Bool.{cases_eq, cases_lt}
use Rattle.std.proofs.lemmas.List.{get_or_append_left, get_or_push, length_push, get_or-set_same, get_or-set_other}
use Rattle.std.proofs.lemmas.List.{length-set, get_or-take}
use Rattle.ps_game.specs.Games.{ParityGame}
use Rattle.ps_attractor.specs.Tables.{TablesData, level_of}
use Rattle.ps_attractor.specs.Aims.{StandsFrom}
use Rattle.ps_attractor.specs.Steps.{with_placed}
use Rattle.ps_attractor.proofs.Placing.{stands_longer}
use Rattle.ps_zielonka.specs.declared.level.TheConstants.{UNPLACED}
use Rattle.ps_zielonka.specs.Inner.Nests.{StandsBetween, StandsBefore, IsKeptAt, IsMoved, IsTakenOff, IsReopened}

-- ## Keeping the tops

-- if only moves at tops have changed, and then only the move at the top u changes, still only moves at tops have
-- changed
pub moved_more : {old mid new : TablesData} (turn top place u : ℕ) → turn ≤ place → place < top →
    get_or old.trail place 0 ≡ u → IsMoved old mid (StandsBetween old turn top) → IsMoved mid new (λ v. v ≡ u) →
    IsMoved old new (StandsBetween old turn top)
moved_more turn top place u after before at first second = search rules

-- a top that the player keeps is still kept after the move at another vertex changes
kept_on : {game : ParityGame} {mid new : TablesData} {winner : List ℕ} {level player other : ℕ} (u : ℕ) {v : ℕ} →
    IsMoved mid new (λ v. v ≡ u) → v ≢ u → IsKeptAt game mid winner level player other v →
    IsKeptAt game new winner level player other v
kept_on {game} {mid} {new} {winner} {level} {player} u {v} moved differ kept = search rules

pub kept_more : {game : ParityGame} {old mid new : TablesData} {winner : List ℕ} {level player other turn : ℕ}
    (place : ℕ) {u : ℕ} → get_or old.trail place 0 ≡ u → IsMoved mid new (λ v. v ≡ u) →
    IsKeptAt game new winner level player other u → ((v : ℕ) → StandsBetween old turn place v →
    IsKeptAt game mid winner level player other v) → (v : ℕ) → StandsBetween old turn (place + 1) v →
    IsKeptAt game new winner level player other v
kept_more {game} {old} {mid} {new} {winner} {level} {player} {other} place {u} at moved here so_far v stands =
    elim (cases_eq v u) [
      | inl same ↦ rw same here
      | inr differ ↦ (
          let not_last : stands.place ≢ place = grind arith in
          let before : stands.place < place + 1 = stands.before in
          kept_on u moved differ (grind arith))
    ]

-- ## Placing vertices again

-- a vertex among the first k + 1 entries of a list is among the first k entries, or is the entry at index k
one_more : {spare : List ℕ} (k u : ℕ) {v : ℕ} → get_or spare k 0 ≡ u → StandsBefore spare (k + 1) v →
    StandsBefore spare k v ⊎ (v ≡ u)
one_more {spare} k u at_k stands = search (rules, cases_eq)

one_longer : {spare : List ℕ} {k v : ℕ} → StandsBefore spare k v → StandsBefore spare (k + 1) v
one_longer {k} stands = search rules

-- one more vertex that was taken off the trail is handled: it gets the level `UNPLACED`, or it is placed again
reopened_more : {winner : List ℕ} {player level turn : ℕ} {spare : List ℕ} {k u : ℕ} {old mid new : TablesData} →
    get_or spare k 0 ≡ u → ((v : ℕ) → v ≢ u → level_of new v ≡ level_of mid v) →
    length mid.trail ≤ length new.trail →
    ((j : ℕ) → j < length mid.trail → get_or new.trail j 0 ≡ get_or mid.trail j 0) →
    ((j : ℕ) → length mid.trail ≤ j → j < length new.trail →
    (get_or new.trail j 0 ≡ u) × (get_or winner u 0 ≢ player)) →
    (get_or winner u 0 ≢ player → (level_of new u ≡ level) × StandsFrom new turn u) →
    (get_or winner u 0 ≡ player → level_of new u ≡ UNPLACED) → new.moves ≡ mid.moves →
    length new.level ≡ length mid.level → IsReopened winner player level turn (StandsBefore spare k) old mid →
    IsReopened winner player level turn (StandsBefore spare (k + 1)) old new
reopened_more {winner = winner} {player = player} {turn = turn} {spare = spare} {k = k} {u = u} {mid = mid} {new = new}
    at_k kept longer front last lost free moves sizes so_far =
    let off_here : StandsBefore spare (k + 1) u = record { place = k; before = omega arith; is = at_k } in
    let earlier : (v : ℕ) → v ≢ u → StandsBefore spare (k + 1) v → StandsBefore spare k v = search (rules, one_more) in
    record {
      longer = omega arith;
      front = λ j before. front j (omega arith) ∙ so_far.front j before;
      behind = search (rules, cases_lt, one_longer);
      lost = λ v off not_won. elim (cases_eq v u) [
        | inl same ↦ rw same (lost (rw same at not_won))
        | inr differ ↦
            let (level, stands) = so_far.lost v (earlier v differ off) not_won in grind (arith, stands_longer)
      ];
      freed = search (rules, cases_eq);
      same = search (rules, cases_eq, one_longer);
      moves = moves ∙ so_far.moves;
      sizes = sizes ∙ so_far.sizes;
    }

-- the vertices of `spare`, which were taken off the trail, are handled in order: a vertex that the player won becomes
-- `UNPLACED`
pub reopened_free : {winner : List ℕ} {player level turn : ℕ} (spare : List ℕ) (k u : ℕ) {old mid : TablesData}
    (new : TablesData) → get_or spare k 0 ≡ u → u < length mid.level → get_or winner u 0 ≡ player →
    new.level ≡ slice_set mid.level u UNPLACED → new.moves ≡ mid.moves → new.trail ≡ mid.trail →
    IsReopened winner player level turn (StandsBefore spare k) old mid →
    IsReopened winner player level turn (StandsBefore spare (k + 1)) old new
reopened_free spare k u {mid = mid} new at_k within won levels moves trail so_far =
    search (rules, reopened_more, get_or-set_other, get_or-set_same, length-set)

-- the vertices of `spare`, which were taken off the trail, are handled in order: a vertex that the opponent won is
-- placed again
pub reopened_lost : {winner : List ℕ} {player level turn : ℕ} (spare : List ℕ) (k u : ℕ) {old mid : TablesData}
    (new : TablesData) → get_or spare k 0 ≡ u → u < length mid.level → get_or winner u 0 ≢ player →
    new ≡ with_placed mid u level → IsReopened winner player level turn (StandsBefore spare k) old mid →
    IsReopened winner player level turn (StandsBefore spare (k + 1)) old new
reopened_lost {level = level} spare k u {mid = mid} new at_k within not_won now so_far =
    let size = length_push mid.trail u in
    let last = get_or_push mid.trail u 0 (length mid.trail) refl in
    rw now (reopened_more at_k (λ v differ. get_or-set_other mid.level u v level 0 differ) (omega arith)
    (λ j less. get_or_append_left mid.trail (u ∷ []) 0 j less) (λ j more before. grind (arith, get_or_push))
    (λ _. grind (arith, get_or-set_same)) (λ won. absurd (not_won won)) refl (length-set mid.level u level) so_far)

-- once all vertices of the list `spare`, which were taken off the trail, are handled, those that the player won are
-- `UNPLACED`, and the other vertices of the list are in the trail again (`IsReopened`)
pub reopened_end : {winner : List ℕ} {player level turn : ℕ} (k : ℕ) {spare : List ℕ} (old : TablesData)
    {cut new : TablesData} → turn ≤ length old.trail → cut.level ≡ old.level → cut.moves ≡ old.moves →
    cut.trail ≡ take turn old.trail → IsTakenOff turn old.trail spare → k ≡ length spare →
    IsReopened winner player level turn (StandsBefore spare k) cut new →
    IsReopened winner player level turn (StandsFrom old turn) old new
reopened_end {turn} k {spare} old {new} within levels moves trail off all reopened =
    let to_old = λ (v : ℕ) (stands : StandsBefore spare k v). (
    let low : stands.place < k = stands.before in
    let found : StandsFrom old turn v = search rules in
    found) in
    let to_spare = λ (v : ℕ) (stands : StandsFrom old turn v). (
    let low : stands.place < length old.trail = stands.within in
    let after : turn ≤ stands.place = stands.after in
    let back : turn + (stands.place - turn) ≡ stands.place = omega arith in
    let found : StandsBefore spare k v = search rules in
    found) in
    grind (arith, get_or-take)
