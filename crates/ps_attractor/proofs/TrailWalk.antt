-- Processing the worklist: the beginning, the step to the next index, and the examination of one edge.
use Rattle.std.proofs.Common.{◌≡◌, ◌≢◌, ℕ, ◌+◌, ◌<◌, ◌≤◌, ◌⊎◌, inl, inr, List, length, get_or, refl, sym, ap, rules}
use Rattle.std.proofs.Common.{◌∙◌, arith}
use Rattle.std.specs.Prelude.{slice_set}
use Rattle.std.proofs.lemmas.Bool.{cases_eq, cases_lt}
use Rattle.std.proofs.lemmas.List.{get_or-set_same, get_or-set_other, get_or_default}
use Rattle.ps_game.specs.Games.{ParityGame, owner_of, HasEdge}
use Rattle.ps_attractor.specs.Sources.{sources_of, IsSourcesOf}
use Rattle.ps_attractor.specs.declared.aim.Aim.{Aim}
use Rattle.ps_attractor.specs.Tables.{TablesData, level_of}
use Rattle.ps_attractor.specs.Aims.{StandsFrom, IsGrown}
use Rattle.ps_attractor.specs.Steps.{HasFree, Look, NotFree, Escapes, Own, Others, CanGoOn, LeadsBack}
use Rattle.ps_attractor.specs.Steps.{Reaching, From, FromSource, with_placed}
use Rattle.ps_attractor.proofs.Placing.{Places, trail_before, trail_last, trail_length, not_it, still_free, grown_on}
use Rattle.ps_attractor.proofs.Placing.{leads_back_on, stands_after, stands_longer}

-- `CanGoOn` states that v has an unattracted successor or an unexamined edge; P states which edges are unexamined. If P
-- implies Q, `CanGoOn` also holds with Q in place of P.
can_map : {game : ParityGame} {aim : Aim} {new : TablesData} {P Q : ℕ → ℕ → Type 0} {v : ℕ} →
    ((j : ℕ) → aim.begin ≤ j → j < length new.trail → HasEdge game v (get_or new.trail j 0) → P v j → Q v j) →
    CanGoOn game aim new P v → CanGoOn game aim new Q v
can_map map can = search rules

-- if P implies Q for every edge of an unattracted vertex, the loop's invariant `Reaching` still holds when Q, instead
-- of P, states which edges may be unexamined
reaching_map : {game : ParityGame} {aim : Aim} {old new : TablesData} (P Q : ℕ → ℕ → Type 0) →
    ((v j : ℕ) → level_of new v ≡ aim.free → aim.begin ≤ j → j < length new.trail →
    HasEdge game v (get_or new.trail j 0) → P v j → Q v j) →
    Reaching game aim old new P → Reaching game aim old new Q
reaching_map P Q map so_far = record {
  grown = so_far.grown;
  own = search rules;
  other = λ v is_free other goes. can_map (λ j. map v j is_free) (so_far.other v is_free other goes);
  back = so_far.back;
}

pub reaching_enter : {game : ParityGame} {aim : Aim} {old new : TablesData} {sources : List (List ℕ)} (k : ℕ) →
    IsSourcesOf game sources → Reaching game aim old new (From k) →
    Reaching game aim old new (FromSource k (sources_of sources (get_or new.trail k 0)) 0)
reaching_enter {game = game} {aim = aim} {new = new} {sources = sources} k is_sources so_far =
    let list = sources_of sources (get_or new.trail k 0) in
    reaching_map {game = game} {aim = aim} {new = new} (From k) (FromSource k list 0)
    (λ v j is_free after within edge pending. elim (cases_lt k j) [
      | inl less ↦ inl less
      | inr more ↦
          let same : j ≡ k = omega arith in
          let (number, low, is) = is_sources.complete v (get_or new.trail k 0) (rw same at edge) in
          inr (
            same,
            record {
              number = number;
              after = omega arith;
              within = low;
              is = get_or_default list number 0 v low ∙ is;
            },
          )
    ]) so_far

pub reaching_leave : {game : ParityGame} {aim : Aim} {old new : TablesData} (list : List ℕ) (k n : ℕ) →
    length list ≤ n → Reaching game aim old new (FromSource k list n) → Reaching game aim old new (From (k + 1))
reaching_leave list k n all so_far =
    reaching_map (FromSource k list n) (From (k + 1)) (λ v j is_free after within edge pending. grind arith) so_far

-- the edge that is examined comes from u, the predecessor at index n of a vertex's list of predecessors
module _ {game : ParityGame} {aim : Aim} {old mid : TablesData} (list : List ℕ) (k n : ℕ) {u : ℕ}
    (at : get_or list n 0 ≡ u) (so_far : Reaching game aim old mid (FromSource k list n)) where
  -- when the edge from the vertex u is examined, the unexamined edges from all other vertices stay unexamined
  pending_on : (v j : ℕ) → v ≢ u → FromSource k list n v j → FromSource k list (n + 1) v j
  pending_on v j differ pending = search (rules, cases_eq)

  -- examining an edge from a vertex that is already attracted, or outside the subgame, changes nothing
  look_not_free : level_of mid u ≢ aim.free → Reaching game aim old mid (FromSource k list (n + 1))
  look_not_free not_free = reaching_map (FromSource k list n) (FromSource k list (n + 1)) (λ v j is_free after within
      edge. pending_on v j (λ same. not_free (ap (λ x. level_of mid x) (sym same) ∙ is_free))) so_far

  -- examining an edge from a vertex of the other player changes nothing if the vertex has an unattracted successor
  look_escapes : owner_of game u ≢ aim.player → HasFree game aim.free mid u →
      Reaching game aim old mid (FromSource k list (n + 1))
  look_escapes others has_free = record {
    grown = so_far.grown;
    own = λ v j is_free owns after within edge. pending_on v j
        (λ same. others (ap (owner_of game) (sym same) ∙ owns)) (so_far.own v j is_free owns after within edge);
    other = λ v is_free other goes. elim (cases_eq v u) [
      | inl same ↦ record { to = has_free.to; edge = rw same has_free.edge; there = inl has_free.is_free }
      | inr differ ↦ can_map (λ j after within edge. pending_on v j differ) (so_far.other v is_free other goes)
    ];
    back = so_far.back;
  }

  -- if examining an edge appends the edge's origin to the worklist, and the origin leads to earlier vertices of the
  -- worklist (`LeadsBack`), the loop's invariant still holds
  look_places : {new : TablesData} → aim.level ≢ aim.free → aim.begin ≤ length mid.trail → k < length mid.trail →
      Places aim mid new u → LeadsBack game aim old new (length mid.trail) u →
      Reaching game aim old new (FromSource k list (n + 1))
  look_places {new = new} marks begins here places back =
      let size : length new.trail ≡ length mid.trail + 1 = trail_length places in
      let differs = λ (v : ℕ) (is_free : level_of new v ≡ aim.free). still_free places v marks is_free in
      let was_free = λ (v : ℕ) (is_free : level_of new v ≡ aim.free).
      sym (places.levels v (differs v is_free)) ∙ is_free in
      record {
        grown = grown_on places marks so_far.grown;
        own = λ v j is_free owns after within edge. elim (cases_lt j (length mid.trail)) [
          | inl less ↦ pending_on v j (differs v is_free)
              (so_far.own v j (was_free v is_free) owns after less (rw (trail_before places j less) at edge))
          | inr more ↦ inl (omega arith)
        ];
        other = λ v is_free other goes.
            let can = so_far.other v (was_free v is_free) other goes in
            record {
              to = can.to;
              edge = can.edge;
              there = elim can.there [
                | inl free ↦ elim (cases_eq can.to u) [
                  | inl same ↦ inr (record {
                    place = length mid.trail;
                    after = begins;
                    within = omega arith;
                    is = trail_last places ∙ sym same;
                    pending = inl here;
                  })
                  | inr differ ↦ inl (places.levels can.to differ ∙ free)
                ]
                | inr there ↦ inr (record {
                  place = there.place;
                  after = there.after;
                  within = omega (arith, there.within);
                  is = trail_before places there.place there.within ∙ there.is;
                  pending = pending_on v there.place (differs v is_free) there.pending;
                })
              ];
            };
        back = λ j after within. elim (cases_lt j (length mid.trail)) [
          | inl less ↦
              let placed = so_far.grown.behind j after less in
              let differ = not_it places (get_or mid.trail j 0) (λ is_free. marks (sym placed.level ∙ is_free)) in
              rw (trail_before places j less) (leads_back_on places differ (omega arith) (so_far.back j after less))
          | inr more ↦ let last : j ≡ length mid.trail = omega arith in rw (last, trail_last places) back
        ];
      }

-- a vertex that was unattracted or in the worklist before, and is not unattracted now, is in the worklist now
pub stands_now : {aim : Aim} {old new : TablesData} (w : ℕ) → aim.begin ≤ length old.trail → IsGrown aim old new →
    level_of new w ≢ aim.free → (level_of old w ≡ aim.free) ⊎ StandsFrom old aim.begin w → StandsFrom new aim.begin w
stands_now w begins grown not_free there = elim there [
  | inl free ↦ elim (grown.each w) [
    | inl same ↦ absurd (not_free (same.level ∙ free))
    | inr placed ↦ stands_after placed.stands begins
  ]
  | inr stands ↦ stands_longer grown.longer grown.front stands
]

-- the invariant of the worklist still holds after one edge is examined, in every case
pub reaching_look : {game : ParityGame} {aim : Aim} {old mid : TablesData} (new : TablesData) (list : List ℕ)
    (k n u : ℕ) → aim.level ≢ aim.free → get_or list n 0 ≡ u → aim.begin ≤ length old.trail → aim.begin ≤ k →
    k < length mid.trail → u < length mid.level → u < length mid.moves → HasEdge game u (get_or mid.trail k 0) →
    Look game aim mid new u (get_or mid.trail k 0) → Reaching game aim old mid (FromSource k list n) →
    Reaching game aim old new (FromSource k list (n + 1))
reaching_look {game = game} {aim = aim} {old = old} {mid = mid} new list k n u marks at begins after here levels choices
    edge look so_far = by_look look
  where
    levels_kept : (v : ℕ) → v ≢ u → get_or (slice_set mid.level u aim.level) v 0 ≡ level_of mid v
    levels_kept v differ = get_or-set_other mid.level u v aim.level 0 differ

    placed : (moves : List ℕ) → level_of mid u ≡ aim.free → ((v : ℕ) → v ≢ u → get_or moves v 0 ≡ get_or mid.moves v 0)
        → Places aim mid (with_placed (record { level = mid.level; moves = moves; trail = mid.trail }) u aim.level) u
    placed moves is_free kept = search (rules, get_or-set_same)

    by_look : Look game aim mid new u (get_or mid.trail k 0) → Reaching game aim old new (FromSource k list (n + 1))
    by_look (NotFree not_free same) = rw same (look_not_free list k n at so_far not_free)
    by_look (Escapes others has_free same) = rw same (look_escapes list k n at so_far others has_free)
    by_look (Own is_free owns same) =
        let w : ℕ = get_or mid.trail k 0 in
        let places = placed (slice_set mid.moves u w) is_free (λ v differ. get_or-set_other mid.moves u v w 0 differ) in
        rw same (look_places list k n at so_far marks (omega arith) here places (record {
          own = λ owns. rw (get_or-set_same mid.moves u w 0 choices) (
            edge,
            record { place = k; after = after; before = here; is = trail_before places k here },
          );
          other = λ others. absurd (others owns);
        }))
    by_look (Others is_free others none same) =
        let places = placed mid.moves is_free (λ v differ. refl) in
        rw same (look_places list k n at so_far marks (omega arith) here places (record {
          own = λ owns. absurd (others owns);
          other = λ _ x leads there.
              let stands = stands_now x begins so_far.grown (none x leads) there in
              record {
                place = stands.place;
                after = stands.after;
                before = stands.within;
                is = trail_before places stands.place stands.within ∙ stands.is;
              };
        }))
