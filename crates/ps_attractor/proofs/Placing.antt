-- One more vertex is attracted and appended to the worklist; facts about the vertices attracted before remain true.
use Rattle.std.proofs.Common.{◌≡◌, ◌≢◌, ℕ, ◌+◌, ◌<◌, ◌≤◌, [], ◌∷◌, ◌++◌, length, get_or, refl, sym, ap, rules}
use Rattle.std.proofs.Common.{◌∙◌, arith}
use Rattle.std.proofs.lemmas.Bool.{cases_eq, cases_lt}
use Rattle.std.proofs.lemmas.List.{get_or_append_left, get_or_push, length_push}
use Rattle.ps_game.specs.Games.{ParityGame}
use Rattle.ps_attractor.specs.declared.aim.Aim.{Aim}
use Rattle.ps_attractor.specs.Tables.{TablesData, level_of}
use Rattle.ps_attractor.specs.Aims.{StandsFrom, IsPlaced, IsGrown}
use Rattle.ps_attractor.specs.Steps.{IsInTrailBefore, LeadsBack}

-- the vertex u gets its new level and is appended to the worklist
pub record Places (aim : Aim) (mid new : TablesData) (u : ℕ) : Type 0 where
  pub was_free : level_of mid u ≡ aim.free
  pub level : level_of new u ≡ aim.level
  pub levels : (v : ℕ) → v ≢ u → level_of new v ≡ level_of mid v
  pub moves : (v : ℕ) → v ≢ u → get_or new.moves v 0 ≡ get_or mid.moves v 0
  pub trail : new.trail ≡ mid.trail ++ u ∷ []

-- a vertex that is in the worklist at index m or later is also at index n or later, if n is at most m
pub stands_after : {tables : TablesData} {from earlier v : ℕ} → StandsFrom tables from v → earlier ≤ from →
    StandsFrom tables earlier v
stands_after stands earlier = search rules

-- a vertex of the worklist is still in the worklist after the worklist grows
pub stands_longer : {old new : TablesData} {from v : ℕ} → length old.trail ≤ length new.trail →
    ((j : ℕ) → j < length old.trail → get_or new.trail j 0 ≡ get_or old.trail j 0) → StandsFrom old from v →
    StandsFrom new from v
stands_longer longer front stands = search rules

module _ {aim : Aim} {mid new : TablesData} {u : ℕ} (places : Places aim mid new u) where
  pub trail_before : (j : ℕ) → j < length mid.trail → get_or new.trail j 0 ≡ get_or mid.trail j 0
  trail_before j within = rw places.trail (get_or_append_left mid.trail (u ∷ []) 0 j within)

  pub trail_last : get_or new.trail (length mid.trail) 0 ≡ u
  trail_last = rw places.trail (get_or_push mid.trail u 0 (length mid.trail) refl)

  pub trail_length : length new.trail ≡ length mid.trail + 1
  trail_length = ap length places.trail ∙ length_push mid.trail u

  -- a vertex that was attracted before differs from the vertex that is attracted now
  pub not_it : (v : ℕ) → level_of mid v ≢ aim.free → v ≢ u
  not_it v not_free same = not_free (ap (λ x. level_of mid x) same ∙ places.was_free)

  -- a vertex that is still unattracted afterwards differs from the vertex that is attracted now
  pub still_free : (v : ℕ) → aim.level ≢ aim.free → level_of new v ≡ aim.free → v ≢ u
  still_free v marks is_free same = marks (sym places.level ∙ ap (λ x. level_of new x) (sym same) ∙ is_free)

  pub grown_on : {old : TablesData} → aim.level ≢ aim.free → IsGrown aim old mid → IsGrown aim old new
  grown_on {old = old} marks grown =
      search (rules, trail_length, trail_before, cases_eq, placed_new, placed_on, cases_lt, trail_last)
    where
      placed_on : {v : ℕ} → IsPlaced aim old mid v → IsPlaced aim old new v
      placed_on {v = v} placed = record {
        was_free = placed.was_free;
        level = places.levels v (not_it v (λ is_free. marks (sym placed.level ∙ is_free))) ∙ placed.level;
        stands = stands_longer (omega (arith, trail_length)) trail_before placed.stands;
      }

      placed_new : IsPlaced aim old new u
      placed_new = search (rules, trail_length, trail_last)

  stands_before_on : (j w : ℕ) → j ≤ length mid.trail → IsInTrailBefore aim mid j w → IsInTrailBefore aim new j w
  stands_before_on j w within stands = search (rules, trail_before)

  pub leads_back_on : {game : ParityGame} {old : TablesData} {j v : ℕ} → v ≢ u → j ≤ length mid.trail →
      LeadsBack game aim old mid j v → LeadsBack game aim old new j v
  leads_back_on {j = j} {v = v} differ within leads = search (rules, stands_before_on)
