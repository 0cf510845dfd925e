-- Examining one edge does not change the sum of the number of unattracted vertices and the length of the worklist.
use Rattle.std.proofs.Common.{◌≡◌, ◌≢◌, ℕ, ◌+◌, ◌<◌, ◌≤◌, cond, eqb, List, [], ◌∷◌, ◌++◌, length, rules, get_or, arith}
use Rattle.std.specs.Prelude.{slice_set}
use Rattle.std.proofs.lemmas.Bool.{eq-eqb, ne_eqb}
use Rattle.std.proofs.lemmas.List.{length_push, get_or_append_left}
use Rattle.std.proofs.lemmas.List.Sums.{sum_by-set}
use Rattle.ps_game.specs.Games.{ParityGame}
use Rattle.ps_attractor.specs.declared.aim.Aim.{Aim}
use Rattle.ps_attractor.specs.Tables.{TablesData, level_of}
use Rattle.ps_attractor.specs.Steps.{Look, NotFree, Escapes, Own, Others, free_count}

-- the worklist grows by one entry for each vertex that becomes attracted, and its earlier entries are unchanged
pub record Keeps (aim : Aim) (old new : TablesData) : Type 0 where
  pub frees : free_count aim new + length new.trail ≡ free_count aim old + length old.trail
  pub longer : length old.trail ≤ length new.trail
  pub front : (j : ℕ) → j < length old.trail → get_or new.trail j 0 ≡ get_or old.trail j 0

-- 1 for the level `aim.free` of unattracted vertices, and 0 for every other level
abbrev weight : ℕ → ℕ → ℕ
weight free level = cond (eqb level free) 1 0

keeps_placed : (aim : Aim) (old : TablesData) (moves : List ℕ) (u : ℕ) → aim.level ≢ aim.free → u < length old.level →
    level_of old u ≡ aim.free → Keeps aim old (record {
      level = slice_set old.level u aim.level;
      moves = moves;
      trail = old.trail ++ u ∷ [];
    })
keeps_placed aim old moves u marks within is_free =
    search (rules, eq-eqb, ne_eqb, sum_by-set, length_push, get_or_append_left)

pub keeps_look : {game : ParityGame} {aim : Aim} {old new : TablesData} {u w : ℕ} → aim.level ≢ aim.free →
    u < length old.level → Look game aim old new u w → Keeps aim old new
keeps_look marks within (NotFree not_free same) = rw same (grind arith)
keeps_look marks within (Escapes others has_free same) = rw same (grind arith)
keeps_look {aim = aim} {old = old} {u = u} {w = w} marks within (Own is_free owns same) =
    rw same (keeps_placed aim old (slice_set old.moves u w) u marks within is_free)
keeps_look {aim = aim} {old = old} {u = u} marks within (Others is_free others none same) =
    rw same (keeps_placed aim old old.moves u marks within is_free)
