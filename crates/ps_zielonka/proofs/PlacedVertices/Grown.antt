-- If the attractor's tables grow in two steps, the change from the first tables to the last ones is also one step of
-- growth. A vertex that is placed in either of the two steps is also placed in the combined step.
use Rattle.std.proofs.Common.{◌≢◌, ℕ, rules}
use Rattle.std.proofs.lemmas.Bool.{cases_lt}
use Rattle.ps_attractor.specs.declared.aim.Aim.{Aim}
use Rattle.ps_attractor.specs.Tables.{TablesData}
use Rattle.ps_attractor.specs.Aims.{IsPlaced, IsGrown}
use Rattle.ps_attractor.proofs.Placing.{stands_after, stands_longer}

-- ## Vertices that are placed in one of two steps

pub later_placed : {aim : Aim} {old mid new : TablesData} {v : ℕ} → aim.level ≢ aim.free → IsGrown aim mid new →
    IsPlaced aim old mid v → IsPlaced aim old new v
later_placed {v = v} differ grown placed = search (rules, stands_longer)

sooner_placed : {aim : Aim} {old mid new : TablesData} {v : ℕ} → aim.level ≢ aim.free → IsGrown aim old mid →
    IsPlaced aim mid new v → IsPlaced aim old new v
sooner_placed {v = v} differ grown placed = search (rules, stands_after)

pub IsGrown-both : {aim : Aim} {old mid new : TablesData} → aim.level ≢ aim.free → IsGrown aim old mid →
    IsGrown aim mid new → IsGrown aim old new
IsGrown-both {aim} {old} {mid} {new} differ first second = search (rules, later_placed, sooner_placed, cases_lt)
