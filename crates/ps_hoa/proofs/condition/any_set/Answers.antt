use Rattle.std.proofs.Common.{rules, arith}
use Rattle.std.proofs.lemmas.Bool.{iff_false}
use Rattle.ps_hoa.proofs.Reading.LeafReading.{complement_meets, set_serves}
use Rattle.ps_hoa.proofs.Reading.HoaExits.{serves_meets}
use Rattle.ps_hoa.proofs.condition.any_set.Goals as goal

pub returns-then-is_at : goal.returns-then-is_at
returns-then-is_at c = grind (arith, complement_meets)

pub returns : goal.returns
returns c = search (rules, serves_meets, set_serves, iff_false)
