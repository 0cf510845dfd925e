use Rattle.std.proofs.Common.{rules}
use Rattle.std.proofs.lemmas.List.{map-set}
use Rattle.ps_measure.proofs.packed.Packed.set.Goals as goal

pub returns-in-Some-clause-ok : goal.returns-in-Some-clause-ok
returns-in-Some-clause-ok g c = search (rules, map-set)
