use Rattle.std.proofs.Common.{rules}
use Rattle.std.proofs.lemmas.List.{length-map, map-append}
use Rattle.ps_pgsolver.proofs.ReadGames.KeptLemmas.{none_kept}
use Rattle.ps_pgsolver.proofs.node.make_room.Goals as goal

pub pad-preserved : goal.pad-preserved
pad-preserved c = search (rules, map-append, none_kept, length-map)
