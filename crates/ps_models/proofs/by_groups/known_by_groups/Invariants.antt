use Rattle.ps_models.specs.Inner.Claims.{IsKept}
use Rattle.ps_models.specs.Inner.Grouping.{AreKnown}
use Rattle.ps_models.proofs.by_groups.known_by_groups.Given as goal

abbrev pub invariant-loop-group : goal.invariant-loop-group
invariant-loop-group l = record {
  kept : IsKept l.fn.parting l.parting;
  known : AreKnown l.trial l.parting l.known.items;
}
