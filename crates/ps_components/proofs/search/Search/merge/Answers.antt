use Rattle.std.proofs.Common.{refl, rules}
use Rattle.ps_components.proofs.Merging.{sound-merged}
use Rattle.ps_components.specs.Searching.{active}
use Rattle.ps_components.proofs.search.Search.merge.Goals as goal

pub returns : goal.returns
returns g c = record {
  sound = search (rules, sound-merged);
  settled = active c.args.place c.requires.marked (λ k b h le. c.cut.ensures.below k b h);
  statuses = refl;
  shorter = c.cut.ensures.shorter;
  pending = refl;
}
