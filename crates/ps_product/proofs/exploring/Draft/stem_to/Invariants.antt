use Rattle.std.proofs.Common.{◌≡◌, Some}
use Rattle.std.specs.List.{slice_get}
use Rattle.ps_product.specs.Inner.Plans.{setting_of}
use Rattle.ps_product.specs.Products.{ProductVertex}
use Rattle.ps_product.proofs.ExploredProducts.NotedLeads.{HasWay}
use Rattle.ps_product.proofs.exploring.Draft.stem_to.Given as goal

abbrev pub invariant-loop-place : goal.invariant-loop-place
invariant-loop-place l = (last : ProductVertex) → slice_get l.self.vertices l.vertex ≡ Some last →
    HasWay (setting_of l.plan) l.self.vertices l.place l.stem.items last

abbrev pub decreases-loop-place : goal.decreases-loop-place
decreases-loop-place l = l.place
