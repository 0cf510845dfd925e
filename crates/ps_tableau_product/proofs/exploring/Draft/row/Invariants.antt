use Rattle.ps_tableau_product.specs.Inner.Exploring.{IsMadeUpTo, IsVisited, draft_data}
use Rattle.ps_tableau_product.specs.Plans.{scene_of}
use Rattle.ps_tableau_product.proofs.exploring.Draft.row.Given as goal

abbrev pub invariant-loop-k : goal.invariant-loop-k
invariant-loop-k l = record {
  made : IsMadeUpTo (scene_of l.plan) (draft_data l.fn.self) (draft_data l.self) l.vertex l.row.items l.k;
  visited : IsVisited (scene_of l.plan) (draft_data l.self) l.vertex l.view;
}
