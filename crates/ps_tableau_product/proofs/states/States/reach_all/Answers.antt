use Rattle.std.proofs.Common.{List, Vec, ap, arith, length, ℕ}
use Rattle.std.specs.Global.{Global}
use Rattle.std.proofs.lemmas.List.{length-map}
use Rattle.ps_tableau.specs.declared.edge.Edge.{Edge}
use Rattle.ps_tableau_product.proofs.FairProducts.AddLemmas.{on_ok_two}
use Rattle.ps_tableau_product.proofs.states.States.reach_all.Goals as goal

pub returns : goal.returns
returns c = on_ok_two c.reach.result c.reach.ensures.more c.reach.ensures.reached (λ more reached. record {
  more = more;
  all = omega (
    arith,
    reached,
    ap (λ (l : List ℕ). length l) more.same,
    c.len-count.ensures.value,
    length-map c.reach.new.self.edges.items (λ (row : Vec Edge Global). row.items),
  );
})
