use Rattle.std.proofs.Common.{◌≡◌, List, Some, Vec, arith, get_or, subst, sym, ℕ}
use Rattle.std.specs.Global.{Global}
use Rattle.std.specs.List.{slice_get}
use Rattle.std.proofs.lemmas.List.{length-map}
use Rattle.std.proofs.lemmas.Option.{slice_get-get_or}
use Rattle.ps_tableau.specs.declared.edge.Edge.{Edge}
use Rattle.ps_tableau_product.specs.Inner.Joining.{pairing_of}
use Rattle.ps_tableau_product.proofs.FairProducts.Drafts.{goes_on}
use Rattle.ps_tableau_product.proofs.JointProducts.JointDrafts.{pair_steady}
use Rattle.ps_tableau_product.proofs.joining.JointDraft.reach.Goals as goal

pub returns-clause-goes_on : goal.returns-clause-goes_on
returns-clause-goes_on c =
    goes_on (pair_steady (pairing_of c.args.plan)) c.requires.explored c.in_ok-reach.ensures.more

pub returns-clause-visit : goal.returns-clause-visit
returns-clause-visit c =
    let vertices = c.args.self.now.vertices in
    let vertex = c.args.vertex in
    record {
      there = subst (λ (l : List (ℕ × ℕ)). slice_get vertices vertex ≡ Some (get_or l vertex (0, 0)))
          (sym c.as_slice.ensures) (slice_get-get_or vertices vertex (0, 0) c.requires.vertex);
      covers = omega (
        arith,
        c.in_ok-reach.ensures.reached,
        length-map c.reach.new.self.edges.items (λ (row : Vec Edge Global). row.items),
      );
    }
