use Rattle.std.proofs.Common.{List, subst}
use Rattle.std.proofs.lemmas.List.Elements.{All-same}
use Rattle.ps_tableau.proofs.BoardLemmas.{gives_on}
use Rattle.ps_tableau.specs.Boards.{IsEdgeOf, covers_of}
use Rattle.ps_tableau.specs.Operators.{ArePruned}
use Rattle.ps_tableau.specs.declared.edge.Edge.{Edge}
use Rattle.ps_tableau.proofs.joins.joined.Goals as goal

pub pruned-requires : goal.pruned-requires
pruned-requires c = All-same (IsEdgeOf c.products.new.board) _ c.in_ok-products.products.items c.deref.ensures.value
    c.in_ok-products.ensures.made.held

pub returns : goal.returns
returns c = gives_on c.pruned.result c.products.ensures.grows c.pruned.ensures (λ out made. record {
  held = made.held;
  right = record {
    products = covers_of c.products.new.board c.in_ok-products.products.items;
    each = c.in_ok-products.ensures.made.right;
    pruned = subst (λ (es : List Edge).
        ArePruned (covers_of c.products.new.board es) (covers_of c.pruned.new.board out.items)) c.deref.ensures.value
        made.right;
  };
})
