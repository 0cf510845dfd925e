use Rattle.std.proofs.Common.{List, arith, subst}
use Rattle.ps_tableau.proofs.BoardLemmas.{gives_on}
use Rattle.ps_tableau.proofs.CoversOfSets.OperatorLemmas.{covers_of_all}
use Rattle.ps_tableau.proofs.CoversOfSets.WayLemmas.{needed_within}
use Rattle.ps_tableau.specs.Boards.{covers_of}
use Rattle.ps_tableau.specs.Operators.{ArePruned}
use Rattle.ps_tableau.specs.declared.edge.Edge.{Edge}
use Rattle.ps_tableau.proofs.states.joined_with.Goals as goal

pub ways_at-first-requires-clause-within : goal.ways_at-first-requires-clause-within
ways_at-first-requires-clause-within c =
    let low = needed_within c.args.board.now.needed.items c.args.index c.requires.needed in
    omega (arith, low, c.requires.right.count, c.parts_fit.ensures.needs.few)

pub returns : goal.returns
returns c = gives_on c.reduced.result c.products.ensures.grows c.reduced.ensures (λ out made. record {
  held = made.held;
  right = λ others covers. covers_of_all c.ways_at-first.ensures.right covers (record {
    products = covers_of c.products.new.board c.in_ok-products.products.items;
    each = c.in_ok-products.ensures.made.right;
    pruned = subst (λ (es : List Edge).
        ArePruned (covers_of c.products.new.board es) (covers_of c.reduced.new.board out.items)) c.deref.ensures.value
        made.right;
  });
})
