use Rattle.std.proofs.Common.{List, [], ◌∷◌, subst}
use Rattle.ps_formula.specs.NormalForms.{normal_formula_at}
use Rattle.ps_tableau.proofs.BoardLemmas.{gives_on}
use Rattle.ps_tableau.proofs.CoversOfSets.Ways.{pruned_covers}
use Rattle.ps_tableau.specs.Boards.{covers_of}
use Rattle.ps_tableau.specs.Operators.{ArePruned}
use Rattle.ps_tableau.specs.declared.edge.Edge.{Edge}
use Rattle.ps_tableau.proofs.operators.next_ways.Goals as goal

pub returns : goal.returns
returns c = gives_on c.reduced.result c.ways_of.ensures.grows c.reduced.ensures (λ out made needed.
    let mid = c.ways_of.new.board in
    record {
      held = made.held;
      right = pruned_covers (normal_formula_at c.args.board.now.formulas c.args.index ∷ [])
          (covers_of mid c.in_ok-covers.covers.items) (covers_of c.reduced.new.board out.items)
          c.in_ok-covers.ensures.made.right
          (subst (λ (es : List Edge). ArePruned (covers_of mid es) (covers_of c.reduced.new.board out.items))
          c.deref.ensures.value made.right);
    })
