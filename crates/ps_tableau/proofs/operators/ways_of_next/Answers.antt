use Rattle.std.proofs.Common.{◌∷◌, List, [], subst, sym}
use Rattle.ps_formula.specs.NormalForms.{after, normal_formula_at}
use Rattle.ps_tableau.proofs.BoardLemmas.{gives_last}
use Rattle.ps_tableau.proofs.CoversOfSets.CoverRows.{one_edge}
use Rattle.ps_tableau.proofs.CoversOfSets.Ways.{of_next}
use Rattle.ps_tableau.specs.Boards.{HasCovers}
use Rattle.ps_tableau.specs.Covers.{AreCoversOf}
use Rattle.ps_tableau.specs.declared.edge.Edge.{Edge}
use Rattle.ps_tableau.proofs.operators.ways_of_next.Goals as goal

pub returns : goal.returns
returns c = gives_last c.appended.result c.next.ensures.grows c.appended.ensures (λ out is.
    let f = normal_formula_at c.args.board.now.formulas c.args.f in
    subst (λ (es : List Edge). HasCovers c.next.new.board (after f ∷ []) es) (sym is)
    (one_edge (AreCoversOf (after f ∷ [])) c.in_ok-edge.ensures.made (of_next f)))
