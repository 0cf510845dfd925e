use Rattle.std.proofs.Common.{◌∷◌, List, [], subst, sym}
use Rattle.ps_formula.specs.NormalForms.{literal}
use Rattle.ps_tableau.proofs.BoardLemmas.{gives_last}
use Rattle.ps_tableau.proofs.CoversOfSets.CoverRows.{one_edge}
use Rattle.ps_tableau.proofs.CoversOfSets.Ways.{of_literal}
use Rattle.ps_tableau.specs.Boards.{HasCovers}
use Rattle.ps_tableau.specs.Covers.{AreCoversOf}
use Rattle.ps_tableau.specs.declared.edge.Edge.{Edge}
use Rattle.ps_tableau.proofs.operators.ways_of_literal.Goals as goal

pub returns : goal.returns
returns c = gives_last c.appended.result c.literal.ensures.grows c.appended.ensures (λ out is.
    let f = literal c.args.negated c.args.p in
    subst (λ (es : List Edge). HasCovers c.literal.new.board (f ∷ []) es) (sym is)
    (one_edge (AreCoversOf (f ∷ [])) c.in_ok-edge.ensures.made (of_literal c.args.negated c.args.p)))
