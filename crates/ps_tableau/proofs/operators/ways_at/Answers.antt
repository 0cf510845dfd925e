use Rattle.std.proofs.Common.{List, ◌∷◌, [], sym, subst}
use Rattle.ps_formula.specs.NormalForms.{normal_formula_at}
use Rattle.ps_tableau.proofs.CoversOfSets.WayLemmas.{ways_there}
use Rattle.ps_tableau.specs.Boards.{HasCovers}
use Rattle.ps_tableau.specs.declared.edge.Edge.{Edge}
use Rattle.ps_tableau.proofs.operators.ways_at.Goals as goal

pub returns : goal.returns
returns c =
    let b = c.args.board.now in
    subst (λ (es : List Edge). HasCovers b (normal_formula_at b.formulas c.args.index ∷ []) es)
    (sym c.deref.ensures.value) (ways_there c.args.known.now c.args.index c.index-known-index.result c.requires.known
    c.requires.within c.requires.needed c.index-known-index.is)
