use Rattle.std.proofs.Common.{◌∷◌, [], Vec, ap, map, sym, ◌∙◌}
use Rattle.std.specs.Global.{Global}
use Rattle.ps_tableau.specs.declared.board.Board.{Board}
use Rattle.ps_tableau_product.specs.declared.graph.Passage.{Passage}
use Rattle.ps_tableau_product.proofs.exploring.Draft.new.Goals as goal

pub returns-clause-blank : goal.returns-clause-blank
returns-clause-blank c =
    let states = c.in_ok-states.ensures in
    record {
      states = states.states;
      sets = states.sets ∙ ap (λ (b : Board). b.initial ∷ []) (sym states.tableau);
      vertices = c.new-2.ensures;
      rows = ap (map (λ (row : Vec Passage Global). row.items)) c.new-3.ensures.items;
    }
