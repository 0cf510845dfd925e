use Rattle.std.proofs.Common.{◌↔◌, List, ℕ, subst}
use Rattle.std.specs.Prelude.{Contains, IsTrue}
use Rattle.ps_formula.specs.NormalForms.{normal_formula_at}
use Rattle.ps_tableau.proofs.CoversOfSets.JoinLemmas.{in_map}
use Rattle.ps_tableau.proofs.CoversOfSets.WayLemmas.{formula_in}
use Rattle.ps_tableau.specs.Boards.{IsBoard}
use Rattle.ps_tableau.specs.Sets.{indices_in}
use Rattle.ps_tableau.specs.declared.board.Board.{Board}
use Rattle.ps_tableau.proofs.tableau.Tableau.postpones.Goals as goal

pub returns : goal.returns
returns c =
    let b = c.args.self.now in
    let set = c.args.edge.postponed in
    let until = c.args.until in
    let board : IsBoard b = subst IsBoard c.self.view_is c.parts_fit.ensures in
    let there : (IsTrue c.contains.result) ↔ Contains (indices_in b.sets set) until =
    subst (λ (a : Board). (IsTrue c.contains.result) ↔ Contains (indices_in a.sets set) until) c.self.view_is
    (subst (λ (sets : List (ℕ × ℕ)). (IsTrue c.contains.result) ↔ Contains (indices_in sets set) until)
    c.sets.ensures c.contains.ensures) in (
      λ yes. in_map (normal_formula_at b.formulas) (indices_in b.sets set) until (there.0 yes),
      λ has. there.1 (formula_in b board set until c.requires.edge.postponed c.requires.until has),
    )
