use Rattle.std.proofs.Common.{◌≡◌, ◌∙◌, ◌∷◌, [], List, ap, map, true}
use Rattle.ps_formula.specs.NormalForms.{NormalFormula, normal_formula_at}
use Rattle.ps_formula.specs.declared.normal_node.NormalNode.{NormalNode}
use Rattle.ps_tableau.proofs.BoardLemmas.{gives_on, made_of, single_set}
use Rattle.ps_tableau.specs.Boards.{formulas_in}
use Rattle.ps_tableau.proofs.single.postponing.Goals as goal

pub everywhere-requires-clause-next : goal.everywhere-requires-clause-next
everywhere-requires-clause-next c =
    single_set c.args.index c.in_ok-next.ensures.made (rw c.set_with.ensures.grows.needed c.requires.index)

pub everywhere-requires-clause-postponed : goal.everywhere-requires-clause-postponed
everywhere-requires-clause-postponed c =
    single_set c.args.index c.in_ok-next.ensures.made (rw c.set_with.ensures.grows.untils c.requires.until)

pub returns : goal.returns
returns c =
    let mid = c.set_with.new.self in
    let grows = c.set_with.ensures.grows in
    let index = c.args.index in
    let one : formulas_in mid c.in_ok-next.next ≡ normal_formula_at c.args.board.now.formulas index ∷ [] =
    ap (map (normal_formula_at mid.formulas)) c.in_ok-next.ensures.made.right
    ∙ ap (λ (nodes : List NormalNode). normal_formula_at nodes index ∷ []) grows.formulas in
    gives_on c.everywhere.result grows c.everywhere.ensures (λ edge made. record {
      held = made.held;
      is = made.is ∙ ap (λ (fs : List NormalFormula). made_of (λ _. true) fs fs) one;
    })
