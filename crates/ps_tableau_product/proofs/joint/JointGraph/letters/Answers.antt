use Rattle.std.proofs.Common.{◌≡◌, ◌∷◌, ◌++◌, [], List, ap, get_or, map, sym, take, ◌∙◌, ℕ}
use Rattle.std.proofs.lemmas.List.{map-append, take_more}
use Rattle.std.proofs.lemmas.Option.{get_or_from_slice_get}
use Rattle.ps_fairness.specs.declared.edge.Edge.{Edge}
use Rattle.ps_tableau_product.specs.JointGraphs.{joint_row, letter_along, no_joint}
use Rattle.ps_tableau_product.specs.declared.joint.JointEdge.{JointEdge}
use Rattle.ps_tableau_product.proofs.joint.JointGraph.letters.Goals as goal

pub loop-edge-preserved : goal.loop-edge-preserved
loop-edge-preserved c =
    let g = c.args.self.now in
    let i = c.loop-edge.edge-index in
    let d : Edge = record { vertex = 0; slot = 0 } in
    let e = get_or c.args.walk.now i d in
    let letter : letter_along g e ≡ c.edge.result.letter =
    ap (λ (x : JointEdge). x.letter)
    (get_or_from_slice_get (joint_row g.rows e.vertex) e.slot c.edge.result no_joint c.edge.ensures) in
    c.in_ok-push.ensures.items ∙ ap (λ (l : List ℕ). l ++ c.edge.result.letter ∷ []) c.loop-edge.invariant
    ∙ ap (λ (n : ℕ). map (letter_along g) (take i c.args.walk.now) ++ n ∷ []) (sym letter)
    ∙ sym (ap (map (letter_along g)) (take_more c.args.walk.now i d c.loop-edge-test.true)
    ∙ map-append (letter_along g) (take i c.args.walk.now) (e ∷ []))
