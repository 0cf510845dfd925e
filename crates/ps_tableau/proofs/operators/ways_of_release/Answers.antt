use Rattle.std.proofs.Common.{◌≡◌, ◌∙◌, ◌++◌, ◌∷◌, List, [], ap, subst, sym}
use Rattle.std.proofs.lemmas.List.{map-append}
use Rattle.std.proofs.lemmas.List.Elements.{All-push, All-same}
use Rattle.ps_formula.specs.NormalForms.{NormalFormula, keeps}
use Rattle.ps_tableau.proofs.BoardLemmas.{covers_kept, gives_on}
use Rattle.ps_tableau.proofs.CoversOfSets.OperatorLemmas.{covers_of_release}
use Rattle.ps_tableau.proofs.CoversOfSets.CoverRows.{edges_kept}
use Rattle.ps_tableau.specs.Boards.{IsEdgeOf, cover_of, covers_of}
use Rattle.ps_tableau.specs.Inner.Joins.{AreJoined}
use Rattle.ps_tableau.specs.Covers.{AreCoversOf, Cover}
use Rattle.ps_tableau.specs.Operators.{next_cover}
use Rattle.ps_tableau.proofs.operators.ways_of_release.Goals as goal

pub joined-requires : goal.joined-requires
joined-requires c =
    let P = IsEdgeOf c.next.new.board in
    let first = c.args.first.now in
    let edge = c.in_ok-edge.edge in
    record {
      first = edges_kept c.next.ensures.grows c.args.second.now c.requires.operands.second;
      second = All-same P _ (first ++ edge ∷ []) (c.deref.ensures.value ∙ c.in_ok-either.ensures)
          (All-push P first edge (edges_kept c.next.ensures.grows first c.requires.operands.first)
          c.in_ok-edge.ensures.made.held);
    }

pub returns : goal.returns
returns c =
    let b = c.next.new.board in
    let xs = c.args.first.now in
    let edge = c.in_ok-edge.edge in
    let grows = c.next.ensures.grows in
    gives_on c.joined.result grows c.joined.ensures (λ out made. record {
      held = made.held;
      right = λ f g is first second.
          let one : cover_of b edge ≡ next_cover (keeps f g) =
          c.in_ok-edge.ensures.made.is ∙ ap (λ (h : NormalFormula). next_cover h) is in
          let whole : covers_of b c.deref.result.now ≡ covers_of b xs ++ next_cover (keeps f g) ∷ [] =
          ap (covers_of b) (c.deref.ensures.value ∙ c.in_ok-either.ensures) ∙ map-append (cover_of b) xs (edge ∷ [])
          ∙ ap (λ (d : Cover). covers_of b xs ++ d ∷ []) one in
          covers_of_release (subst (AreCoversOf (f ∷ [])) (sym (covers_kept grows xs c.requires.operands.first)) first)
          (subst (AreCoversOf (g ∷ [])) (sym (covers_kept grows c.args.second.now c.requires.operands.second)) second)
          (subst (λ (cs : List Cover). AreJoined (covers_of b c.args.second.now) cs
          (covers_of c.joined.new.board out.items)) whole made.right);
    })
