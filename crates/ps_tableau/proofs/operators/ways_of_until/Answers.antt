use Rattle.std.proofs.Common.{◌≡◌, ◌∙◌, ◌++◌, ◌∷◌, List, [], ap, subst, sym}
use Rattle.std.proofs.lemmas.List.Elements.{All-cons, All-nil, All-same}
use Rattle.ps_formula.specs.NormalForms.{NormalFormula, reaches}
use Rattle.ps_tableau.proofs.BoardLemmas.{covers_kept, gives_on, grows_trans}
use Rattle.ps_tableau.proofs.CoversOfSets.OperatorLemmas.{covers_of_until}
use Rattle.ps_tableau.proofs.CoversOfSets.CoverRows.{edges_kept}
use Rattle.ps_tableau.specs.Boards.{IsEdgeOf, cover_of, covers_of}
use Rattle.ps_tableau.specs.Inner.Joins.{AreJoined}
use Rattle.ps_tableau.specs.Covers.{AreCoversOf, Cover}
use Rattle.ps_tableau.specs.Operators.{ArePruned, postponing_cover}
use Rattle.ps_tableau.specs.declared.edge.Edge.{Edge}
use Rattle.ps_tableau.proofs.operators.ways_of_until.Goals as goal

pub joined-requires : goal.joined-requires
joined-requires c =
    let P = IsEdgeOf c.postponing.new.board in
    record {
      first = edges_kept c.postponing.ensures.grows c.args.first.now c.requires.operands.first;
      second = All-cons P c.in_ok-edge.edge [] c.in_ok-edge.ensures.made.held (All-nil P);
    }

pub either-requires : goal.either-requires
either-requires c =
    let grows = grows_trans c.postponing.ensures.grows c.joined.ensures.grows in
    record {
      first = edges_kept grows c.args.second.now c.requires.operands.second;
      second = All-same (IsEdgeOf c.joined.new.board) _ c.in_ok-later.later.items c.deref.ensures.value
          c.in_ok-later.ensures.made.held;
    }

pub returns : goal.returns
returns c =
    let b = c.postponing.new.board in
    let d = c.joined.new.board in
    let later = c.in_ok-later.later.items in
    let once = c.postponing.ensures.grows in
    let twice = grows_trans once c.joined.ensures.grows in
    gives_on c.either.result twice c.either.ensures (λ out made. record {
      held = made.held;
      right = λ f g is first second.
          let u = reaches f g in
          let one : cover_of b c.in_ok-edge.edge ≡ postponing_cover u =
          c.in_ok-edge.ensures.made.is ∙ ap (λ (h : NormalFormula). postponing_cover h) is in
          let joined : AreJoined (covers_of b c.args.first.now) (postponing_cover u ∷ []) (covers_of d later) =
          subst (λ (x : Cover). AreJoined (covers_of b c.args.first.now) (x ∷ []) (covers_of d later)) one
          c.in_ok-later.ensures.made.right in
          covers_of_until
          (subst (AreCoversOf (f ∷ [])) (sym (covers_kept once c.args.first.now c.requires.operands.first)) first)
          (subst (AreCoversOf (g ∷ [])) (sym (covers_kept twice c.args.second.now c.requires.operands.second)) second)
          joined (subst (λ (es : List Edge).
          ArePruned (covers_of d c.args.second.now ++ covers_of d es) (covers_of c.either.new.board out.items))
          c.deref.ensures.value made.right);
    })
