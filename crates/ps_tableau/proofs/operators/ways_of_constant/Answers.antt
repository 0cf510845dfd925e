use Rattle.std.proofs.Common.{◌≡◌, ◌∷◌, Bool, false, true, List, [], subst, sym}
use Rattle.std.proofs.lemmas.List.Elements.{All-nil}
use Rattle.ps_formula.specs.NormalForms.{truth}
use Rattle.ps_tableau.proofs.BoardLemmas.{gives_last, grows_refl}
use Rattle.ps_tableau.proofs.CoversOfSets.CoverRows.{one_edge}
use Rattle.ps_tableau.proofs.CoversOfSets.Ways.{of_false, of_true}
use Rattle.ps_tableau.specs.Boards.{HasCovers, IsEdgeOf}
use Rattle.ps_tableau.specs.Covers.{AreCoversOf}
use Rattle.ps_tableau.specs.declared.edge.Edge.{Edge}
use Rattle.ps_tableau.proofs.operators.ways_of_constant.Goals as goal

pub returns-then-not-value : goal.returns-then-not-value
returns-then-not-value c =
    let b = c.args.board.now in
    let no : c.args.value ≡ false = c.if-not-value.true in
    record {
      grows = grows_refl b c.parts_fit.ensures.sets;
      made = subst (λ (es : List Edge). HasCovers b (truth c.args.value ∷ []) es) (sym c.new.ensures.items)
          (subst (λ (v : Bool). HasCovers b (truth v ∷ []) []) (sym no)
          (record { held = All-nil (IsEdgeOf b); right = of_false }));
    }

pub returns : goal.returns
returns c = gives_last c.appended.result c.free.ensures.grows c.appended.ensures (λ out is.
    let b = c.free.new.board in
    let yes : c.args.value ≡ true = c.if-not-value.false in
    subst (λ (es : List Edge). HasCovers b (truth c.args.value ∷ []) es) (sym is)
    (subst (λ (v : Bool). HasCovers b (truth v ∷ []) (c.in_ok-edge.edge ∷ [])) (sym yes)
    (one_edge (AreCoversOf (truth true ∷ [])) c.in_ok-edge.ensures.made of_true)))
