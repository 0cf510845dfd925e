use Rattle.std.proofs.Common.{◌≡◌, ◌∙◌, ℕ, [], ◌∷◌, None, Option, subst, sym}
use Rattle.std.proofs.lemmas.Bool.{eqb-true, false≢true}
use Rattle.std.proofs.lemmas.List.{append-nil}
use Rattle.std.proofs.lemmas.List.Elements.{All-cons, All-nil}
use Rattle.std.specs.Prelude.{IsTrue, is_some}
use Rattle.ps_diagram.specs.Table.{leaf_of}
use Rattle.ps_tableau.proofs.BoardLemmas.{cover_kept, edge_kept}
use Rattle.ps_tableau.proofs.CoversOfSets.Products.{pruned_refl}
use Rattle.ps_tableau.proofs.CoversOfSets.PruneLemmas.{pruned_none}
use Rattle.ps_tableau.proofs.CoversOfSets.CoverRows.{kept_leaf}
use Rattle.ps_tableau.specs.Boards.{IsEdgeOf, cover_of}
use Rattle.ps_tableau.specs.Covers.{Cover}
use Rattle.ps_tableau.specs.Operators.{ArePruned}
use Rattle.ps_tableau.proofs.pruning.add_edge.Goals as goal

pub returns-then-eq : goal.returns-then-eq
returns-then-eq c =
    let b = c.args.board.now in
    let s = b.guards in
    let t = c.no_letter.new.self.guards in
    let guard = c.args.edge.guard in
    let none = c.in_ok-none.none in
    let grows = c.no_letter.ensures.grows in
    let same : guard ≡ none = eqb-true guard none (sym c.eq.ensures ∙ c.if-eq.true) in
    let nothing : (letter : ℕ) → leaf_of s guard letter ≡ None = λ letter.
    sym (kept_leaf s t guard letter grows.guards c.requires.guard)
    ∙ subst (λ n. leaf_of t n letter ≡ None) (sym same) (c.in_ok-none.ensures.node.leaf letter) in
    record {
      grows = grows;
      made = record {
        added = [];
        is = sym (append-nil c.args.kept.now.items);
        held = All-nil (IsEdgeOf _);
        pruned = pruned_none (cover_of b c.args.edge) (λ letter serves.
            false≢true (subst (λ (l : Option ℕ). IsTrue (is_some l)) (nothing letter) serves));
      };
    }

pub returns : goal.returns
returns c =
    let b = c.args.board.now in
    let edge = c.args.edge in
    let grows = c.no_letter.ensures.grows in
    record {
      grows = grows;
      made = record {
        added = edge ∷ [];
        is = c.in_ok-push.ensures.items;
        held = All-cons (IsEdgeOf _) edge [] (edge_kept grows c.requires) (All-nil (IsEdgeOf _));
        pruned = subst (λ (d : Cover). ArePruned (cover_of b edge ∷ []) (d ∷ [])) (sym (cover_kept grows c.requires))
            (pruned_refl (cover_of b edge ∷ []));
      };
    }
