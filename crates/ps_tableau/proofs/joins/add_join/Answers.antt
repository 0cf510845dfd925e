use Rattle.std.proofs.Common.{◌≡◌, ◌∙◌, [], ◌∷◌, None, ap, sym, subst}
use Rattle.std.proofs.lemmas.Bool.{eqb-true}
use Rattle.std.proofs.lemmas.List.{append-nil}
use Rattle.std.proofs.lemmas.List.Elements.{All-cons, All-nil}
use Rattle.std.specs.Prelude.{is_some}
use Rattle.ps_diagram.specs.Table.{leaf_of}
use Rattle.ps_tableau.proofs.BoardLemmas.{edge_kept, fails, formulas_kept, grows_trans}
use Rattle.ps_tableau.proofs.CoversOfSets.JoinLemmas.{none_both, some_both}
use Rattle.ps_tableau.proofs.CoversOfSets.Products.{no_join, one_join}
use Rattle.ps_tableau.proofs.CoversOfSets.CoverRows.{guard_both, kept_leaf}
use Rattle.ps_tableau.specs.Boards.{IsEdgeOf}
use Rattle.ps_tableau.proofs.joins.add_join.Goals as goal

pub choose-requires-clause-guard : goal.choose-requires-clause-guard
choose-requires-clause-guard c = c.no_letter.ensures.grows.guards.held c.args.a.guard c.requires.first.guard

pub choose-requires-clause-one : goal.choose-requires-clause-one
choose-requires-clause-one c = c.no_letter.ensures.grows.guards.held c.args.b.guard c.requires.second.guard

pub join_with-requires-clause-both : goal.join_with-requires-clause-both
join_with-requires-clause-both c =
    let grows = grows_trans c.no_letter.ensures.grows c.choose.ensures.grows in
    record { first = edge_kept grows c.requires.first; second = edge_kept grows c.requires.second }

pub returns-in_err-guard : goal.returns-in_err-guard
returns-in_err-guard c =
    fails _ c.from_residual-in_err-guard.result (grows_trans c.no_letter.ensures.grows c.choose.ensures.grows)
    c.from_residual-in_err-guard.ensures.1

pub returns-in_err-edge : goal.returns-in_err-edge
returns-in_err-edge c =
    fails _ c.from_residual-in_err-edge.result (grows_trans (grows_trans c.no_letter.ensures.grows
    c.choose.ensures.grows) c.join_with.ensures.grows) c.from_residual-in_err-edge.ensures.1

pub returns-in_err-push : goal.returns-in_err-push
returns-in_err-push c =
    fails _ c.from_residual-in_err-push.result (grows_trans (grows_trans c.no_letter.ensures.grows
    c.choose.ensures.grows) c.join_with.ensures.grows) c.from_residual-in_err-push.ensures.1

pub returns-then-eq : goal.returns-then-eq
returns-then-eq c =
    let s = c.args.board.now.guards in
    let t = c.no_letter.new.self.guards in
    let u = c.choose.new.self.guards in
    let a = c.args.a.guard in
    let b = c.args.b.guard in
    let none = c.in_ok-none.none in
    let guard = c.in_ok-guard.guard in
    let nothing = c.in_ok-none.ensures.node in
    let same : guard ≡ none = eqb-true guard none (sym c.eq.ensures ∙ c.if-eq.true) in
    record {
      grows = grows_trans c.no_letter.ensures.grows c.choose.ensures.grows;
      made = record {
        row = [];
        is = sym (append-nil c.args.joins.now.items);
        held = All-nil (IsEdgeOf _);
        products = no_join _ _ (λ letter first second. none_both (leaf_of s a letter) (leaf_of s b letter)
            (sym (guard_both s t u a b none guard c.no_letter.ensures.grows.guards c.requires.first.guard
            c.requires.second.guard nothing.leaf c.in_ok-guard.ensures.node.leaf letter)
            ∙ subst (λ n. leaf_of u n letter ≡ None) (sym same)
            (kept_leaf t u none letter c.choose.ensures.grows.guards nothing.held ∙ nothing.leaf letter))
            first second);
      };
    }

pub returns : goal.returns
returns c =
    let s = c.args.board.now.guards in
    let t = c.no_letter.new.self.guards in
    let u = c.choose.new.self.guards in
    let v = c.join_with.new.board.guards in
    let a = c.args.a.guard in
    let b = c.args.b.guard in
    let none = c.in_ok-none.none in
    let guard = c.in_ok-guard.guard in
    let edge = c.in_ok-edge.edge in
    let asks = c.in_ok-edge.ensures.made in
    let mid = grows_trans c.no_letter.ensures.grows c.choose.ensures.grows in
    let first = c.requires.first in
    let second = c.requires.second in
    record {
      grows = grows_trans (grows_trans c.no_letter.ensures.grows c.choose.ensures.grows) c.join_with.ensures.grows;
      made = record {
        row = edge ∷ [];
        is = c.in_ok-push.ensures.items;
        held = All-cons (IsEdgeOf c.join_with.new.board) edge [] asks.held (All-nil (IsEdgeOf c.join_with.new.board));
        products = one_join (record {
          guard = λ letter. ap (λ n. is_some (leaf_of v n letter)) asks.guard
              ∙ ap is_some (kept_leaf u v guard letter c.join_with.ensures.grows.guards c.in_ok-guard.ensures.node.held
              ∙ guard_both s t u a b none guard c.no_letter.ensures.grows.guards c.requires.first.guard
              c.requires.second.guard
              c.in_ok-none.ensures.node.leaf c.in_ok-guard.ensures.node.leaf letter)
              ∙ some_both (leaf_of s a letter) (leaf_of s b letter);
          next = λ f. rw (← formulas_kept mid first.next.held, ← formulas_kept mid second.next.held) (asks.next f);
          postponed = λ f. rw (← formulas_kept mid first.postponed.held, ← formulas_kept mid second.postponed.held)
              (asks.postponed f);
        });
      };
    }
