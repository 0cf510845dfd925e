use Rattle.std.proofs.Common.{List, [], arith, refl, subst, sym}
use Rattle.std.proofs.lemmas.Bool.{eqb-true}
use Rattle.std.proofs.lemmas.Result.{IfOk-weaker}
use Rattle.ps_tableau.proofs.BoardLemmas.{grows_refl}
use Rattle.ps_tableau.proofs.CoversOfSets.CoverRows.{one_edge}
use Rattle.ps_tableau.proofs.CoversOfSets.KnownLemmas.{fails_known, found_at, known_kept}
use Rattle.ps_tableau.proofs.CoversOfSets.Ways.{of_none}
use Rattle.ps_tableau.specs.Boards.{HasCovers}
use Rattle.ps_tableau.specs.Covers.{AreCoversOf}
use Rattle.ps_tableau.specs.declared.edge.Edge.{Edge}
use Rattle.ps_tableau.proofs.states.place_of_none.Goals as goal

pub returns-in_err-free : goal.returns-in_err-free
returns-in_err-free c =
    fails_known _ c.from_residual.result (c.free.ensures.grows) (known_kept c.free.ensures.grows c.requires)
    c.from_residual.ensures.1

pub returns-in_err-covers : goal.returns-in_err-covers
returns-in_err-covers c =
    fails_known _ c.from_residual-in_err-covers.result
    (c.free.ensures.grows) (known_kept c.free.ensures.grows c.requires) c.from_residual-in_err-covers.ensures.1

pub returns-in-Some : goal.returns-in-Some
returns-in-Some c = record {
  grows = grows_refl c.args.board.now c.parts_fit.ensures.sets;
  known = c.requires;
  made = record {
    set = 0;
    there = found_at _ eqb-true _ _ _ c.in-Some.ensures.0 c.in-Some.ensures.1;
    is = refl;
  };
}

pub returns : goal.returns
returns c = record {
  grows = c.free.ensures.grows;
  known = c.add.ensures.known c.free.new.board (known_kept c.free.ensures.grows c.requires) (omega arith)
      (subst (λ (es : List Edge). HasCovers c.free.new.board [] es) (sym c.in_ok-covers.ensures)
      (one_edge (AreCoversOf []) c.in_ok-free.ensures.made of_none));
  made = IfOk-weaker c.add.result _ _ (λ place there. record { set = 0; there = there; is = refl })
      c.add.ensures.place;
}
