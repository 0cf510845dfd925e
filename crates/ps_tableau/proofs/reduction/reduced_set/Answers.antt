use Rattle.std.proofs.Common.{subst, sym}
use Rattle.ps_tableau.proofs.BoardLemmas.{grows_refl}
use Rattle.ps_tableau.specs.Boards.{Grows}
use Rattle.ps_tableau.specs.Covers.{of_known}
use Rattle.ps_tableau.specs.Inner.Reduction.{IsReduced}
use Rattle.ps_tableau.specs.declared.board.Board.{Board}
use Rattle.ps_tableau.proofs.reduction.reduced_set.Goals as goal

pub returns-then-is_reduced : goal.returns-then-is_reduced
returns-then-is_reduced c = record {
  grows = grows_refl c.args.board.now c.parts_fit.ensures.sets;
  made = record { state = c.requires; fewer = λ k there. there; brings = λ f there. of_known there };
}

pub returns : goal.returns
returns c = record {
  grows = subst (λ (new : Board). Grows c.args.board.now new) (sym c.note_reduced.ensures) c.reduced_anew.ensures.grows;
  made = subst (λ (new : Board). IsReduced c.args.board.now c.args.set new c.in_ok-reduced.reduced)
      (sym c.note_reduced.ensures) c.in_ok-reduced.ensures.made;
}
