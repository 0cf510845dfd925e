use Rattle.std.proofs.Common.{◌∙◌, ◌+◌, ◌∷◌, [], ap, length, length-append, subst, sym}
use Rattle.ps_formula.specs.NormalForms.{normal_formula_at}
use Rattle.ps_tableau.proofs.BoardLemmas.{fails, grows_trans}
use Rattle.ps_tableau.proofs.CoversOfSets.WayLemmas.{ways_more}
use Rattle.ps_tableau.specs.Boards.{HasCovers}
use Rattle.ps_tableau.specs.Needs.{IsNeeded}
use Rattle.ps_tableau.proofs.operators.all_ways.Goals as goal

pub returns-in_err-covers-clause-ways : goal.returns-in_err-covers-clause-ways
returns-in_err-covers-clause-ways c =
    fails _ c.from_residual.result (grows_trans c.loop-index.invariant.grows c.next_ways.ensures.grows)
    c.from_residual.ensures.1

pub returns-in_err-push-clause-ways : goal.returns-in_err-push-clause-ways
returns-in_err-push-clause-ways c =
    fails _ c.from_residual-in_err-push.result (grows_trans c.loop-index.invariant.grows c.next_ways.ensures.grows)
    c.from_residual-in_err-push.ensures.1

pub loop-index-preserved : goal.loop-index-preserved
loop-index-preserved c =
    let b = c.loop-index.board in
    let covers = c.in_ok-covers.covers in
    let count = c.loop-index.invariant.count in
    let last = subst (λ n. IsNeeded b.needed.items n →
    HasCovers c.next_ways.new.board (normal_formula_at b.formulas n ∷ []) covers.items) (sym count)
    c.in_ok-covers.ensures.made in
    record {
      grows = grows_trans c.loop-index.invariant.grows c.next_ways.ensures.grows;
      ways =
          rw c.in_ok-push.ensures.items (ways_more covers c.next_ways.ensures.grows c.loop-index.invariant.ways last);
      count = ap length c.in_ok-push.ensures.items ∙ length-append c.loop-index.ways.items (covers ∷ [])
          ∙ ap (λ n. n + 1) count;
    }
