use Rattle.std.proofs.Common.{◌∙◌, Bool, ap, cond, length, subst, sym}
use Rattle.ps_formula.specs.Formulas.{formula_at, not_of}
use Rattle.ps_formula.specs.NormalForms.{IsNormalForm}
use Rattle.ps_tableau.proofs.BoardLemmas.{state_kept}
use Rattle.ps_tableau.specs.Boards.{IsState}
use Rattle.ps_tableau.proofs.CoversOfSets.WayLemmas.{tableau_of}
use Rattle.ps_tableau.proofs.tableau.Tableau.new.Goals as goal
use Rattle.ps_tableau.proofs.tableau.Tableau.new.Goals.{then-negated, else-negated}

pub returns : goal.returns
returns c =
    let nodes = c.in_ok-normal.normal.table in
    let f = formula_at c.args.formulas.now c.args.root in
    let goal_of = λ (t : Bool). cond t (not_of f) f in
    let normal : IsNormalForm nodes c.if-negated.root (goal_of c.args.negated) = elim c.if-negated.branch [
      | then-negated w ↦ rw (w.root-is, w.if-negated.true) c.in_ok-normal.ensures.negation
      | else-negated w ↦ rw (w.root-is, w.if-negated.false) c.in_ok-normal.ensures.formula
    ] in
    tableau_of {nodes = nodes} c.in_ok-ways.ensures.ways.grows c.in_ok-board.ensures.initial
    c.in_ok-board.ensures.formula
    normal

pub invariant_of-result : goal.invariant_of-result
invariant_of-result c =
    let grows = c.in_ok-ways.ensures.ways.grows in (
      record {
        ways = c.in_ok-ways.ensures.ways.made;
        count = c.in_ok-ways.ensures.count ∙ ap length (sym grows.formulas);
        initial = subst (λ s. IsState c.all_ways.new.board s) (sym grows.initial)
            (state_kept grows c.in_ok-board.ensures.initial);
      },
      c.new-2.ensures c.all_ways.new.board,
    )
