use Rattle.std.proofs.lemmas.List.Elements.{Contains-get_or}
use Rattle.ps_formula.specs.NormalForms.{normal_formula_at}
use Rattle.ps_tableau.proofs.CoversOfSets.ReduceLemmas.{from_one}
use Rattle.ps_tableau.proofs.reduction.is_brought.Goals as goal

pub brings-requires-clause-from : goal.brings-requires-clause-from
brings-requires-clause-from c =
    c.requires.known _ (Contains-get_or c.args.known.now c.loop-other.other-index 0 c.loop-other-test.true)

pub returns-then-brings : goal.returns-then-brings
returns-then-brings c done =
    let nodes = c.args.formulas.now in
    from_one nodes c.args.known.now _ (normal_formula_at nodes c.args.index)
    (Contains-get_or c.args.known.now c.loop-other.other-index 0 c.loop-other-test.true)
    (c.brings.ensures c.if-brings.true)
