use Rattle.ps_formula.specs.NormalForms.{normal_formula_at}
use Rattle.ps_formula.specs.declared.normal_node.NormalNode.TheVariants.{Constant, Proposition, Negated, And, Or, Next}
use Rattle.ps_formula.specs.declared.normal_node.NormalNode.TheVariants.{Until, Release}
use Rattle.ps_tableau.proofs.BoardLemmas.{gives_last}
use Rattle.ps_tableau.proofs.CoversOfSets.OperatorLemmas.{covers_of_and, covers_of_or}
use Rattle.ps_tableau.proofs.CoversOfSets.WayLemmas.{covers_by, formula_node, operands_known, operands_needed}
use Rattle.ps_tableau.proofs.operators.ways_of.Goals as goal

pub ways_of_literal-requires : goal.ways_of_literal-requires
ways_of_literal-requires c =
    rw c.in-Proposition.is at (c.parts_fit.ensures.table.earlier c.args.index c.args.node c.requires.node)

pub ways_of_literal-requires-in-Negated : goal.ways_of_literal-requires-in-Negated
ways_of_literal-requires-in-Negated c =
    rw c.in-Negated.is at (c.parts_fit.ensures.table.earlier c.args.index c.args.node c.requires.node)

pub ways_of_next-requires : goal.ways_of_next-requires
ways_of_next-requires c =
    rw c.in-Next.is at (c.parts_fit.ensures.needs.operands c.args.index c.args.node c.requires.node c.requires.needed)

pub ways_at-first-requires-clause-within : goal.ways_at-first-requires-clause-within
ways_at-first-requires-clause-within c =
    (operands_known c.parts_fit.ensures c.requires.node c.requires.known.count c.in-And.is).0

pub ways_at-first-requires-clause-needed : goal.ways_at-first-requires-clause-needed
ways_at-first-requires-clause-needed c =
    (operands_needed c.args.index c.parts_fit.ensures c.requires.node c.requires.needed c.in-And.is).0

pub ways_at-second-requires-clause-within : goal.ways_at-second-requires-clause-within
ways_at-second-requires-clause-within c =
    (operands_known c.parts_fit.ensures c.requires.node c.requires.known.count c.in-And.is).1

pub ways_at-second-requires-clause-needed : goal.ways_at-second-requires-clause-needed
ways_at-second-requires-clause-needed c =
    (operands_needed c.args.index c.parts_fit.ensures c.requires.node c.requires.needed c.in-And.is).1

pub ways_at-first-requires-in-Or-clause-within : goal.ways_at-first-requires-in-Or-clause-within
ways_at-first-requires-in-Or-clause-within c =
    (operands_known c.parts_fit.ensures c.requires.node c.requires.known.count c.in-Or.is).0

pub ways_at-first-requires-in-Or-clause-needed : goal.ways_at-first-requires-in-Or-clause-needed
ways_at-first-requires-in-Or-clause-needed c =
    (operands_needed c.args.index c.parts_fit.ensures c.requires.node c.requires.needed c.in-Or.is).0

pub ways_at-second-requires-in-Or-clause-within : goal.ways_at-second-requires-in-Or-clause-within
ways_at-second-requires-in-Or-clause-within c =
    (operands_known c.parts_fit.ensures c.requires.node c.requires.known.count c.in-Or.is).1

pub ways_at-second-requires-in-Or-clause-needed : goal.ways_at-second-requires-in-Or-clause-needed
ways_at-second-requires-in-Or-clause-needed c =
    (operands_needed c.args.index c.parts_fit.ensures c.requires.node c.requires.needed c.in-Or.is).1

pub ways_at-first-requires-in-Until-clause-within : goal.ways_at-first-requires-in-Until-clause-within
ways_at-first-requires-in-Until-clause-within c =
    (operands_known c.parts_fit.ensures c.requires.node c.requires.known.count c.in-Until.is).0

pub ways_at-first-requires-in-Until-clause-needed : goal.ways_at-first-requires-in-Until-clause-needed
ways_at-first-requires-in-Until-clause-needed c =
    (operands_needed c.args.index c.parts_fit.ensures c.requires.node c.requires.needed c.in-Until.is).0

pub ways_at-second-requires-in-Until-clause-within : goal.ways_at-second-requires-in-Until-clause-within
ways_at-second-requires-in-Until-clause-within c =
    (operands_known c.parts_fit.ensures c.requires.node c.requires.known.count c.in-Until.is).1

pub ways_at-second-requires-in-Until-clause-needed : goal.ways_at-second-requires-in-Until-clause-needed
ways_at-second-requires-in-Until-clause-needed c =
    (operands_needed c.args.index c.parts_fit.ensures c.requires.node c.requires.needed c.in-Until.is).1

pub ways_at-first-requires-in-Release-clause-within : goal.ways_at-first-requires-in-Release-clause-within
ways_at-first-requires-in-Release-clause-within c =
    (operands_known c.parts_fit.ensures c.requires.node c.requires.known.count c.in-Release.is).0

pub ways_at-first-requires-in-Release-clause-needed : goal.ways_at-first-requires-in-Release-clause-needed
ways_at-first-requires-in-Release-clause-needed c =
    (operands_needed c.args.index c.parts_fit.ensures c.requires.node c.requires.needed c.in-Release.is).0

pub ways_at-second-requires-in-Release-clause-within : goal.ways_at-second-requires-in-Release-clause-within
ways_at-second-requires-in-Release-clause-within c =
    (operands_known c.parts_fit.ensures c.requires.node c.requires.known.count c.in-Release.is).1

pub ways_at-second-requires-in-Release-clause-needed : goal.ways_at-second-requires-in-Release-clause-needed
ways_at-second-requires-in-Release-clause-needed c =
    (operands_needed c.args.index c.parts_fit.ensures c.requires.node c.requires.needed c.in-Release.is).1

pub returns-in-Constant : goal.returns-in-Constant
returns-in-Constant c =
    let is = formula_node c.args.board.now.formulas c.args.index c.args.node (Constant c.in-Constant.value)
    c.parts_fit.ensures.table c.requires.node c.in-Constant.is in
    covers_by c.ways_of_constant.result is c.ways_of_constant.ensures

pub returns-in-Proposition : goal.returns-in-Proposition
returns-in-Proposition c =
    let is = formula_node c.args.board.now.formulas c.args.index c.args.node (Proposition c.in-Proposition.p)
    c.parts_fit.ensures.table c.requires.node c.in-Proposition.is in
    covers_by c.ways_of_literal.result is c.ways_of_literal.ensures

pub returns-in-Negated : goal.returns-in-Negated
returns-in-Negated c =
    let is = formula_node c.args.board.now.formulas c.args.index c.args.node (Negated c.in-Negated.p)
    c.parts_fit.ensures.table c.requires.node c.in-Negated.is in
    covers_by c.ways_of_literal-in-Negated.result is c.ways_of_literal-in-Negated.ensures

pub returns-in-Next : goal.returns-in-Next
returns-in-Next c =
    let is = formula_node c.args.board.now.formulas c.args.index c.args.node (Next c.in-Next.f)
    c.parts_fit.ensures.table c.requires.node c.in-Next.is in
    covers_by c.ways_of_next.result is c.ways_of_next.ensures

pub returns-in-And : goal.returns-in-And
returns-in-And c =
    let is = formula_node c.args.board.now.formulas c.args.index c.args.node (And c.in-And.f c.in-And.g)
    c.parts_fit.ensures.table c.requires.node c.in-And.is in
    covers_by c.joined.result is
    (gives_last c.joined.result c.joined.ensures.grows c.joined.ensures.made (λ out made. record {
      held = made.held;
      right = covers_of_and c.ways_at-first.ensures.right c.ways_at-second.ensures.right made.right;
    }))

pub returns-in-Or : goal.returns-in-Or
returns-in-Or c =
    let is = formula_node c.args.board.now.formulas c.args.index c.args.node (Or c.in-Or.f c.in-Or.g)
    c.parts_fit.ensures.table c.requires.node c.in-Or.is in
    covers_by c.either.result is
    (gives_last c.either.result c.either.ensures.grows c.either.ensures.made (λ out made. record {
      held = made.held;
      right = covers_of_or c.ways_at-first-in-Or.ensures.right c.ways_at-second-in-Or.ensures.right made.right;
    }))

pub ways_of_until-requires-clause-until : goal.ways_of_until-requires-clause-until
ways_of_until-requires-clause-until c =
    let at = rw c.in-Until.is at c.requires.node in
    c.parts_fit.ensures.untils.each c.args.index c.in-Until.f c.in-Until.g at c.requires.needed

pub returns-in-Until : goal.returns-in-Until
returns-in-Until c =
    let nodes = c.args.board.now.formulas in
    let is = formula_node c.args.board.now.formulas c.args.index c.args.node (Until c.in-Until.f c.in-Until.g)
    c.parts_fit.ensures.table c.requires.node c.in-Until.is in
    covers_by c.ways_of_until.result is (gives_last c.ways_of_until.result c.ways_of_until.ensures.grows
    c.ways_of_until.ensures.made (λ out made. record {
      held = made.held;
      right = made.right (normal_formula_at nodes c.in-Until.f) (normal_formula_at nodes c.in-Until.g) is
          c.ways_at-first-in-Until.ensures.right c.ways_at-second-in-Until.ensures.right;
    }))

pub returns-in-Release : goal.returns-in-Release
returns-in-Release c =
    let nodes = c.args.board.now.formulas in
    let is = formula_node c.args.board.now.formulas c.args.index c.args.node (Release c.in-Release.f c.in-Release.g)
    c.parts_fit.ensures.table c.requires.node c.in-Release.is in
    covers_by c.ways_of_release.result is (gives_last c.ways_of_release.result c.ways_of_release.ensures.grows
    c.ways_of_release.ensures.made (λ out made. record {
      held = made.held;
      right = made.right (normal_formula_at nodes c.in-Release.f) (normal_formula_at nodes c.in-Release.g) is
          c.ways_at-first-in-Release.ensures.right c.ways_at-second-in-Release.ensures.right;
    }))
