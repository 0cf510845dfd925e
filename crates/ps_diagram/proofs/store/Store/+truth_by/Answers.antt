use Rattle.std.proofs.Common.{true, false, arith, ap, cond, ◌∙◌, ℕ, Option}
use Rattle.std.specs.Prelude.{not}
use Rattle.std.proofs.lemmas.List.{drop_all}
use Rattle.ps_label.specs.Expression.{expression}
use Rattle.ps_label.specs.Truth.{expressions, truth}
use Rattle.ps_label.proofs.OperandLists.{expression-Both, expression-Either}
use Rattle.ps_diagram.specs.Labels.{one_where}
use Rattle.ps_diagram.specs.Leaves.{opposite}
use Rattle.ps_diagram.proofs.NodeTables.KnownLemmas.{keeps_trans}
use Rattle.ps_diagram.proofs.NodeTables.MadeDiagrams.{by-last}
use Rattle.ps_diagram.proofs.TreeOperations.Truths.{drop_is, opposite_of_both, value_turned}
use Rattle.ps_diagram.proofs.TreeOperations.Unions.{no_operands, operands_done, operands_more}
use Rattle.ps_diagram.proofs.store.Store.+truth_by.Goals as goal

pub loop-operand-init : goal.loop-operand-init
loop-operand-init t c = grind (arith, expression-Both, no_operands)

pub loop-operand-2-init : goal.loop-operand-2-init
loop-operand-2-init t c = grind (arith, expression-Either, no_operands)

pub loop-operand-preserved : goal.loop-operand-preserved
loop-operand-preserved t c =
    let l = c.loop-operand in
    let row = drop_is c.deref-operand-items.result.now l.operand-index (omega arith) c.operand-item.is in
    operands_more false c.requires.aliases (rw row at l.invariant) c.truth_by-in-loop-operand.ensures.keeps
    c.in_ok-truth_by-in-Both.ensures.held c.in_ok-truth_by-in-Both.ensures.leaf c.in_ok-push-in-Both.ensures.items

pub loop-operand-2-preserved : goal.loop-operand-2-preserved
loop-operand-2-preserved t c =
    let l = c.loop-operand-2 in
    let row = drop_is c.deref-operand-items-in-Either.result.now l.operand-index (omega arith)
    c.operand-item-in-loop-operand-2.is in
    operands_more true c.requires.aliases (rw row at l.invariant) c.truth_by-in-loop-operand-2.ensures.keeps
    c.in_ok-truth_by-in-Either.ensures.held c.in_ok-truth_by-in-Either.ensures.leaf c.in_ok-push-in-Either.ensures.items

pub returns-in_ok-any-in-Both : goal.returns-in_ok-any-in-Both
returns-in_ok-any-in-Both t c =
    let l = c.loop-operand in
    let none = ap expressions (drop_all l.operand-index c.deref-operand-items.result.now c.loop-operand-test.false) in
    let any = rw c.deref-in-Both.ensures.value at c.in_ok-any-in-Both.ensures.leaf in
    by-last (keeps_trans l.invariant.keeps c.union_of.ensures.keeps) (λ node h known truths letter.
    let whole = truth (known letter) letter (expression c.args.label.now) in
    h letter ∙ ap (λ (leaf : Option ℕ). cond (not c.args.value) leaf (opposite leaf))
    (any letter ∙ operands_done false none l.invariant known truths letter)
    ∙ value_turned (not c.args.value) (cond whole false true) ∙ ap one_where (opposite_of_both c.args.value whole))
    c.turned-in-Both.ensures

pub returns-in_ok-any-in-Either : goal.returns-in_ok-any-in-Either
returns-in_ok-any-in-Either t c =
    let l = c.loop-operand-2 in
    let none = ap expressions (drop_all l.operand-index c.deref-operand-items-in-Either.result.now
    c.loop-operand-2-test.false) in
    let any = rw c.deref-in-Either.ensures.value at c.in_ok-any-in-Either.ensures.leaf in
    by-last (keeps_trans l.invariant.keeps c.union_of-in-Either.ensures.keeps) (λ node h known truths letter.
    h letter ∙ ap (λ (leaf : Option ℕ). cond c.args.value leaf (opposite leaf))
    (any letter ∙ operands_done true none l.invariant known truths letter)
    ∙ value_turned c.args.value (truth (known letter) letter (expression c.args.label.now)))
    c.turned-in-Either.ensures
