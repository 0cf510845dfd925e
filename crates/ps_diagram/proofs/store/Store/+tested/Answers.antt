use Rattle.std.proofs.Common.{true, false, sym, ◌+◌, rules, ◌∙◌}
use Rattle.std.proofs.lemmas.Bool.{eqb-true}
use Rattle.ps_diagram.specs.Inner.Kept.{result_for}
use Rattle.ps_diagram.specs.Table.{tree_of}
use Rattle.ps_diagram.specs.Tree.{IsBlind}
use Rattle.ps_diagram.specs.Inner.Rests.{test_eq}
use Rattle.ps_diagram.proofs.NodeTables.Cells.{keeps_refl}
use Rattle.ps_diagram.proofs.NodeTables.KnownLemmas.{keeps_trans, kept}
use Rattle.ps_diagram.proofs.ClassesOfLetters.Dividing.{tested_same, tested_kept, tested_blind, tests_kept, tests_put}
use Rattle.ps_diagram.proofs.ClassesOfLetters.Dividing.{leading_side, sides_tested}
use Rattle.ps_diagram.proofs.NodeTables.MadeDiagrams.{fails, gives}
use Rattle.ps_diagram.proofs.store.Store.+tested.Goals as goal

pub returns-then-eq-clause-made : goal.returns-then-eq-clause-made
returns-then-eq-clause-made t c =
    let l = c.requires.leading in
    gives l.low_held (rw (← eqb-true c.args.low c.args.high (sym c.eq.ensures ∙ c.if-eq.true))
    (tested_same c.args.self.now c.args.proposition _ (tree_of c.args.self.now c.args.low) l.low_leads))

pub returns-in-Some-clause-made : goal.returns-in-Some-clause-made
returns-in-Some-clause-made t c =
    let r = c.requires.tests c.args.proposition c.args.low c.args.high c.in-Some.made (sym c.in-Some.ensures) in
    gives r.2 r.3

pub returns-in_default-split-clause-tests : goal.returns-in_default-split-clause-tests
returns-in_default-split-clause-tests t c = search (rules, tests_kept)

pub tested-requires : goal.tested-requires
tested-requires t c =
    let leading = leading_side false (keeps_refl _) c.in-Some-split.ensures c.requires.leading in
    (search rules, (leading, c.requires.tests))

pub tested-requires-2 : goal.tested-requires-2
tested-requires-2 t c =
    let leading = leading_side true c.tested.ensures.made.keeps c.in-Some-split.ensures c.requires.leading in
    (search rules, (leading, c.tested.ensures.tests))

pub test-requires-clause-low_later : goal.test-requires-clause-low_later
test-requires-clause-low_later t c =
    let s = c.in-Some-split.ensures in
    let m = c.tested-2.ensures.made.keeps in
    rw (m.same _ c.in_ok-on_low.ensures.made.held) (tested_blind c.table_is_sound.ensures.sound c.args.proposition
    _ _ _ _ (λ f. tested_kept m (c.in_ok-on_low.ensures.made.leaf f)) s.first_sides.low_later s.second_sides.low_later)

pub test-requires-clause-high_later : goal.test-requires-clause-high_later
test-requires-clause-high_later t c =
    let a = c.in-Some-split.ensures.first_sides in
    let b = c.in-Some-split.ensures.second_sides in
    let k = c.tested.ensures.made.keeps in
    let later = IsBlind (c.in-Some-split.split.proposition + 1) in
    tested_blind c.table_is_sound.ensures.sound c.args.proposition _ _ _ _ c.in_ok-on_high.ensures.made.leaf
    (kept later k a.high_held a.high_later) (kept later k b.high_held b.high_later)

pub returns-in_err-made-clause-made : goal.returns-in_err-made-clause-made
returns-in_err-made-clause-made t c = fails (search (rules, keeps_trans)) (search rules)

pub returns-in_err-made-clause-tests : goal.returns-in_err-made-clause-tests
returns-in_err-made-clause-tests t c = search (rules, tests_kept)

pub returns-in_err-put-clause-made : goal.returns-in_err-put-clause-made
returns-in_err-put-clause-made t c = fails (search (rules, keeps_trans)) (search rules)

pub returns-in_err-put-clause-tests : goal.returns-in_err-put-clause-tests
returns-in_err-put-clause-tests t c = rw c.in_err-put.ensures.err
    (tests_kept (result_for test_eq c.tested-2.new.tests.table) c.test.ensures.keeps c.tested-2.ensures.tests)

pub returns-clause-made : goal.returns-clause-made
returns-clause-made t c =
    sides_tested c.args.proposition c.in-Some-split.ensures c.in_ok-on_low.ensures.made c.in_ok-on_high.ensures.made
    c.in_ok-made.ensures

pub returns-clause-tests : goal.returns-clause-tests
returns-clause-tests t c = tests_put (result_for test_eq c.tested-2.new.tests.table) (result_for test_eq c.put.new.self.table)
    c.args.proposition c.put.ensures.put c.test.ensures.keeps c.tested-2.ensures.tests c.requires.leading.low_held
    c.requires.leading.high_held (returns-clause-made t c)
