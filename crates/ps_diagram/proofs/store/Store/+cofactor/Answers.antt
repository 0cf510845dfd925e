use Rattle.std.proofs.Common.{arith, sym, nat_eq, refl, rules}
use Rattle.ps_diagram.specs.Inner.Kept.{result_for}
use Rattle.ps_diagram.specs.Inner.Rests.{IsCofactor}
use Rattle.ps_diagram.proofs.TreesFromData.Alone.{bit_false}
use Rattle.ps_diagram.specs.Table.{tree_of}
use Rattle.ps_diagram.proofs.NodeTables.KnownLemmas.{keeps_three, kept, knows_kept, knows_more}
use Rattle.ps_diagram.proofs.Sides.{sides_of_test}
use Rattle.ps_diagram.proofs.ClassesOfLetters.Spreading.{cofactor_blind, cofactor_sides, unread_cofactor}
use Rattle.ps_diagram.proofs.NodeTables.MadeDiagrams.{fails, gives}
use Rattle.ps_diagram.proofs.store.Store.+cofactor.Goals as goal

pub returns-in-Some-clause-made : goal.returns-in-Some-clause-made
returns-in-Some-clause-made t c =
    let r = c.requires.known c.args.node c.in-Some.made (sym c.in-Some.ensures) in gives r.1 r.2

pub test-requires-clause-low_later : goal.test-requires-clause-low_later
test-requires-clause-low_later t c = grind (arith, kept, cofactor_blind, sides_of_test)

pub test-requires-clause-high_later : goal.test-requires-clause-high_later
test-requires-clause-high_later t c = grind (arith, cofactor_blind, sides_of_test)

pub returns-in_err-put-in-Test-clause-made : goal.returns-in_err-put-in-Test-clause-made
returns-in_err-put-in-Test-clause-made t c = fails
    (keeps_three c.cofactor-in-Test.ensures.made.keeps c.cofactor-in-Test-2.ensures.made.keeps c.test.ensures.keeps)
    (search rules)

pub returns-in_err-put-in-Test-clause-known : goal.returns-in_err-put-in-Test-clause-known
returns-in_err-put-in-Test-clause-known t c =
    let mid = c.cofactor-in-Test-2.new.self in
    let last = c.test.new.self in
    let k = c.test.ensures.keeps in
    rw c.in_err-put-in-Test.ensures.err (knows_kept (IsCofactor c.args.split c.args.letter) mid last mid last
    (result_for nat_eq c.cofactor-in-Test-2.new.known.table) k k c.cofactor-in-Test-2.ensures.known)

pub returns-in_err-made-in-Test-clause-made : goal.returns-in_err-made-in-Test-clause-made
returns-in_err-made-in-Test-clause-made t c = fails
    (keeps_three c.cofactor-in-Test.ensures.made.keeps c.cofactor-in-Test-2.ensures.made.keeps c.test.ensures.keeps)
    (search rules)

pub returns-in_err-made-in-Test-clause-known : goal.returns-in_err-made-in-Test-clause-known
returns-in_err-made-in-Test-clause-known t c =
    let mid = c.cofactor-in-Test-2.new.self in
    let last = c.test.new.self in
    let k = c.test.ensures.keeps in
    knows_kept (IsCofactor c.args.split c.args.letter) mid last mid last
    (result_for nat_eq c.cofactor-in-Test-2.new.known.table) k k c.cofactor-in-Test-2.ensures.known

pub returns-in_ok-put-in-Test-clause-made : goal.returns-in_ok-put-in-Test-clause-made
returns-in_ok-put-in-Test-clause-made t c = cofactor_sides c.args.split c.args.letter
    (bit_false c.args.split c.in-Test.proposition c.if-split-proposition-eq1.false)
    (sides_of_test c.in-Test.ensures.part) c.in_ok-low-in-Test.ensures.made c.in_ok-high-in-Test.ensures.made
    c.in_ok-made-in-Test.ensures

pub returns-in_ok-put-in-Test-clause-known : goal.returns-in_ok-put-in-Test-clause-known
returns-in_ok-put-in-Test-clause-known t c =
    let rest = IsCofactor c.args.split c.args.letter in
    let mid = c.cofactor-in-Test-2.new.self in
    let last = c.test.new.self in
    let k = c.test.ensures.keeps in
    let was = result_for nat_eq c.cofactor-in-Test-2.new.known.table in
    let made = returns-in_ok-put-in-Test-clause-made t c in
    knows_more rest last last was (result_for nat_eq c.put.new.self.table) c.put.ensures.put
    (knows_kept rest mid last mid last was k k c.cofactor-in-Test-2.ensures.known)
    (made.keeps.held _ c.requires.held) made.held
    (kept (λ u. rest u (tree_of last c.in_ok-made-in-Test.made)) made.keeps c.requires.held made.leaf)

pub returns-then-is_shared-clause-made : goal.returns-then-is_shared-clause-made
returns-then-is_shared-clause-made t c = gives c.requires.held
    (unread_cofactor c.args.split c.args.letter (tree_of c.args.self.now c.args.node) (c.if-is_shared.ensures refl))
