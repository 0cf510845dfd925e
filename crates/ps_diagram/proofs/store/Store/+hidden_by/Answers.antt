use Rattle.std.proofs.Common.{◌+◌, nat_eq, refl, sym, rules}
use Rattle.ps_diagram.specs.Inner.Hiding.{IsHidden}
use Rattle.ps_diagram.specs.Inner.Kept.{result_for}
use Rattle.ps_diagram.specs.Table.{tree_of}
use Rattle.ps_diagram.specs.Tree.{IsBlind, IsFrom}
use Rattle.ps_diagram.proofs.NodeTables.Cells.{keeps_refl}
use Rattle.ps_diagram.proofs.TreeOperations.Hiding.{hidden_blind, hidden_sides}
use Rattle.ps_diagram.proofs.NodeTables.KnownLemmas.{keeps_three, kept, knows_kept, knows_more}
use Rattle.ps_diagram.proofs.NodeTables.MadeDiagrams.{by-last, fails, gives}
use Rattle.ps_diagram.proofs.store.Store.+hidden_by.Goals as goal

pub returns-in-Some-clause-made : goal.returns-in-Some-clause-made
returns-in-Some-clause-made t c =
    let r = c.requires.known c.args.node c.in-Some.made (sym c.in-Some.ensures) in gives r.1 r.2

pub returns-in-Leaf-clause-made : goal.returns-in-Leaf-clause-made
returns-in-Leaf-clause-made t c = by-last (keeps_refl c.args.self.now)
    (λ made is f. rw (c.in-Leaf.ensures.part, is f) refl) c.constant.ensures

pub hidden_test-requires-clause-low_later : goal.hidden_test-requires-clause-low_later
hidden_test-requires-clause-low_later t c =
    let low = c.in_ok-low.ensures.made in
    let part = c.in-Test.ensures.part in
    kept (IsBlind (c.in-Test.proposition + 1)) c.in_ok-high.ensures.made.keeps low.held
    (hidden_blind c.args.hidden (c.in-Test.proposition + 1) c.args.self.now.propositions _ _ part.low_from low.leaf)

pub hidden_test-requires-clause-high_later : goal.hidden_test-requires-clause-high_later
hidden_test-requires-clause-high_later t c =
    let level = c.in-Test.proposition + 1 in
    let n = c.args.self.now.propositions in
    let part = c.in-Test.ensures.part in
    hidden_blind c.args.hidden level n _ _ (kept (IsFrom level n) c.in_ok-low.ensures.made.keeps part.high_held
    part.high_from) c.in_ok-high.ensures.made.leaf

pub returns-in_err-put-clause-made : goal.returns-in_err-put-clause-made
returns-in_err-put-clause-made t c = fails
    (keeps_three c.hidden_by.ensures.made.keeps c.hidden_by-2.ensures.made.keeps c.hidden_test.ensures.keeps)
    (search rules)

pub returns-clause-made : goal.returns-clause-made
returns-clause-made t c = hidden_sides c.args.hidden c.in-Test.ensures.part c.in_ok-low.ensures.made
    c.in_ok-high.ensures.made c.in_ok-made.ensures

pub returns-clause-known : goal.returns-clause-known
returns-clause-known t c =
    let hides = IsHidden c.args.hidden in
    let mid = c.hidden_by-2.new.self in
    let last = c.hidden_test.new.self in
    let k = c.hidden_test.ensures.keeps in
    let was = result_for nat_eq c.hidden_by-2.new.known.table in
    let made = returns-clause-made t c in
    knows_more hides last last was (result_for nat_eq c.put.new.self.table) c.put.ensures.put
    (knows_kept hides mid last mid last was k k c.in_ok-high.ensures.known) (made.keeps.held _ c.requires.held)
    made.held (kept (λ u. hides u (tree_of last c.in_ok-made.made)) made.keeps c.requires.held made.leaf)
