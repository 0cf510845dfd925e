use Rattle.std.proofs.Common.{sym, ap, nat_eq, refl, rules}
use Rattle.ps_diagram.specs.Inner.Kept.{result_for}
use Rattle.ps_diagram.specs.Tree.{leaf_at}
use Rattle.ps_diagram.specs.Table.{tree_of}
use Rattle.ps_diagram.specs.Inner.Rests.{IsDivided}
use Rattle.ps_diagram.proofs.NodeTables.Cells.{keeps_refl}
use Rattle.ps_diagram.proofs.Sides.{sides_of_test}
use Rattle.ps_diagram.proofs.NodeTables.KnownLemmas.{keeps_three, knows_more}
use Rattle.ps_diagram.proofs.ClassesOfLetters.Dividing.{divided_blind, divided_leads, divided_side}
use Rattle.ps_diagram.proofs.ClassesOfLetters.Dividing.{sides_divided, known_divided_kept, tests_kept}
use Rattle.ps_diagram.proofs.NodeTables.MadeDiagrams.{fails, gives, by-last}
use Rattle.ps_diagram.proofs.ClassesOfLetters.Spreading.{unread_divided}
use Rattle.ps_diagram.proofs.store.Store.+divided.Goals as goal

pub returns-in-Some-clause-made : goal.returns-in-Some-clause-made
returns-in-Some-clause-made t c =
    let r = c.requires.known c.args.node c.in-Some.made (sym c.in-Some.ensures) in gives r.1 r.2

pub divided_test-requires-clause-low_later : goal.divided_test-requires-clause-low_later
divided_test-requires-clause-low_later t c = divided_blind c.table_is_sound.ensures.sound c.args.split _ _ _
    (divided_side c.divided-in-Test.ensures.made.keeps c.args.split _ c.in_ok-low-in-Test.ensures.made.held
    c.in_ok-low-in-Test.ensures.made.leaf) (sides_of_test c.in-Test.ensures.part).low_later

pub divided_test-requires-clause-high_later : goal.divided_test-requires-clause-high_later
divided_test-requires-clause-high_later t c = divided_blind c.table_is_sound.ensures.sound c.args.split _ _ _
    c.in_ok-high-in-Test.ensures.made.leaf (sides_of_test c.in-Test.ensures.part).high_later

pub divided_test-requires-clause-leading : goal.divided_test-requires-clause-leading
divided_test-requires-clause-leading t c =
    let low = c.in_ok-low-in-Test.ensures.made in
    let s = sides_of_test c.in-Test.ensures.part in
    record {
      named = search rules;
      low_held = search rules;
      high_held = search rules;
      low_leads = divided_leads c.divided-in-Test.new.self c.args.split _ _ _
          (divided_side c.divided-in-Test.ensures.made.keeps c.args.split _ low.held low.leaf) s.low_later;
      high_leads = divided_leads c.divided-in-Test.new.self c.args.split _ _ _ c.in_ok-high-in-Test.ensures.made.leaf
          s.high_later;
    }

pub returns-in_err-made-in-Test-clause-known : goal.returns-in_err-made-in-Test-clause-known
returns-in_err-made-in-Test-clause-known t c = search (rules, known_divided_kept)

pub returns-in_err-put-in-Test-clause-made : goal.returns-in_err-put-in-Test-clause-made
returns-in_err-put-in-Test-clause-made t c = fails
    (keeps_three c.divided.ensures.made.keeps c.divided-in-Test.ensures.made.keeps c.divided_test.ensures.made.keeps)
    (search rules)

pub returns-in_err-made-in-Test-clause-made : goal.returns-in_err-made-in-Test-clause-made
returns-in_err-made-in-Test-clause-made t c = fails
    (keeps_three c.divided.ensures.made.keeps c.divided-in-Test.ensures.made.keeps c.divided_test.ensures.made.keeps)
    (search rules)

pub returns-in_err-put-in-Test-clause-known : goal.returns-in_err-put-in-Test-clause-known
returns-in_err-put-in-Test-clause-known t c =
    rw c.in_err-put-in-Test.ensures.err (known_divided_kept c.args.other.now c.args.split
    (result_for nat_eq c.divided-in-Test.new.known.table) c.divided_test.ensures.made.keeps
    c.divided-in-Test.ensures.known)

pub returns-in-Nothing-clause-known : goal.returns-in-Nothing-clause-known
returns-in-Nothing-clause-known t c = search (rules, known_divided_kept)

pub returns-in-Nothing-clause-tests : goal.returns-in-Nothing-clause-tests
returns-in-Nothing-clause-tests t c = search (rules, tests_kept)

pub returns-in-Nothing-clause-made : goal.returns-in-Nothing-clause-made
returns-in-Nothing-clause-made t c = by-last (keeps_refl _) (λ made of. of c.args.split (tree_of c.args.other.now
    c.args.node) (λ f. ap (λ x. leaf_at x f) c.in-Nothing.ensures.part)) c.place_of_leaf.ensures

pub returns-in-Leaf-clause-known : goal.returns-in-Leaf-clause-known
returns-in-Leaf-clause-known t c = search (rules, known_divided_kept)

pub returns-in-Leaf-clause-tests : goal.returns-in-Leaf-clause-tests
returns-in-Leaf-clause-tests t c = search (rules, tests_kept)

pub returns-in-Leaf-clause-made : goal.returns-in-Leaf-clause-made
returns-in-Leaf-clause-made t c = by-last (keeps_refl _) (λ made of. of c.args.split (tree_of c.args.other.now
    c.args.node) (λ f. ap (λ x. leaf_at x f) c.in-Leaf.ensures.part)) c.place_of_leaf-in-Leaf.ensures

pub returns-in_ok-put-in-Test-clause-made : goal.returns-in_ok-put-in-Test-clause-made
returns-in_ok-put-in-Test-clause-made t c = sides_divided c.args.split (sides_of_test c.in-Test.ensures.part)
    c.in_ok-low-in-Test.ensures.made c.in_ok-high-in-Test.ensures.made c.in_ok-made-in-Test.ensures.made

pub returns-in_ok-put-in-Test-clause-known : goal.returns-in_ok-put-in-Test-clause-known
returns-in_ok-put-in-Test-clause-known t c =
    let s = c.args.other.now in
    let last = c.divided_test.new.self in
    knows_more (IsDivided last c.args.split) s last (result_for nat_eq c.divided-in-Test.new.known.table)
    (result_for nat_eq c.put.new.self.table) c.put.ensures.put (known_divided_kept s c.args.split
    (result_for nat_eq c.divided-in-Test.new.known.table) c.divided_test.ensures.made.keeps
    c.divided-in-Test.ensures.known)
    c.requires.lent.held c.in_ok-made-in-Test.ensures.made.held (returns-in_ok-put-in-Test-clause-made t c).leaf

pub returns-then-is_shared-clause-made : goal.returns-then-is_shared-clause-made
returns-then-is_shared-clause-made t c =
    by-last (keeps_refl _)
    (λ made is. unread_divided c.args.split c.requires.kept c.intern.ensures.keeps
    c.requires.lent.held (c.if-is_shared.ensures refl) c.node.view_is is) c.intern.ensures

pub returns-then-is_shared-clause-known : goal.returns-then-is_shared-clause-known
returns-then-is_shared-clause-known t c = search (rules, known_divided_kept)

pub returns-then-is_shared-clause-tests : goal.returns-then-is_shared-clause-tests
returns-then-is_shared-clause-tests t c = search (rules, tests_kept)
