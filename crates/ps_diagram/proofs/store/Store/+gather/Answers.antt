use Rattle.std.proofs.Common.{◌≡◌, ◌∷◌, [], rules, ℕ, nat_eq, true}
use Rattle.std.specs.Prelude.{is_some}
use Rattle.ps_diagram.specs.Inner.Kept.{result_for}
use Rattle.ps_diagram.specs.Reached.{Gathers}
use Rattle.ps_diagram.specs.Table.{tree_of}
use Rattle.ps_diagram.proofs.ClassesOfLetters.Gathering.{some_of, none_of, found_more, gathers_none, leaf_found}
use Rattle.ps_diagram.proofs.ClassesOfLetters.Gathering.{gathers_leaf}
use Rattle.ps_diagram.proofs.ClassesOfLetters.Gathering.{begun_low, begun_high}
use Rattle.ps_diagram.proofs.ClassesOfLetters.Gathering.{set_bit, gathers_test, seen_more}
use Rattle.ps_diagram.proofs.NodeTables.LeafTables.{no_place_found, place_found}
use Rattle.ps_diagram.proofs.store.Store.+gather.Goals as goal

pub returns-then-is_some-clause-found : goal.returns-then-is_some-clause-found
returns-then-is_some-clause-found t c =
    let is : is_some (result_for nat_eq c.args.seen.now.table c.args.node) ≡ true = cc in
    gathers_none c.args.self.now.propositions (tree_of c.args.self.now c.args.node) c.args.letter
    c.args.found.now (c.requires.seen c.args.node is)

pub push-requires : goal.push-requires
push-requires t c = search (rules, none_of)

pub returns-else-is_none-clause-found : goal.returns-else-is_none-clause-found
returns-else-is_none-clause-found t c = search (rules, some_of, gathers_none, leaf_found, place_found)

pub gather-requires : goal.gather-requires
gather-requires t c = search (rules, begun_low, c.in-Test.ensures.part, c.requires.begun, c.requires.seen)

pub gather-requires-in-Test : goal.gather-requires-in-Test
gather-requires-in-Test t c = search (rules, set_bit, begun_high)

pub returns-in_ok-push-in-Leaf-clause-found : goal.returns-in_ok-push-in-Leaf-clause-found
returns-in_ok-push-in-Leaf-clause-found t c =
    gathers_leaf c.args.self.now.propositions c.in-Leaf.value c.args.letter c.args.found.now c.in-Leaf.ensures.part
    c.requires.begun (search (rules, none_of, no_place_found)) c.in_ok-push-in-Leaf.ensures.ok

pub returns-in_ok-push-in-Leaf-clause-seen : goal.returns-in_ok-push-in-Leaf-clause-seen
returns-in_ok-push-in-Leaf-clause-seen t c = λ node is f leaf e. rw c.in_ok-push-in-Leaf.ensures.ok
    (found_more c.args.found.now ((c.in-Leaf.value, c.args.letter) ∷ []) leaf (c.requires.seen node is f leaf e))

found : (t : ℕ) (c : goal.In_ok-put-in-Test t) → Gathers c.args.self.now.propositions
    (tree_of c.args.self.now c.args.node) c.args.letter c.args.found.now c.gather-in-Test.new.found
found t c = search (rules, gathers_test, set_bit)

pub returns-in_ok-put-in-Test-clause-found : goal.returns-in_ok-put-in-Test-clause-found
returns-in_ok-put-in-Test-clause-found t c = found t c

pub returns-in_ok-put-in-Test-clause-seen : goal.returns-in_ok-put-in-Test-clause-seen
returns-in_ok-put-in-Test-clause-seen t c = seen_more c.args.self.now (result_for nat_eq c.gather-in-Test.new.seen.table)
    (result_for nat_eq c.put.new.self.table) c.args.node c.args.node c.gather-in-Test.new.found c.put.ensures.put
    c.in_ok-gather-in-Test-2.ensures.seen (found t c).whole

pub returns-else-is_kept-2-clause-found : goal.returns-else-is_kept-2-clause-found
returns-else-is_kept-2-clause-found t c = search (rules, gathers_test, set_bit)
