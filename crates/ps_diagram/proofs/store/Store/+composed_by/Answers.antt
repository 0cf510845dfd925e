use Rattle.std.proofs.Common.{◌≡◌, ◌<◌, All, nat_eq, length, get_or, sym, arith, rules}
use Rattle.std.proofs.lemmas.List.{get_or_default}
use Rattle.ps_diagram.specs.Inner.Kept.{result_for}
use Rattle.ps_diagram.specs.Inner.Composed.{IsComposed}
use Rattle.ps_diagram.specs.Table.{IsNode}
use Rattle.ps_diagram.proofs.TreeOperations.Composing.{composed_kept, composed_sides, bits_before, side_of}
use Rattle.ps_diagram.proofs.NodeTables.KnownLemmas.{keeps_trans, knows_more}
use Rattle.ps_diagram.proofs.NodeTables.MadeDiagrams.{gives}
use Rattle.ps_diagram.proofs.store.Store.+composed_by.Goals as goal

pub composed_by-requires : goal.composed_by-requires
composed_by-requires t c =
    let s = side_of c.args.self.now c.index-truths-proposition.result c.in-Test.ensures.part c.in-Some.ensures in
    let less = s.0 in
    (omega arith, (s.1, (c.requires.one_each, (c.requires.truths, c.requires.known))))

pub returns-in-Some-get-clause-made : goal.returns-in-Some-get-clause-made
returns-in-Some-get-clause-made t c =
    let r = c.requires.known c.args.node c.in-Some-get.made (sym c.in-Some-get.ensures) in gives r.1 r.2

pub returns-clause-made : goal.returns-clause-made
returns-clause-made t c =
    let part = c.in-Test.ensures.part in
    let below = part.below in
    let named : c.in-Test.proposition < length c.args.truths.now = omega (arith, c.requires.one_each) in
    let at : c.index-truths-proposition.result ≡ get_or c.args.truths.now c.in-Test.proposition 0 =
    search (rules, get_or_default) in
    composed_sides c.args.truths.now c.requires.truths part named c.in_ok-low.ensures.made c.in_ok-high.ensures.made
    (rw at at c.in_ok-made.ensures)

pub returns-clause-known : goal.returns-clause-known
returns-clause-known t c =
    let truths = c.args.truths.now in
    let before = c.composed_by-3.new.self in
    let last = c.choose.new.self in
    let k = keeps_trans c.composed_by-2.ensures.made.keeps c.composed_by-3.ensures.made.keeps in
    let made = returns-clause-made t c in
    let held : All (IsNode before) truths = λ i d less. k.held _ (c.requires.truths i d less) in
    knows_more (IsComposed last truths) c.args.other.now last (result_for nat_eq c.composed_by-3.new.known.table)
    (result_for nat_eq c.put.new.self.table) c.put.ensures.put (composed_kept truths c.choose.ensures.keeps held
    c.args.other.now (result_for nat_eq c.composed_by-3.new.known.table) c.in_ok-high.ensures.known)
    c.requires.held c.in_ok-made.ensures.held
    (λ letter f bits. made.leaf letter f (bits_before truths made.keeps c.requires.truths letter f bits))
