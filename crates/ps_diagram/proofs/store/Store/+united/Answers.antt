use Rattle.std.proofs.Common.{sym, rules}
use Rattle.ps_diagram.specs.Inner.Kept.{result_for}
use Rattle.ps_diagram.specs.Inner.Known.{pair_eq}
use Rattle.ps_diagram.specs.Inner.Unions.{IsUnion}
use Rattle.ps_diagram.proofs.NodeTables.KnownLemmas.{keeps_three, keeps_trans, pairs_kept, pairs_put}
use Rattle.ps_diagram.proofs.TreeOperations.Uniting.{truth_high, truth_low, union_sides}
use Rattle.ps_diagram.proofs.NodeTables.MadeDiagrams.{fails, gives}
use Rattle.ps_diagram.proofs.store.Store.+united.Goals as goal

pub returns-in-Some-get-clause-made : goal.returns-in-Some-get-clause-made
returns-in-Some-get-clause-made t c =
    let r = c.requires.known c.args.first c.args.second c.in-Some-get.node (sym c.in-Some-get.ensures) in gives r.2 r.3

pub united-requires : goal.united-requires
united-requires t c = search (
  rules,
  truth_low c.in-Some-split.ensures.first_sides c.requires.first_truth,
  truth_low c.in-Some-split.ensures.second_sides c.requires.second_truth,
)

pub united-requires-2 : goal.united-requires-2
united-requires-2 t c = search (
  rules,
  truth_high c.united.ensures.made.keeps c.in-Some-split.ensures.first_sides c.requires.first_truth,
  truth_high c.united.ensures.made.keeps c.in-Some-split.ensures.second_sides c.requires.second_truth,
)

pub returns-in_err-high-clause-made : goal.returns-in_err-high-clause-made
returns-in_err-high-clause-made t c = fails (search (rules, keeps_trans)) (search rules)

pub returns-in_err-node-clause-made : goal.returns-in_err-node-clause-made
returns-in_err-node-clause-made t c = fails (search (rules, keeps_trans)) (search rules)

pub returns-in_err-node-clause-known : goal.returns-in_err-node-clause-known
returns-in_err-node-clause-known t c = search (rules, pairs_kept)

pub returns-in_err-put-clause-made : goal.returns-in_err-put-clause-made
returns-in_err-put-clause-made t c = fails
    (keeps_three c.united.ensures.made.keeps c.united-2.ensures.made.keeps c.test.ensures.keeps) (search rules)

pub returns-in_err-put-clause-known : goal.returns-in_err-put-clause-known
returns-in_err-put-clause-known t c = rw c.in_err-put.ensures.err
    (pairs_kept IsUnion (result_for pair_eq c.united-2.new.known.table) c.test.ensures.keeps
    c.united-2.ensures.known)

pub returns-clause-made : goal.returns-clause-made
returns-clause-made t c =
    union_sides c.in-Some-split.ensures c.in_ok-low.ensures.made c.in_ok-high.ensures.made c.in_ok-node.ensures

pub returns-clause-known : goal.returns-clause-known
returns-clause-known t c = pairs_put IsUnion (result_for pair_eq c.united-2.new.known.table)
    (result_for pair_eq c.put.new.self.table) c.put.ensures.put c.test.ensures.keeps c.united-2.ensures.known
    c.requires.first c.requires.second (returns-clause-made t c)
