use Rattle.std.proofs.Common.{sym, rules}
use Rattle.ps_diagram.specs.Inner.Kept.{result_for}
use Rattle.ps_diagram.specs.Inner.Rests.{test_eq}
use Rattle.ps_diagram.proofs.NodeTables.KnownLemmas.{keeps_three, keeps_trans}
use Rattle.ps_diagram.proofs.TreeOperations.Choosing.{chosen_sides, triples_kept, triples_put}
use Rattle.ps_diagram.proofs.NodeTables.MadeDiagrams.{fails, gives}
use Rattle.ps_diagram.proofs.store.Store.+chosen.Goals as goal

pub returns-in-Some-clause-made : goal.returns-in-Some-clause-made
returns-in-Some-clause-made t c =
    let r = c.requires.known c.args.truth c.args.one c.args.other c.in-Some.made (sym c.in-Some.ensures) in
    gives r.3 r.4

pub chosen-requires-2 : goal.chosen-requires-2
chosen-requires-2 t c =
    let s = c.cut-proposition.ensures in
    let k = c.chosen.ensures.made.keeps in (
      search rules,
      (
        k.held _ s.truth_sides.high_held,
        (k.held _ s.one_sides.high_held, (k.held _ s.other_sides.high_held, c.chosen.ensures.known)),
      ),
    )

pub returns-in_err-high-clause-made : goal.returns-in_err-high-clause-made
returns-in_err-high-clause-made t c = fails (search (rules, keeps_trans)) (search rules)

pub returns-in_err-made-clause-made : goal.returns-in_err-made-clause-made
returns-in_err-made-clause-made t c = fails (search (rules, keeps_trans)) (search rules)

pub returns-in_err-made-clause-known : goal.returns-in_err-made-clause-known
returns-in_err-made-clause-known t c = search (rules, triples_kept)

pub returns-in_err-put-clause-made : goal.returns-in_err-put-clause-made
returns-in_err-put-clause-made t c = fails
    (keeps_three c.chosen.ensures.made.keeps c.chosen-2.ensures.made.keeps c.test.ensures.keeps) (search rules)

pub returns-in_err-put-clause-known : goal.returns-in_err-put-clause-known
returns-in_err-put-clause-known t c = rw c.in_err-put.ensures.err
    (triples_kept (result_for test_eq c.chosen-2.new.known.table) c.test.ensures.keeps c.chosen-2.ensures.known)

pub returns-clause-made : goal.returns-clause-made
returns-clause-made t c =
    chosen_sides c.cut-proposition.ensures c.in_ok-low.ensures.made c.in_ok-high.ensures.made c.in_ok-made.ensures

pub returns-clause-known : goal.returns-clause-known
returns-clause-known t c = triples_put (result_for test_eq c.chosen-2.new.known.table) (result_for test_eq c.put.new.self.table)
    c.put.ensures.put c.test.ensures.keeps c.chosen-2.ensures.known c.requires.truth c.requires.one c.requires.other
    (returns-clause-made t c)
