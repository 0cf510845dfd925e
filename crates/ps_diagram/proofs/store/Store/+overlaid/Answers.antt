use Rattle.std.proofs.Common.{sym, true, false, rules}
use Rattle.ps_diagram.specs.Inner.Kept.{result_for}
use Rattle.ps_diagram.specs.Inner.Known.{IsOverlay, pair_eq}
use Rattle.ps_diagram.proofs.NodeTables.KnownLemmas.{keeps_three, keeps_trans, pairs_kept, pairs_put}
use Rattle.ps_diagram.proofs.TreeOperations.Joining.{overlay_sides, clash_side, clash_passes}
use Rattle.ps_diagram.proofs.NodeTables.MadeDiagrams.{fails, gives}
use Rattle.ps_diagram.proofs.store.Store.+overlaid.Goals as goal

pub returns-in-Some-clause-made : goal.returns-in-Some-clause-made
returns-in-Some-clause-made t c =
    let r = c.requires.known c.args.first c.args.second c.in-Some.node (sym c.in-Some.ensures) in gives r.2 r.3

pub returns-in_err-low-clause-clash : goal.returns-in_err-low-clause-clash
returns-in_err-low-clause-clash t c =
    let s = c.in-Some-split.ensures in
    clash_passes _ _ _ _ c.from_residual.ensures.1
    (clash_side s.first_sides s.second_sides false _ c.in_err-low.ensures.clash)

pub returns-in_err-high-clause-made : goal.returns-in_err-high-clause-made
returns-in_err-high-clause-made t c = fails (search (rules, keeps_trans)) (search rules)

pub returns-in_err-high-clause-clash : goal.returns-in_err-high-clause-clash
returns-in_err-high-clause-clash t c =
    let a = c.in-Some-split.ensures.first_sides in
    let b = c.in-Some-split.ensures.second_sides in
    let k = c.overlaid.ensures.made.keeps in
    clash_passes _ _ _ _ c.from_residual-in_err-high.ensures.1 (clash_side a b true c.in_err-high.field-0.0
    (rw (← k.same _ a.high_held, ← k.same _ b.high_held) c.in_err-high.ensures.clash))

pub returns-in_err-node-clause-made : goal.returns-in_err-node-clause-made
returns-in_err-node-clause-made t c = fails (search (rules, keeps_trans)) (search rules)

pub returns-in_err-node-clause-known : goal.returns-in_err-node-clause-known
returns-in_err-node-clause-known t c = search (rules, pairs_kept)

pub returns-in_err-put-clause-made : goal.returns-in_err-put-clause-made
returns-in_err-put-clause-made t c = fails
    (keeps_three c.overlaid.ensures.made.keeps c.overlaid-2.ensures.made.keeps c.test.ensures.keeps) (search rules)

pub returns-in_err-put-clause-known : goal.returns-in_err-put-clause-known
returns-in_err-put-clause-known t c = rw c.in_err-put.ensures.err
    (pairs_kept IsOverlay (result_for pair_eq c.overlaid-2.new.known.table) c.test.ensures.keeps
    c.overlaid-2.ensures.known)

pub returns-clause-made : goal.returns-clause-made
returns-clause-made t c =
    overlay_sides c.in-Some-split.ensures c.in_ok-low.ensures.made c.in_ok-high.ensures.made c.in_ok-node.ensures

pub returns-clause-known : goal.returns-clause-known
returns-clause-known t c = pairs_put IsOverlay (result_for pair_eq c.overlaid-2.new.known.table)
    (result_for pair_eq c.put.new.self.table) c.put.ensures.put c.test.ensures.keeps c.overlaid-2.ensures.known
    c.requires.first c.requires.second (returns-clause-made t c)
