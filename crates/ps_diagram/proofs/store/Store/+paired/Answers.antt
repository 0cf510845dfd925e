use Rattle.std.proofs.Common.{◌+◌, sym, false, rules}
use Rattle.ps_diagram.specs.Inner.Kept.{result_for}
use Rattle.ps_diagram.specs.Inner.Known.{pair_eq}
use Rattle.ps_diagram.specs.Inner.Chosen.{IsPairOf}
use Rattle.ps_diagram.specs.Tree.{IsBlind}
use Rattle.ps_diagram.proofs.NodeTables.KnownLemmas.{keeps_three, keeps_trans, kept, pairs_kept, pairs_put}
use Rattle.ps_diagram.proofs.TreeOperations.Pairing.{adds_as, adds_sides, meet_side, pair_blind, pair_of_more}
use Rattle.ps_diagram.proofs.TreeOperations.Pairing.{pair_sides}
use Rattle.ps_diagram.proofs.NodeTables.MadeDiagrams.{fails, gives}
use Rattle.ps_diagram.proofs.store.Store.+paired.Goals as goal

pub returns-in-Some-clause-made : goal.returns-in-Some-clause-made
returns-in-Some-clause-made t c =
    let r = c.requires.known c.args.first c.args.second c.in-Some.made (sym c.in-Some.ensures) in gives r.2 r.3

pub returns-in_err-low-clause-adds : goal.returns-in_err-low-clause-adds
returns-in_err-low-clause-adds t c =
    let s = c.in-Some-split.ensures in
    adds_as (meet_side s.first_sides s.second_sides false) c.paired.ensures.adds

pub returns-in_err-high-clause-made : goal.returns-in_err-high-clause-made
returns-in_err-high-clause-made t c = fails (search (rules, keeps_trans)) (search rules)

pub returns-in_err-high-clause-adds : goal.returns-in_err-high-clause-adds
returns-in_err-high-clause-adds t c =
    adds_sides c.paired.ensures.made.keeps c.in-Some-split.ensures c.paired.ensures.adds c.paired-2.ensures.adds

pub test-requires-clause-low_later : goal.test-requires-clause-low_later
test-requires-clause-low_later t c =
    let s = c.in-Some-split.ensures in
    let low = c.in_ok-low.ensures.made in
    rw (c.paired-2.ensures.made.keeps.same _ low.held) (pair_blind _ c.pairs_differ.ensures _ _ _ _
    (pair_of_more c.paired-2.ensures.adds _ _ _ low.leaf) s.first_sides.low_later
    s.second_sides.low_later)

pub test-requires-clause-high_later : goal.test-requires-clause-high_later
test-requires-clause-high_later t c =
    let a = c.in-Some-split.ensures.first_sides in
    let b = c.in-Some-split.ensures.second_sides in
    let k = c.paired.ensures.made.keeps in
    let later = IsBlind (c.in-Some-split.split.proposition + 1) in
    pair_blind _ c.pairs_differ.ensures _ _ _ _ c.in_ok-high.ensures.made.leaf
    (kept later k a.high_held a.high_later) (kept later k b.high_held b.high_later)

pub returns-in_err-made-clause-made : goal.returns-in_err-made-clause-made
returns-in_err-made-clause-made t c = fails (search (rules, keeps_trans)) (search rules)

pub returns-in_err-made-clause-adds : goal.returns-in_err-made-clause-adds
returns-in_err-made-clause-adds t c =
    adds_sides c.paired.ensures.made.keeps c.in-Some-split.ensures c.paired.ensures.adds c.paired-2.ensures.adds

pub returns-in_err-made-clause-known : goal.returns-in_err-made-clause-known
returns-in_err-made-clause-known t c = search (rules, pairs_kept)

pub returns-in_err-put-clause-made : goal.returns-in_err-put-clause-made
returns-in_err-put-clause-made t c = fails
    (keeps_three c.paired.ensures.made.keeps c.paired-2.ensures.made.keeps c.test.ensures.keeps) (search rules)

pub returns-in_err-put-clause-adds : goal.returns-in_err-put-clause-adds
returns-in_err-put-clause-adds t c =
    adds_sides c.paired.ensures.made.keeps c.in-Some-split.ensures c.paired.ensures.adds c.paired-2.ensures.adds

pub returns-in_err-put-clause-known : goal.returns-in_err-put-clause-known
returns-in_err-put-clause-known t c = rw c.in_err-put.ensures.err (pairs_kept
    (IsPairOf c.paired-2.new.pairs.keys) (result_for pair_eq c.paired-2.new.known.table) c.test.ensures.keeps
    c.paired-2.ensures.known)

pub returns-clause-adds : goal.returns-clause-adds
returns-clause-adds t c =
    adds_sides c.paired.ensures.made.keeps c.in-Some-split.ensures c.paired.ensures.adds c.paired-2.ensures.adds

pub returns-clause-made : goal.returns-clause-made
returns-clause-made t c =
    pair_sides c.in-Some-split.ensures c.paired-2.ensures.adds c.in_ok-low.ensures.made c.in_ok-high.ensures.made
    c.in_ok-made.ensures

pub returns-clause-known : goal.returns-clause-known
returns-clause-known t c = pairs_put (IsPairOf c.paired-2.new.pairs.keys) (result_for pair_eq c.paired-2.new.known.table)
    (result_for pair_eq c.put.new.self.table) c.put.ensures.put c.test.ensures.keeps c.paired-2.ensures.known
    c.requires.first c.requires.second (returns-clause-made t c)
