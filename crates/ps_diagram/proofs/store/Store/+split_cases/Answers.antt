use Rattle.std.proofs.Common.{arith, true, false}
use Rattle.std.proofs.lemmas.List.Sorted.{IsPermutation-refl}
use Rattle.ps_diagram.proofs.NodeTables.KnownLemmas.{keeps_three}
use Rattle.ps_diagram.proofs.NodeTables.MadeDiagrams.{if_made}
use Rattle.ps_diagram.proofs.TreesFromData.SplitCases.{moved_front, moved_twice, side_from, sides_made}
use Rattle.ps_diagram.proofs.store.Store.+split_cases.Goals as goal

pub returns-in_default-clause-made : goal.returns-in_default-clause-made
returns-in_default-clause-made t c =
    let free = rw c.in_default.is at c.first_tested.ensures.none in
    if_made c.of_untested.result (λ node h. h c.args.level _ free) c.of_untested.ensures.made

pub partition-lows-requires : goal.partition-lows-requires
partition-lows-requires t c = record { named = c.in-Some.ensures.few }

pub overflow_add-proposition : goal.overflow_add-proposition
overflow_add-proposition t c = omega (arith, c.in-Some.ensures.few)

pub returns-in_err-low-clause-same : goal.returns-in_err-low-clause-same
returns-in_err-low-clause-same t c =
    moved_front c.partition-lows.result c.partition-lows.ensures.same c.in_err-low.ensures.same

pub returns-in_default-2-clause-same : goal.returns-in_default-2-clause-same
returns-in_default-2-clause-same t c =
    moved_front c.partition-lows.result c.partition-lows.ensures.same c.in_ok-low.ensures.same

pub partition-highs-requires : goal.partition-highs-requires
partition-highs-requires t c = record { named = c.in-Some.ensures.few }

pub overflow_add-proposition-2 : goal.overflow_add-proposition-2
overflow_add-proposition-2 t c = omega (arith, c.in-Some.ensures.few)

pub returns-in_err-high-clause-same : goal.returns-in_err-high-clause-same
returns-in_err-high-clause-same t c = moved_twice c.partition-lows.result c.partition-highs.result
    c.partition-lows.ensures.same c.in_ok-low.ensures.same c.partition-highs.ensures.same c.in_err-high.ensures.same

pub returns-in_default-3-clause-same : goal.returns-in_default-3-clause-same
returns-in_default-3-clause-same t c = moved_twice c.partition-lows.result c.partition-highs.result
    c.partition-lows.ensures.same c.in_ok-low.ensures.same c.partition-highs.ensures.same c.in_ok-high.ensures.same

pub returns-in_err-test-clause-keeps : goal.returns-in_err-test-clause-keeps
returns-in_err-test-clause-keeps t c =
    keeps_three c.split_cases.ensures.keeps c.split_cases-2.ensures.keeps c.test.ensures.keeps

pub returns-in_err-test-clause-same : goal.returns-in_err-test-clause-same
returns-in_err-test-clause-same t c = moved_twice c.partition-lows.result c.partition-highs.result
    c.partition-lows.ensures.same c.in_ok-low.ensures.same c.partition-highs.ensures.same c.in_ok-high.ensures.same

pub returns-clause-same : goal.returns-clause-same
returns-clause-same t c = moved_twice c.partition-lows.result c.partition-highs.result
    c.partition-lows.ensures.same c.in_ok-low.ensures.same c.partition-highs.ensures.same c.in_ok-high.ensures.same

pub returns-clause-made : goal.returns-clause-made
returns-clause-made t c =
    let found = c.in-Some.ensures.some in
    let low = rw c.in-Some-2.is at c.in_ok-low.ensures.made in
    let high = rw c.in-Some-3.is at c.in_ok-high.ensures.made in
    sides_made found.0 found.1 found.2 c.requires.held c.split_cases.ensures.keeps c.split_cases-2.ensures.keeps
    c.test.ensures.keeps
    (side_from c.in-Some.proposition false _ _ _ (IsPermutation-refl _) c.partition-lows.ensures.front)
    (side_from c.in-Some.proposition true _ _ _
    (moved_front c.partition-lows.result c.partition-lows.ensures.same c.in_ok-low.ensures.same)
    c.partition-highs.ensures.front) low high c.in_ok-test.ensures.held c.in_ok-test.ensures.leaf
