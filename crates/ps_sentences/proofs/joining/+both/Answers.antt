use Rattle.std.proofs.Common.{arith, refl, rules}
use Rattle.std.proofs.lemmas.Result.{IfOk-weaker}
use Rattle.ps_sentences.proofs.LayerLemmas.{is_still_layer}
use Rattle.ps_sentences.proofs.SharingLemmas.{joined_true, joined_two, joined_within, over_layer}
use Rattle.ps_sentences.proofs.joining.+both.Goals as goal

pub returns-then-is_true : goal.returns-then-is_true
returns-then-is_true t c =
    joined_true c.args.table.now c.args.first c.args.second (c.if-is_true.ensures refl) c.requires.second

pub both-requires : goal.both-requires
both-requires t c =
    let shared = c.in-Some.ensures in (
      first_of (omega (arith, c.decreases, c.if-depth-gt0.true), search (rules, c.decreases, c.if-depth-gt0.true)),
      (shared.first_there, shared.second_there),
    )

pub add-requires : goal.add-requires
add-requires t c =
    let shared = c.in-Some.ensures in
    let joined = c.in_ok-inner-in-Some.ensures in
    rw c.around.ensures (over_layer c.both.new.table c.in-Some.shared.layer c.in_ok-inner-in-Some.inner
    (is_still_layer joined.grows c.in-Some.shared.layer shared.layer) joined.there)

pub returns-in_ok-inner-in-Some : goal.returns-in_ok-inner-in-Some
returns-in_ok-inner-in-Some t c =
    let shared = c.in-Some.ensures in
    let joined = c.in_ok-inner-in-Some.ensures in
    IfOk-weaker c.add.result _ _ (λ index added.
    joined_within c.in-Some.shared shared joined (rw c.around.ensures at added) c.add.ensures.table) c.add.ensures.ok

pub returns-in_default : goal.returns-in_default
returns-in_default t c =
    IfOk-weaker c.add-in_default.result _ _ (λ index added.
    joined_two c.requires.first c.requires.second added c.add-in_default.ensures.table)
    c.add-in_default.ensures.ok
