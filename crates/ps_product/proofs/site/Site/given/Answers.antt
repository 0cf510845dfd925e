use Rattle.std.proofs.Common.{◌≡◌, suc, ◌-◌, ◌+◌, ◌∙◌, ap, arith, length, get_or, false}
use Rattle.ps_label.specs.Truth.{is_in}
use Rattle.ps_diagram.proofs.NodeTables.Cells.{keeps_refl}
use Rattle.ps_product.specs.Inner.Nets.{value_at}
use Rattle.ps_product.proofs.CircuitFunctions.NetLemmas.{input_at, latch_at}
use Rattle.ps_product.proofs.CircuitFunctions.TruthLemmas.{placed}
use Rattle.ps_product.proofs.site.Site.given.Goals as goal

pub returns-then-place-inputs-clause-truth : goal.returns-then-place-inputs-clause-truth
returns-then-place-inputs-clause-truth c =
    let s = c.args.self in
    let k = c.args.place - 1 in
    let here : c.args.place ≡ suc k = omega arith in
    placed s (λ letter. is_in (get_or s.propositions.now k 0) letter) c.args.place _ c.proposition.ensures.keeps
    c.in_ok-truth.ensures.is_truth c.in_ok-truth.ensures.truth (λ letter values lt are.
    ap (value_at s.net.now values) here ∙ input_at c.requires.site.is_circuit s.propositions.now letter s.latches.now
    values k are (omega (arith, c.requires.site.inputs)) c.requires.site.inputs)

pub returns-clause-truth : goal.returns-clause-truth
returns-clause-truth c =
    let s = c.args.self in
    let t = c.args.truths.now in
    let n = length s.net.now.inputs in
    let k = c.args.place - length s.propositions.now - 1 in
    let here : c.args.place ≡ suc (n + k) = omega (arith, c.requires.site.inputs) in
    placed s (λ letter. get_or s.latches.now k false) c.args.place _ (keeps_refl t) (c.constant.ensures.is_truth t)
    (λ letter lt. c.constant.ensures.truth t letter) (λ letter values lt are.
    ap (value_at s.net.now values) here ∙ latch_at c.requires.site.is_circuit _ s.latches.now values k are
    (omega (arith, here, c.requires.front)))
