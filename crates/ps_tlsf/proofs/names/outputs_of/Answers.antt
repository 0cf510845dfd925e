use Rattle.std.proofs.Common.{◌≡◌, ◌∙◌, ℕ, ◌+◌, ◌++◌, Bool, true, false, cond, List, [], ◌∷◌, length, map, take, get_or}
use Rattle.std.proofs.Common.{append-nil, arith, ap, ap₂, sym, ◌<◌}
use Rattle.std.proofs.lemmas.List.{length-map, length-take-le, map-append, take_more}
use Rattle.ps_tlsf.specs.Names.{Name, is_output, outputs_from, outputs_in}
use Rattle.ps_tlsf.specs.NameViews.{name_data}
use Rattle.ps_tlsf.specs.declared.names.Proposition.{Proposition}
use Rattle.ps_tlsf.proofs.names.outputs_of.Goals as goal
use Rattle.ps_tlsf.proofs.names.outputs_of.Goals.{then-is_output+in_ok-push, else-is_output}

-- a further name, whose number is `last`
outputs-push : (from : ℕ) (ns : List Name) (n : Name) (last : ℕ) → last ≡ from + length ns →
    outputs_from from (ns ++ n ∷ []) ≡ outputs_from from ns ++ cond (is_output n.side) (last ∷ []) []
outputs-push from [] n last e = let same : last ≡ from = omega (arith, e) in grind arith
outputs-push from (m ∷ ns) n last e = by (is_output m.side) (outputs_from (from + 1) (ns ++ n ∷ []))
    (outputs_from (from + 1) ns) (cond (is_output n.side) (last ∷ []) [])
    (outputs-push (from + 1) ns n last (omega (arith, e)))
  where
    by : (b : Bool) (xs ys zs : List ℕ) → xs ≡ ys ++ zs → cond b (from ∷ xs) xs ≡ cond b (from ∷ ys) ys ++ zs
    by true xs ys zs same = ap (λ (l : List ℕ). from ∷ l) same
    by false xs ys zs same = same

-- the outputs so far, with the number `i` if the next name is an output
all_so_far : (ps : List Proposition) (i : ℕ) (p : Proposition) (outputs new : List ℕ) (out : Bool) → i < length ps →
    p ≡ get_or ps i p → out ≡ is_output p.side → outputs ≡ outputs_in (map name_data (take i ps)) →
    new ≡ outputs ++ cond out (i ∷ []) [] → new ≡ outputs_in (map name_data (take (i + 1) ps))
all_so_far ps i p outputs new out within is told so_far now =
    let n = name_data (get_or ps i p) in
    let count : i ≡ 0 + length (map name_data (take i ps)) =
    omega (arith, length-map (take i ps) name_data, length-take-le i ps (omega (arith, within))) in
    now ∙ ap₂ (λ (xs : List ℕ) (b : Bool). xs ++ cond b (i ∷ []) []) so_far
    (told ∙ ap (λ (q : Proposition). is_output q.side) is)
    ∙ sym (outputs-push 0 (map name_data (take i ps)) n i count)
    ∙ ap outputs_in (sym (map-append name_data (take i ps) (get_or ps i p ∷ [])))
    ∙ ap (λ (l : List Proposition). outputs_in (map name_data l)) (sym (take_more ps i p within))

pub loop-number-preserved : goal.loop-number-preserved
loop-number-preserved c =
    let i = c.loop-number.number in
    let ps = c.args.propositions.now in
    let p = c.index-propositions-number.result in
    all_so_far ps i p c.loop-number.outputs.items c.if-is_output.outputs.items c.is_output.result
    c.loop-number-test.true
    c.index-propositions-number.is c.is_output.ensures c.loop-number.invariant
    (elim c.if-is_output.branch [
      | then-is_output+in_ok-push w ↦
          grind (arith, append-nil, w.outputs-is, w.in_ok-push.ensures.items, w.if-is_output.true)
      | else-is_output w ↦ grind (arith, append-nil, w.outputs-is, w.if-is_output.false)
    ])
