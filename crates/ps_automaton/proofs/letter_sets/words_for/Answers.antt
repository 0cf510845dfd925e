use Rattle.std.proofs.Common.{arith, ◌≡◌, ◌≤◌, ◌*◌, ◌^◌, ◌-◌, ◌+◌, ap, ◌∙◌}
use Rattle.std.proofs.lemmas.Nat.{one_shl, pow-add}
use Rattle.std.proofs.Math.Nat.{pow-le-pow_right}
use Rattle.ps_automaton.proofs.letter_sets.words_for.Goals as goal

pub returns-then-propositions-le6-clause-enough : goal.returns-then-propositions-le6-clause-enough
returns-then-propositions-le6-clause-enough c =
    let few : 2 ^ c.args.propositions ≤ 2 ^ 6 = pow-le-pow_right (omega arith) c.if-propositions-le6.true in
    omega (arith, few)

pub returns-else-propositions-le6-clause-enough : goal.returns-else-propositions-le6-clause-enough
returns-else-propositions-le6-clause-enough c =
    let rest = c.args.propositions - 6 in
    let whole : c.args.propositions ≡ 6 + rest = omega arith in
    let both : 2 ^ c.args.propositions ≡ 64 * 2 ^ rest = ap (λ n. 2 ^ n) whole ∙ pow-add 2 6 rest in
    rw (one_shl rest 64 (omega arith)) (omega (arith, both))

pub returns-else-propositions-le6-clause-few : goal.returns-else-propositions-le6-clause-few
returns-else-propositions-le6-clause-few c =
    let rest = c.args.propositions - 6 in
    let small : rest ≤ 4 = omega arith in
    let few : 2 ^ rest ≤ 2 ^ 4 = pow-le-pow_right (omega arith) small in
    rw (one_shl rest 64 (omega arith)) (omega (arith, few))
