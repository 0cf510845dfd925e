use Rattle.std.proofs.Common.{◌^◌, List, ℕ, subst}
use Rattle.ps_tableau_product.specs.Inner.Alphabets.{AreMet}
use Rattle.ps_tableau_product.proofs.alphabet.Alphabet.met.Goals as goal

pub returns-in-Some-clause-met : goal.returns-in-Some-clause-met
returns-in-Some-clause-met c =
    let kept = rw c.in-Some.is at c.in_ok-found.ensures in
    let plan = c.args.plan in
    subst (λ (list : List (ℕ × ℕ)). AreMet (2 ^ plan.count) plan.places.now plan.automaton.now c.args.own
    c.args.guards.now c.args.guard list) kept.is
    (c.requires.alphabet.of_pairs.each kept.place (c.args.guard, c.args.own) kept.found kept.there kept.at)
