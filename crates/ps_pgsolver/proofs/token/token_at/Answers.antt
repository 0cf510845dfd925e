use Rattle.std.proofs.Common.{arith, ◌≡◌, sym, ap, ◌∙◌, Some, eqb, false, rules, tests}
use Rattle.ps_pgsolver.proofs.TokensOfGames.TokenLemmas.{at_digit, at_letter, at_quote, at_punctuation, first_size-none}
use Rattle.ps_pgsolver.proofs.token.token_at.Goals as goal

pub returns-in_default-clause-size : goal.returns-in_default-clause-size
returns-in_default-clause-size c = search (rules, first_size-none)

pub returns-then-has-clause-sign : goal.returns-then-has-clause-sign
returns-then-has-clause-sign c = λ _. c.number_at.ensures.sign_is
    ∙ ap Some (sym (at_digit c.args.before.now _ _ c.in-Some.ensures.cases.0 (sym c.has.ensures ∙ c.if-has.true)).0)

pub returns-then-has-clause-size : goal.returns-then-has-clause-size
returns-then-has-clause-size c = c.number_at.ensures.size_is
    ∙ sym (at_digit c.args.before.now _ _ c.in-Some.ensures.cases.0 (sym c.has.ensures ∙ c.if-has.true)).1

pub returns-then-has-2-clause-sign : goal.returns-then-has-2-clause-sign
returns-then-has-2-clause-sign c = λ _. c.word_at.ensures.sign_is ∙ ap Some (sym (at_letter c.args.before.now _
    _ c.in-Some.ensures.cases.0 (sym c.has.ensures ∙ c.if-has.false) (sym c.has-else-has.ensures ∙ c.if-has-2.true)).0)

pub returns-then-has-2-clause-size : goal.returns-then-has-2-clause-size
returns-then-has-2-clause-size c = c.word_at.ensures.size_is ∙ sym (at_letter c.args.before.now
    _ _ c.in-Some.ensures.cases.0 (sym c.has.ensures ∙ c.if-has.false) (sym c.has-else-has.ensures ∙ c.if-has-2.true)).1

pub returns-then-first-eq34-clause-sign : goal.returns-then-first-eq34-clause-sign
returns-then-first-eq34-clause-sign c = search (rules, at_quote)

pub returns-then-first-eq34-clause-size : goal.returns-then-first-eq34-clause-size
returns-then-first-eq34-clause-size c =
    c.name_at.ensures.size_is ∙ sym (at_quote c.args.before.now _ c.in-Some.ensures.cases.0 c.if-first-eq34.true).1

pub returns-else-first-eq34-clause-sign : goal.returns-else-first-eq34-clause-sign
returns-else-first-eq34-clause-sign c = λ _. let other : eqb c.in-Some.first.now 34 ≡ false =
    search (rules, tests) in c.punctuation.ensures.sign
    ∙ ap Some (sym (at_punctuation c.args.before.now _ _ c.in-Some.ensures.cases.0
    (sym c.has.ensures ∙ c.if-has.false) (sym c.has-else-has.ensures ∙ c.if-has-2.false) other).0)

pub returns-else-first-eq34-clause-size : goal.returns-else-first-eq34-clause-size
returns-else-first-eq34-clause-size c = let other : eqb c.in-Some.first.now 34 ≡ false = search (rules, tests) in sym
    (at_punctuation c.args.before.now _ _ c.in-Some.ensures.cases.0 (sym c.has.ensures ∙ c.if-has.false) (grind arith)
    other).1
