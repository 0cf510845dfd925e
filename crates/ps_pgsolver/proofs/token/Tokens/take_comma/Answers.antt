use Rattle.std.proofs.Common.{refl, sym, ◌∙◌, arith}
use Rattle.ps_pgsolver.specs.Signs.{Comma}
use Rattle.ps_pgsolver.specs.declared.token.Kind.TheVariants as kinds
use Rattle.ps_pgsolver.proofs.TokensOfGames.NextSigns.{next_sign, at_comma}
use Rattle.ps_pgsolver.proofs.TokensOfGames.TakenTokens.{leaves, begins_comma}
use Rattle.ps_pgsolver.proofs.token.Tokens.take_comma.Goals as goal

pub returns-clause-taken : goal.returns-clause-taken
returns-clause-taken c = let left = leaves c.self.inside.text.now _ _ c.self.inside.at _ 1 kinds.Comma Comma _
    c.next_start-start.ensures.start c.next_start-start.ensures.within c.split_at.ensures.front c.split_at.ensures.back
    refl (begins_comma _ (sym c.begins_with.ensures ∙ c.if-not-begins_with.false)) c.self.view_is in
    (left.sign_is, left.rest)

pub returns-clause-exact : goal.returns-clause-exact
returns-clause-exact c = grind (arith, next_sign, at_comma)

pub returns-then-not-begins_with-clause-exact : goal.returns-then-not-begins_with-clause-exact
returns-then-not-begins_with-clause-exact c = grind (arith, next_sign, at_comma)
