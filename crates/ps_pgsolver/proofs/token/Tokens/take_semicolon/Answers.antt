use Rattle.std.proofs.Common.{refl, sym, ◌∙◌}
use Rattle.ps_pgsolver.specs.Signs.{Semicolon}
use Rattle.ps_pgsolver.specs.declared.token.Kind.TheVariants as kinds
use Rattle.ps_pgsolver.proofs.TokensOfGames.TakenTokens.{leaves, begins_semicolon}
use Rattle.ps_pgsolver.proofs.token.Tokens.take_semicolon.Goals as goal

pub returns : goal.returns
returns c = let left = leaves c.self.inside.text.now _ _ c.self.inside.at _ 1 kinds.Semicolon Semicolon _
    c.next_start-start.ensures.start c.next_start-start.ensures.within c.split_at.ensures.front c.split_at.ensures.back
    refl (begins_semicolon _ (sym c.begins_with.ensures ∙ c.if-not-begins_with.false)) c.self.view_is in
    (left.sign_is, left.rest)
