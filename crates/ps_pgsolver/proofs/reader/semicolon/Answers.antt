use Rattle.std.proofs.Common.{arith, sym, ap, subst}
use Rattle.ps_text.specs.Answers.{offset_of}
use Rattle.ps_pgsolver.specs.Inner.Answered.{semicolon_answer}
use Rattle.ps_pgsolver.specs.Heads.{TakesIfNext}
use Rattle.ps_pgsolver.specs.Signs.{Semicolon}
use Rattle.ps_pgsolver.proofs.TokensOfGames.SingleSigns.{reads_semicolon}
use Rattle.ps_pgsolver.proofs.reader.semicolon.Goals as goal

pub returns-then-take_semicolon : goal.returns-then-take_semicolon
returns-then-take_semicolon c =
    let old = c.args.tokens.now in
    let taken = subst (λ b. TakesIfNext Semicolon old b c.take_semicolon.new.self) c.if-take_semicolon.true
    c.take_semicolon.ensures in
    reads_semicolon old taken.1 (ap (λ o. semicolon_answer o (offset_of old.pieces old.end)) (sym taken.0))

pub returns : goal.returns
returns c = grind (arith, reads_semicolon)
