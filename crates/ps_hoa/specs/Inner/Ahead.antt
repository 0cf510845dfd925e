-- The checks of the next token in the parser of the body, made before the token is read.
use Rattle.std.specs.Prelude.{◌≡◌, ◌≢◌, Bool, true, false, Result, Ok, Err}
use Rattle.ps_text.specs.Answers.{Piece}
use Rattle.ps_hoa.specs.Tokens.{Sign}
use Rattle.ps_hoa.specs.declared.fault.HoaCause.TheVariants.{Alternating}
use Rattle.ps_hoa.specs.Causes.{HoaFault}
use Rattle.ps_text.specs.declared.faults.Fault.TheVariants.{Text}
use Rattle.ps_hoa.specs.declared.tokens.Kind.{Kind}
use Rattle.ps_hoa.specs.declared.tokens.Kind.TheVariants.{And, LeftBracket, Int}

-- the next token is not `&`
abbrev pub StandsAlone : Piece Sign → Result (Unit {0}) HoaFault → Type 0
StandsAlone next (Ok u) = next.sign.kind ≢ And
StandsAlone next (Err e) = (next.sign.kind ≡ And) × (e ≡ Text Alternating next.start)

-- the kinds of tokens that begin an edge
abbrev pub begins_edge : Kind → Bool
begins_edge LeftBracket = true
begins_edge Int = true
begins_edge kind = false
