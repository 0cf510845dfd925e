use Rattle.std.proofs.Common.{arith, refl}
use Rattle.std.proofs.lemmas.Bool.{iff_false}
use Rattle.ps_text.proofs.Combinators.Barred.{reads_barred, stops_barred, stops_bar}
use Rattle.ps_hoa.specs.Causes.{hoa_causes}
use Rattle.ps_hoa.specs.Grammar.Header.{IsAlternating}
use Rattle.ps_hoa.specs.Grammar.Operands.{number_limit}
use Rattle.ps_hoa.specs.Scan.{stream_of, next_of}
use Rattle.ps_hoa.specs.declared.fault.HoaCause.TheVariants.{Alternating}
use Rattle.ps_hoa.proofs.Grammar.HeaderSigns.{least_same}
use Rattle.ps_hoa.proofs.Grammar.OperandLaws.{nothing_apart}
use Rattle.ps_hoa.proofs.Grammar.TokenLaws.{laws_int}
use Rattle.ps_hoa.proofs.Reading.HoaExits.{exit, here}
use Rattle.ps_hoa.proofs.Reading.NextSign.{next_there, next_same, start_there}
use Rattle.ps_hoa.proofs.signs.start_state.Goals as goal

pub returns-in_err-state : goal.returns-in_err-state
returns-in_err-state c = exit (λ n. n) _ _ _ here (stops_barred IsAlternating (laws_int number_limit) (nothing_apart _)
    hoa_causes _ _ c.in_err-state.ensures.part) c.from_residual.ensures.1

pub returns-then-is_at : goal.returns-then-is_at
returns-then-is_at c = let s = stream_of c.int.new.tokens in
    stops_bar IsAlternating (laws_int number_limit) (nothing_apart _) hoa_causes c.in_ok-state.ensures.part
    (next_of s).sign Alternating _ (next_there s (λ e. let is = c.is_at.ensures.0 c.if-is_at.true in cc))
    (c.is_at.ensures.0 c.if-is_at.true, refl) (λ g b. least_same Alternating g b.1) (grind (arith, start_there))

pub returns : goal.returns
returns c = grind (arith, reads_barred, laws_int, nothing_apart, iff_false, next_same)
