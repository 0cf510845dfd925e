-- The result of the check that no token is left.
use Rattle.std.specs.Prelude.{◌≡◌, [], Some, Result, Ok, Err}
use Rattle.ps_text.specs.Answers.{Stream}
use Rattle.ps_text.specs.Parts.{refusal_of}
use Rattle.ps_hoa.specs.Causes.{hoa_causes}
use Rattle.ps_hoa.specs.Scan.{next_of}
use Rattle.ps_hoa.specs.Tokens.{Sign}
use Rattle.ps_hoa.specs.Causes.{HoaFault}
use Rattle.ps_text.specs.declared.faults.Fault.TheVariants.{Text}

-- either no token is left in the stream, or the next token is rejected
abbrev pub EndsHere : Stream Sign → Result (Unit {0}) HoaFault → Type 0
EndsHere stream (Ok u) = stream.pieces ≡ []
EndsHere stream (Err e) =
    (stream.pieces ≡ [] → ⊥) × (e ≡ Text (refusal_of hoa_causes (Some (next_of stream).sign)) (next_of stream).start)
