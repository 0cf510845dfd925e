-- Contracts of the parsing functions.
-- - `ReadsAs view part old result new`: the part was parsed, or the result is the first error of the part or out of
--   memory. `old` and `new` are the unread tokens before and after the call
-- - `Takes view take Bad piece result`: a function may return `result` for the token `piece`: the value that `take`
--   gives the token, an error of the token (`Bad`), the error that it is not allowed here, or out of memory
use Rattle.std.specs.Prelude.{◌≡◌, ◌≤◌, ◌⊎◌, Option, None, Some, Result, Ok, Err}
use Rattle.ps_text.specs.Answers.{Piece}
use Rattle.ps_text.specs.Parts.{Part, refusal_of}
use Rattle.ps_text.specs.Readers.{Meets}
use Rattle.ps_hoa.specs.Causes.{cause_number, hoa_causes, found_of}
use Rattle.ps_hoa.specs.Scan.{ScanState, stream_of}
use Rattle.ps_hoa.specs.Tokens.{Sign}
use Rattle.ps_hoa.specs.declared.fault.HoaCause.{HoaCause}
use Rattle.ps_hoa.specs.Causes.{HoaFault}
use Rattle.ps_text.specs.declared.faults.Fault.TheVariants as faults

abbrev pub ReadsAs : {V X : Type 0} → (X → V) → Part Sign V HoaCause → ScanState → Result X HoaFault → ScanState →
    Type 0
ReadsAs view part old result new = Meets found_of hoa_causes view part (stream_of old) result (stream_of new)

-- f is an error of the token (`Bad`), and no error of the token has a smaller number in psyn's list of faults
-- (`cause_number`)
pub record IsWorst (Bad : Sign → HoaCause → Type 0) (sign : Sign) (f : HoaCause) : Type 0 where
  pub stands : Bad sign f
  pub least : (g : HoaCause) → Bad sign g → cause_number f ≤ cause_number g

-- the grammar does not allow the token here, and `Bad` names no error of the token. The cause f is the one with which
-- the token is rejected wherever it occurs (`own_cause`), or `Syntax` if there is no such cause
pub record IsRefusal {V : Type 0} (take : Sign → Option V) (Bad : Sign → HoaCause → Type 0) (sign : Sign)
    (f : HoaCause) : Type 0 where
  pub none : take sign ≡ None
  pub good : (g : HoaCause) → Bad sign g → ⊥
  pub cause : f ≡ refusal_of hoa_causes (Some sign)

-- the grammar gives the token the value v, and the token has no error (`Bad`)
pub record IsTaken {V : Type 0} (take : Sign → Option V) (Bad : Sign → HoaCause → Type 0) (sign : Sign) (v : V) : Type 0
  where
    pub some : take sign ≡ Some v
    pub good : (g : HoaCause) → Bad sign g → ⊥

abbrev pub Takes : {V X : Type 0} → (X → V) → (Sign → Option V) → (Sign → HoaCause → Type 0) → Piece Sign →
    Result X HoaFault → Type 0
Takes view take Bad piece (Ok x) = IsTaken take Bad piece.sign (view x)
Takes view take Bad piece (Err (faults.Text cause offset)) =
    (offset ≡ piece.start) × (IsWorst Bad piece.sign cause ⊎ IsRefusal take Bad piece.sign cause)
Takes view take Bad piece (Err faults.OutOfMemory) = Unit {0}
