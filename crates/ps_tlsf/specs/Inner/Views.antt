-- What the code's values stand for in the definitions.
use Rattle.std.specs.Prelude.{◌≡◌, ℕ, List, [], ◌∷◌, Option, None, Some, Result, Ok, Err}
use Rattle.ps_text.specs.declared.faults.Fault.TheVariants.{Text, OutOfMemory}
use Rattle.ps_tlsf.specs.Causes.{TlsfFault}
use Rattle.ps_tlsf.specs.Lexicon as lexicon
use Rattle.ps_tlsf.specs.Machines as machines
use Rattle.ps_tlsf.specs.declared.fault.TlsfCause.{TlsfCause}
use Rattle.ps_tlsf.specs.declared.stack.Frame.{Frame}
use Rattle.ps_tlsf.specs.declared.stack.Op.{Op}
use Rattle.ps_tlsf.specs.declared.tokens.Token.{Token}
use Rattle.ps_tlsf.specs.declared.work.Work.{Work}

abbrev pub token_data : Token → lexicon.Token
token_data token =
    record { sign = token.sign; text = token.text.now; start = token.start; stop = token.stop }

-- the next token, if there is one, was taken
abbrev pub Takes : List lexicon.Token → Option Token → List lexicon.Token → Type 0
Takes old None new = (old ≡ []) × (new ≡ [])
Takes old (Some token) new = old ≡ token_data token ∷ new

abbrev pub work_data : Work → machines.Work
work_data w = record { frames = w.stack; ops = w.ops.items; used = w.used; start = w.start; stop = w.stop }

pub record IsUnwound (lists : machines.Lists) (frames : List Frame) (ops : List Op) : Type 0 where
  pub frames_are : frames ≡ lists.frames
  pub ops_are : ops ≡ lists.ops

-- a function returns the answer, a fault at the given offset with the answer's cause, or out of memory
abbrev pub Steps : {S : Type 0} → Result S TlsfCause → ℕ → Result (Unit {0}) TlsfFault → S → Type 0
Steps answer at (Ok u) new = answer ≡ Ok new
Steps answer at (Err (Text cause offset)) new = (answer ≡ Err cause) × (offset ≡ at)
Steps answer at (Err OutOfMemory) new = Unit {0}
