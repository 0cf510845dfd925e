-- A formula is read by operator precedence. What stands before the operand that is read now is a stack, the last first:
-- operators before their operand, parentheses, and operators with their first operand. Operands and operators with
-- complete operands are a list, each operator behind its operands.
-- - `unwound sweep frames ops`: the operators whose operands are complete go from the stack to the list
-- - `may_follow op top`: whether the operator may follow what is left: a mix of operators that wants parentheses is
--   refused
-- - `at_operand names work token`: after a token where an operand begins
-- - `with_infix op work token`, `with_paren work token`, `ended work`: behind an operand, after an operator, after `)`,
--   and at the end of a formula
use Rattle.std.specs.Prelude.{ℕ, ◌+◌, Bool, true, false, List, [], ◌∷◌, ◌++◌, if◌then◌else◌, nat_le}
use Rattle.std.specs.Prelude.{Option, None, Some, Result, Ok, Err}
use Rattle.ps_text.specs.Answers.{first_of}
use Rattle.ps_tlsf.specs.Lexicon.{Token}
use Rattle.ps_tlsf.specs.Names.{Name, number_of}
use Rattle.ps_tlsf.specs.Words.{is_word}
use Rattle.ps_tlsf.specs.declared.fault.TlsfCause.{TlsfCause}
use Rattle.ps_tlsf.specs.declared.fault.TlsfCause.TheVariants as causes
use Rattle.ps_tlsf.specs.declared.words.Infix.{Infix}
use Rattle.ps_tlsf.specs.declared.words.Infix.TheVariants as infixes
use Rattle.ps_tlsf.specs.declared.words.Sign.{Sign}
use Rattle.ps_tlsf.specs.declared.words.Sign.TheVariants as signs
use Rattle.ps_tlsf.specs.declared.stack.Form.{Form}
use Rattle.ps_tlsf.specs.declared.stack.Form.TheVariants as forms
use Rattle.ps_tlsf.specs.declared.stack.Frame.{Frame}
use Rattle.ps_tlsf.specs.declared.stack.Op.{Op}
use Rattle.ps_tlsf.specs.declared.stack.Op.TheVariants as ops
use Rattle.ps_tlsf.specs.declared.stack.Sweep.{Sweep}
use Rattle.ps_tlsf.specs.declared.stack.Sweep.TheVariants as sweeps

-- ## The stack

-- whether the second operator binds tighter than the first; `&&` and `||` group to the left
abbrev pub binds : Infix → Infix → Bool
binds infixes.And infixes.And = true
binds infixes.Or infixes.And = true
binds infixes.Or infixes.Or = true
binds infixes.Implies infixes.And = true
binds infixes.Implies infixes.Or = true
binds infixes.Iff infixes.And = true
binds infixes.Iff infixes.Or = true
binds outer inner = false

-- the operator whose operands are complete, if they are
abbrev pub taken : Sweep → Form → Option Op
taken sweeps.Prefixes (forms.Prefix prefix) = Some (ops.Prefix prefix)
taken (sweeps.Before outer) (forms.Infix inner) = if binds outer inner then Some (ops.Infix inner) else None
taken sweeps.Row (forms.Infix inner) = Some (ops.Infix inner)
taken sweep form = None

abbrev pub taken_top : Sweep → List Frame → Option Op
taken_top sweep [] = None
taken_top sweep (frame ∷ frames) = taken sweep frame.form

abbrev pub tail_of : List Frame → List Frame
tail_of [] = []
tail_of (frame ∷ frames) = frames

-- the stack and the list
pub record Lists : Type 0 where
  pub frames : List Frame
  pub ops : List Op

unfoldable pub unwound : Sweep → List Frame → List Op → Lists
unwound sweep [] list = record { frames = []; ops = list }
unwound sweep (frame ∷ frames) list =
    elim (taken sweep frame.form) [
      | None ↦ record { frames = frame ∷ frames; ops = list }
      | Some op ↦ unwound sweep frames (list ++ op ∷ [])
    ]

-- `->` may follow `->`, and no operator may follow `<->`, `U`, `R` or `W` unless it binds tighter than `<->`
abbrev pub may_follow : Infix → Option Form → Bool
may_follow operator None = true
may_follow operator (Some forms.Paren) = true
may_follow infixes.And (Some (forms.Infix infixes.Or)) = true
may_follow infixes.And (Some (forms.Infix infixes.Implies)) = true
may_follow infixes.And (Some (forms.Infix infixes.Iff)) = true
may_follow infixes.Or (Some (forms.Infix infixes.Implies)) = true
may_follow infixes.Or (Some (forms.Infix infixes.Iff)) = true
may_follow infixes.Implies (Some (forms.Infix infixes.Implies)) = true
may_follow operator form = false

abbrev pub form_of : Option Frame → Option Form
form_of None = None
form_of (Some frame) = Some frame.form

abbrev pub top_form : List Frame → Option Form
top_form frames = form_of (first_of frames)

-- the number of operators before an operand and of parentheses on the stack
abbrev pub depth_of : List Frame → ℕ
depth_of [] = 0
depth_of (frame ∷ frames) = frame.depth

-- ## The work on a formula

-- `used` is the number of operators and operands so far, in all formulas. The formula begins at the offset `start`, and
-- its last operand ends at the offset `stop`.
pub record Work : Type 0 where
  pub frames : List Frame
  pub ops : List Op
  pub used : ℕ
  pub start : ℕ
  pub stop : ℕ

-- the greatest number of operators and operands, and the greatest nesting
abbrev pub use_limit : ℕ
use_limit = 65535

abbrev pub nesting_limit : ℕ
nesting_limit = 256

-- after an operand that ends at the offset `stop`
abbrev pub with_operand : Work → List Frame → List Op → ℕ → Work
with_operand work frames list stop =
    let lists : Lists = unwound sweeps.Prefixes frames list in
    record work { frames = lists.frames; ops = lists.ops; stop = stop }

abbrev pub counted : Work → Result Work TlsfCause
counted work = if nat_le use_limit work.used then Err causes.Limit else Ok (record work { used = work.used + 1 })

abbrev pub nested : Form → Work → Result Work TlsfCause
nested form work =
    if nat_le nesting_limit (depth_of work.frames) then Err causes.Limit
    else Ok (record work { frames = record { form = form; depth = depth_of work.frames + 1 } ∷ work.frames })

abbrev pub and_then : Result Work TlsfCause → (Work → Result Work TlsfCause) → Result Work TlsfCause
and_then (Ok work) next = next work
and_then (Err cause) next = Err cause

-- after an operand that is a single token
abbrev pub with_leaf : Op → ℕ → Work → Result Work TlsfCause
with_leaf op stop work =
    and_then (counted work) (λ w. Ok (with_operand w w.frames (w.ops ++ op ∷ []) stop))

abbrev pub with_name : Option ℕ → ℕ → Work → Result Work TlsfCause
with_name None stop work = Err causes.Name
with_name (Some number) stop work = with_leaf (ops.Proposition number) stop work

abbrev pub at_operand : List Name → Work → Token → Sign → Result Work TlsfCause
at_operand names work token (signs.Prefix prefix) = and_then (counted work) (nested (forms.Prefix prefix))
at_operand names work token signs.LeftParen = nested forms.Paren work
at_operand names work token (signs.Constant value) = with_leaf (ops.Constant value) token.stop work
at_operand names work token (signs.Infix operator) = Err causes.Syntax
at_operand names work token sign =
    if is_word sign then with_name (number_of names token.text) token.stop work else Err causes.Syntax

-- an operator with its first operand is put on the stack
abbrev pub begun : Infix → Lists → Work → Work
begun operator lists work =
    record work {
      frames = record { form = forms.Infix operator; depth = depth_of lists.frames } ∷ lists.frames;
      ops = lists.ops;
    }

abbrev pub with_infix : Infix → Work → Result Work TlsfCause
with_infix operator work =
    let lists : Lists = unwound (sweeps.Before operator) work.frames work.ops in
    if may_follow operator (top_form lists.frames) then and_then (counted work) (λ w. Ok (begun operator lists w))
    else Err causes.Syntax

abbrev pub is_paren : Option Form → Bool
is_paren (Some forms.Paren) = true
is_paren form = false

abbrev pub with_paren : ℕ → Work → Result Work TlsfCause
with_paren stop work =
    let lists : Lists = unwound sweeps.Row work.frames work.ops in
    if is_paren (top_form lists.frames) then Ok (with_operand work (tail_of lists.frames) lists.ops stop)
    else Err causes.Syntax

abbrev pub is_bottom : Option Form → Bool
is_bottom None = true
is_bottom form = false

abbrev pub ended : Work → Result Work TlsfCause
ended work =
    let lists : Lists = unwound sweeps.Row work.frames work.ops in
    if is_bottom (top_form lists.frames) then Ok (record work { frames = lists.frames; ops = lists.ops })
    else Err causes.Syntax
