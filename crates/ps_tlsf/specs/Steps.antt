-- The step from token to token through a specification.
-- - `State`: what was read so far
-- - `step state token`: after a token; or why the token is refused
-- - `run state tokens`: after all tokens; or the first fault
use Rattle.std.specs.Prelude.{ℕ, List, [], ◌∷◌, ◌++◌, if◌then◌else◌, Option, None, Some, Result, Ok, Err}
use Rattle.ps_text.specs.Answers.{Found}
use Rattle.ps_tlsf.specs.Headings.{no_heading, has_item, has_list, with_item, with_list, agrees, heading_behind}
use Rattle.ps_tlsf.specs.Lexicon.{Token}
use Rattle.ps_tlsf.specs.Machines.{Work, at_operand, with_infix, with_paren, ended}
use Rattle.ps_tlsf.specs.Names.{Name, name_cause}
use Rattle.ps_tlsf.specs.Phases.{goes}
use Rattle.ps_tlsf.specs.declared.fault.TlsfCause.{TlsfCause}
use Rattle.ps_tlsf.specs.declared.fault.TlsfCause.TheVariants as causes
use Rattle.ps_tlsf.specs.declared.heading.Heading.{Heading}
use Rattle.ps_tlsf.specs.declared.words.Section.{Section}
use Rattle.ps_tlsf.specs.declared.words.Sign.{Sign}
use Rattle.ps_tlsf.specs.declared.words.Sign.TheVariants as signs
use Rattle.ps_tlsf.specs.declared.phases.Block.TheVariants as blocks
use Rattle.ps_tlsf.specs.declared.phases.Phase.{Phase}
use Rattle.ps_tlsf.specs.declared.phases.Phase.TheVariants as phases
use Rattle.ps_tlsf.specs.declared.stack.Op.{Op}

-- a formula of a section: its bytes are from the offset `start` up to `stop`; its operands and operators, each operator
-- behind its operands
pub record Written : Type 0 where
  pub section : Section
  pub start : ℕ
  pub stop : ℕ
  pub ops : List Op

pub record State : Type 0 where
  pub phase : Phase
  pub heading : Heading
  pub names : List Name
  pub work : Work
  pub formulas : List Written

abbrev pub fresh : State
fresh = record {
  phase = phases.Info;
  heading = no_heading;
  names = [];
  work = record { frames = []; ops = []; used = 0; start = 0; stop = 0 };
  formulas = [];
}

-- ## Outside formulas

-- why a token is refused although the grammar allows it, and goes on at `next`
abbrev pub bars : Phase → State → Token → Option TlsfCause
bars (phases.Colon item) s t = if has_item s.heading item then Some causes.Twice else None
bars (phases.Brace (blocks.Names side)) s t = if has_list s.heading side then Some causes.Twice else None
bars phases.MainBrace s t = if agrees s.heading then None else Some causes.Order
bars (phases.BehindName side) s t = name_cause s.names t.sign t.text
bars phase s t = None

abbrev pub marked : Phase → Heading → Heading
marked (phases.Colon item) h = with_item h item
marked (phases.Brace (blocks.Names side)) h = with_list h side
marked phase h = h

abbrev pub declared_by : Phase → Token → List Name → List Name
declared_by (phases.BehindName side) t names = names ++ record { name = t.text; side = side } ∷ []
declared_by phase t names = names

abbrev pub moved : Phase → State → Token → State
moved next s t = record s {
  phase = next;
  heading = marked next (heading_behind s.phase t s.heading);
  names = declared_by next t s.names;
}

abbrev pub unless : Option TlsfCause → State → Result State TlsfCause
unless None s = Ok s
unless (Some cause) s = Err cause

abbrev pub plain_step : Phase → State → Token → Result State TlsfCause
plain_step next s t = unless (bars next s t) (moved next s t)

-- ## In formulas

abbrev pub phase_behind : Section → Sign → Phase
phase_behind section (signs.Prefix prefix) = phases.Operand section
phase_behind section signs.LeftParen = phases.Operand section
phase_behind section sign = phases.Behind section

abbrev pub at_work : Phase → State → Result Work TlsfCause → Result State TlsfCause
at_work next s (Ok work) = Ok (record s { phase = next; work = work })
at_work next s (Err cause) = Err cause

abbrev pub operand_step : Section → State → Token → Result State TlsfCause
operand_step section s t = at_work (phase_behind section t.sign) s (at_operand s.names s.work t t.sign)

abbrev pub finished : Section → Phase → State → Result Work TlsfCause → Result State TlsfCause
finished section next s (Ok work) = Ok (record s {
  phase = next;
  work = record work { ops = [] };
  formulas = s.formulas ++ record { section = section; start = work.start; stop = work.stop; ops = work.ops } ∷ [];
})
finished section next s (Err cause) = Err cause

abbrev pub with_formula : Section → Phase → State → Result State TlsfCause
with_formula section next s = finished section next s (ended s.work)

abbrev pub behind_step : Section → State → Token → Sign → Result State TlsfCause
behind_step section s t (signs.Infix operator) = at_work (phases.Operand section) s (with_infix operator s.work)
behind_step section s t signs.RightParen = at_work s.phase s (with_paren t.stop s.work)
behind_step section s t signs.Semicolon = with_formula section (phases.Formulas section) s
behind_step section s t signs.RightBrace = with_formula section phases.Sections s
behind_step section s t sign = Err causes.Syntax

abbrev pub from_start : State → Token → State
from_start s t = record s { work = record s.work { start = t.start } }

abbrev pub formula_step : Phase → State → Token → Result State TlsfCause
formula_step (phases.Formulas section) s t = operand_step section (from_start s t) t
formula_step (phases.Operand section) s t = operand_step section s t
formula_step (phases.Behind section) s t = behind_step section s t t.sign
formula_step phase s t = Err causes.Syntax

-- ## Any token

abbrev pub step_by : Option Phase → State → Token → Result State TlsfCause
step_by (Some next) s t = plain_step next s t
step_by None s t = formula_step s.phase s t

unfoldable pub step : State → Token → Result State TlsfCause
step s t = step_by (goes s.phase t.sign) s t

-- what follows a step at the offset `at`; or the fault
abbrev pub on_ok : Result State TlsfCause → ℕ → (State → Result State (Found TlsfCause)) →
    Result State (Found TlsfCause)
on_ok (Ok next) at go = go next
on_ok (Err cause) at go = Err (record { cause = cause; offset = at })

unfoldable pub run : State → List Token → Result State (Found TlsfCause)
run s [] = Ok s
run s (t ∷ ts) = on_ok (step s t) t.start (λ next. run next ts)
