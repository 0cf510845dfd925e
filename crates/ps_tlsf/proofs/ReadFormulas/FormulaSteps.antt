-- A step inside a formula, beside a step of the machine on trees.
-- - `phase_of section is_behind`: the phase before an operand or behind it
-- - `Beside state section was token`: the two steps on a token
use Rattle.std.proofs.Common.{◌≡◌, ℕ, ◌+◌, Bool, true, false, cond, List, [], ◌∷◌, ◌++◌, None, Some}
use Rattle.std.proofs.Common.{refl, ap, ◌∙◌, Ok, Err}
use Rattle.std.specs.Prelude.{Option, Result, nat_le, nat_lt}
use Rattle.std.proofs.lemmas.Bool.{true≢false}
use Rattle.ps_tlsf.specs.Derivations.{closes}
use Rattle.ps_tlsf.specs.Lexicon.{Token}
use Rattle.ps_tlsf.specs.Machines.{Lists, Work, and_then, at_operand, begun, counted, depth_of, is_paren, may_follow}
use Rattle.ps_tlsf.specs.Machines.{nested, nesting_limit, tail_of, top_form, unwound, use_limit, with_infix, with_leaf}
use Rattle.ps_tlsf.specs.Machines.{with_name, with_operand, with_paren}
use Rattle.ps_tlsf.specs.Names.{Name, number_of}
use Rattle.ps_tlsf.specs.Phases.{goes}
use Rattle.ps_tlsf.specs.Steps.{State, at_work, behind_step, formula_step, phase_behind, step, step_by}
use Rattle.ps_tlsf.specs.Words.{is_word}
use Rattle.ps_tlsf.specs.declared.fault.TlsfCause.{TlsfCause}
use Rattle.ps_tlsf.specs.declared.fault.TlsfCause.TheVariants as causes
use Rattle.ps_tlsf.specs.declared.phases.Phase.{Phase}
use Rattle.ps_tlsf.specs.declared.phases.Phase.TheVariants as phases
use Rattle.ps_tlsf.specs.declared.stack.Form.{Form}
use Rattle.ps_tlsf.specs.declared.stack.Form.TheVariants as forms
use Rattle.ps_tlsf.specs.declared.stack.Op.{Op}
use Rattle.ps_tlsf.specs.declared.stack.Op.TheVariants as ops
use Rattle.ps_tlsf.specs.declared.stack.Sweep.TheVariants as sweeps
use Rattle.ps_tlsf.specs.declared.words.Infix.{Infix}
use Rattle.ps_tlsf.specs.declared.words.Section.{Section}
use Rattle.ps_tlsf.specs.declared.words.Sign.{Sign}
use Rattle.ps_tlsf.specs.declared.words.Sign.TheVariants as signs
use Rattle.ps_tlsf.proofs.OutlinedTexts.GoodSteps.{Holds}
use Rattle.ps_tlsf.proofs.ReadFormulas.TreeMachine.{behind_next, next}
use Rattle.ps_tlsf.proofs.ReadFormulas.TreeViews.{behind_of, infix_seen, limits, operand_seen, paren_seen, seen}
use Rattle.ps_tlsf.proofs.ReadFormulas.TreeViews.{spot_of}

-- ## Where the work begins and where its last operand ends

holds_choice : {S : Type 0} (P : S → Type 0) (b : Bool) (r : Result S TlsfCause) (cause : TlsfCause) → Holds P r →
    Holds P (cond b r (Err cause))
holds_choice P true r cause h = h
holds_choice P false r cause h = tt

holds_refusal : {S : Type 0} (P : S → Type 0) (b : Bool) (r : Result S TlsfCause) (cause : TlsfCause) → Holds P r →
    Holds P (cond b (Err cause) r)
holds_refusal P true r cause h = tt
holds_refusal P false r cause h = h

holds_counted : (P : Work → Type 0) (w : Work) (after : Work → Result Work TlsfCause) →
    Holds P (after (record w { used = w.used + 1 })) → Holds P (and_then (counted w) after)
holds_counted P w after h = by (nat_le use_limit w.used)
  where
    by : (b : Bool) →
        Holds P (and_then (cond b (Err causes.Limit) (Ok (record w { used = w.used + 1 }))) after)
    by true = tt
    by false = h

pub record Ends (start stop : ℕ) (is_behind : Bool) (w : Work) : Type 0 where
  pub start_is : w.start ≡ start
  pub stop_is : is_behind ≡ true → w.stop ≡ stop

nested_ends : (form : Form) (start stop : ℕ) (w : Work) → w.start ≡ start →
    Holds (Ends start stop false) (nested form w)
nested_ends form start stop w e = holds_refusal (Ends start stop false)
    (nat_le nesting_limit (depth_of w.frames))
    (Ok (record w { frames = record { form = form; depth = depth_of w.frames + 1 } ∷ w.frames })) causes.Limit
    (record { start_is = e; stop_is = λ h. cc })

leaf_ends : (op : Op) (stop : ℕ) (w : Work) → Holds (Ends w.start stop true) (with_leaf op stop w)
leaf_ends op stop w = holds_counted (Ends w.start stop true) w
    (λ v. Ok (with_operand v v.frames (v.ops ++ op ∷ []) stop)) (record { start_is = refl; stop_is = λ h. refl })

name_ends : (o : Option ℕ) (stop : ℕ) (w : Work) → Holds (Ends w.start stop true) (with_name o stop w)
name_ends None stop w = tt
name_ends (Some n) stop w = leaf_ends (ops.Proposition n) stop w

operand_ends : (names : List Name) (w : Work) (t : Token) (sign : Sign) →
    Holds (Ends w.start t.stop (behind_of sign)) (at_operand names w t sign)
operand_ends names w t (signs.Prefix p) = holds_counted (Ends w.start t.stop false) w (nested (forms.Prefix p))
    (nested_ends (forms.Prefix p) w.start t.stop (record w { used = w.used + 1 }) refl)
operand_ends names w t signs.LeftParen = nested_ends forms.Paren w.start t.stop w refl
operand_ends names w t (signs.Constant b) = leaf_ends (ops.Constant b) t.stop w
operand_ends names w t (signs.Infix o) = tt
operand_ends names w t sign = holds_choice (Ends w.start t.stop true) (is_word sign)
    (with_name (number_of names t.text) t.stop w) causes.Syntax (name_ends (number_of names t.text) t.stop w)

infix_ends : (o : Infix) (stop : ℕ) (w : Work) → Holds (Ends w.start stop false) (with_infix o w)
infix_ends o stop w =
    let lists : Lists = unwound (sweeps.Before o) w.frames w.ops in
    holds_choice (Ends w.start stop false) (may_follow o (top_form lists.frames))
    (and_then (counted w) (λ v. Ok (begun o lists v))) causes.Syntax
    (holds_counted (Ends w.start stop false) w (λ v. Ok (begun o lists v))
    (record { start_is = refl; stop_is = λ h. cc }))

paren_ends : (stop : ℕ) (w : Work) → Holds (Ends w.start stop true) (with_paren stop w)
paren_ends stop w =
    let lists : Lists = unwound sweeps.Row w.frames w.ops in
    holds_choice (Ends w.start stop true) (is_paren (top_form lists.frames))
    (Ok (with_operand w (tail_of lists.frames) lists.ops stop)) causes.Syntax
    (record { start_is = refl; stop_is = λ h. refl })

-- ## The steps

abbrev pub phase_of : Section → Bool → Phase
phase_of section true = phases.Behind section
phase_of section false = phases.Operand section

pub record Beside (s : State) (section : Section) (was : Bool) (t : Token) : Type 0 where
  pub is_behind : Bool
  pub result : Result Work TlsfCause
  pub step_is : step s t ≡ at_work (phase_of section is_behind) s result
  pub next_is : next limits s.names (spot_of was s.work) t ≡ seen is_behind result
  pub ends : Holds (Ends s.work.start t.stop is_behind) result

pub step_formula : (s : State) (t : Token) (phase : Phase) → s.phase ≡ phase → goes phase t.sign ≡ None →
    step s t ≡ formula_step phase s t
unfolding step
step_formula s t phase e none =
    ap (λ (o : Option Phase). step_by o s t) (ap (λ (p : Phase). goes p t.sign) e ∙ none)
    ∙ ap (λ (p : Phase). formula_step p s t) e

pub phase_behind_is : (section : Section) (sign : Sign) → phase_behind section sign ≡ phase_of section (behind_of sign)
phase_behind_is section (signs.Prefix p) = refl
phase_behind_is section signs.LeftParen = refl
phase_behind_is section sign = refl

abbrev pub Numbers : List Name → Type 0
Numbers names = (text : List ℕ) (n : ℕ) → number_of names text ≡ Some n → nat_lt n 64 ≡ true

pub operand_beside : (s : State) (section : Section) (t : Token) → s.phase ≡ phases.Operand section →
    Numbers s.names → Beside s section false t
operand_beside s section t e small = record {
  is_behind = behind_of t.sign;
  result = at_operand s.names s.work t t.sign;
  step_is = step_formula s t (phases.Operand section) e refl
      ∙ ap (λ (p : Phase). at_work p s (at_operand s.names s.work t t.sign)) (phase_behind_is section t.sign);
  next_is = operand_seen s.names s.work t t.sign (small t.text);
  ends = operand_ends s.names s.work t t.sign;
}

pub behind_beside : (s : State) (section : Section) (t : Token) → s.phase ≡ phases.Behind section →
    closes t.sign ≡ false → Beside s section true t
behind_beside s section t e open_ = by t.sign refl open_
  where
    step_at : (sign : Sign) → t.sign ≡ sign → step s t ≡ behind_step section s t sign
    step_at sign h = step_formula s t (phases.Behind section) e refl
        ∙ ap (λ (x : Sign). behind_step section s t x) h

    next_at : (sign : Sign) → t.sign ≡ sign →
        next limits s.names (spot_of true s.work) t ≡ behind_next limits (spot_of true s.work) sign
    next_at sign h = ap (λ (x : Sign). behind_next limits (spot_of true s.work) x) h

    by : (sign : Sign) → t.sign ≡ sign → closes sign ≡ false → Beside s section true t
    by (signs.Infix o) h k = record {
      is_behind = false;
      result = with_infix o s.work;
      step_is = step_at (signs.Infix o) h;
      next_is = next_at (signs.Infix o) h ∙ infix_seen o s.work;
      ends = infix_ends o t.stop s.work;
    }
    by signs.RightParen h k = record {
      is_behind = true;
      result = with_paren t.stop s.work;
      step_is = step_at signs.RightParen h ∙ ap (λ (p : Phase). at_work p s (with_paren t.stop s.work)) e;
      next_is = next_at signs.RightParen h ∙ paren_seen t.stop s.work;
      ends = paren_ends t.stop s.work;
    }
    by signs.Semicolon h k = absurd (true≢false k)
    by signs.RightBrace h k = absurd (true≢false k)
    by sign h k = record {
      is_behind = true;
      result = Err causes.Syntax;
      step_is = step_at sign h;
      next_is = next_at sign h;
      ends = tt;
    }
