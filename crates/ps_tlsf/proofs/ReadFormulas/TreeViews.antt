-- The machine on lists of operands and operators does what the machine on trees does, at the format's limits.
-- - `spot_of is_behind work`: the trees of the work; `seen`: the same of a result
-- - `operand_seen`, `infix_seen`, `paren_seen`, `ended_seen`: the parts of a step
use Rattle.std.proofs.Common.{◌≡◌, ℕ, ◌+◌, Bool, true, false, cond, List, [], ◌∷◌, ◌++◌, None, Some}
use Rattle.std.proofs.Common.{refl, ap, ◌∙◌, sym, Ok, Err}
use Rattle.std.specs.Prelude.{Option, Result, nat_le, nat_lt}
use Rattle.std.specs.Option.{option_and_then}
use Rattle.ps_formula.specs.Formulas.{Formula, constant, proposition}
use Rattle.ps_tlsf.specs.Lexicon.{Token}
use Rattle.ps_tlsf.specs.Machines.{Lists, Work, and_then, at_operand, begun, counted, depth_of}
use Rattle.ps_tlsf.specs.Machines.{is_paren, may_follow, nested, nesting_limit, tail_of, taken, top_form, unwound}
use Rattle.ps_tlsf.specs.Machines.{use_limit, with_infix, with_leaf, with_name, with_operand, with_paren}
use Rattle.ps_tlsf.specs.Names.{Name, number_of}
use Rattle.ps_tlsf.specs.Trees.{applied, built}
use Rattle.ps_tlsf.specs.Words.{is_word}
use Rattle.ps_tlsf.specs.declared.fault.TlsfCause.{TlsfCause}
use Rattle.ps_tlsf.specs.declared.fault.TlsfCause.TheVariants as causes
use Rattle.ps_tlsf.specs.declared.stack.Form.{Form}
use Rattle.ps_tlsf.specs.declared.stack.Form.TheVariants as forms
use Rattle.ps_tlsf.specs.declared.stack.Frame.{Frame}
use Rattle.ps_tlsf.specs.declared.stack.Op.{Op}
use Rattle.ps_tlsf.specs.declared.stack.Op.TheVariants as ops
use Rattle.ps_tlsf.specs.declared.stack.Sweep.{Sweep}
use Rattle.ps_tlsf.specs.declared.stack.Sweep.TheVariants as sweeps
use Rattle.ps_tlsf.specs.declared.words.Infix.{Infix}
use Rattle.ps_tlsf.specs.declared.words.Sign.{Sign}
use Rattle.ps_tlsf.specs.declared.words.Sign.TheVariants as signs
use Rattle.ps_tlsf.proofs.SectionFormulas.Building.{built-append}
use Rattle.ps_tlsf.proofs.ReadFormulas.TreeMachine.{Limits, Spot, Swept, begins, behind_next, behind_operand, counts}
use Rattle.ps_tlsf.proofs.ReadFormulas.TreeMachine.{infix_next, leaf, named, nests, operand_next, paren_next, swept}
use Rattle.ps_tlsf.proofs.ReadFormulas.TreeMachine.{sweeps_no_more, sweeps_one}
use Rattle.ps_tlsf.proofs.ReadFormulas.Unwinding.{unwinds, unwinds_no_more}

abbrev pub limits : Limits
limits = record { used = use_limit; depth = nesting_limit }

abbrev pub spot_of : Bool → Work → Spot
spot_of is_behind w = record { frames = w.frames; trees = built [] w.ops; used = w.used; is_behind = is_behind }

abbrev pub seen : Bool → Result Work TlsfCause → Option Spot
seen is_behind (Ok w) = Some (spot_of is_behind w)
seen is_behind (Err cause) = None

abbrev pub trees_of : Lists → Swept
trees_of lists = record { frames = lists.frames; trees = built [] lists.ops }

-- ## Sweeps

unwound_by : (sweep : Sweep) (frame : Frame) (frames : List Frame) (list : List Op) (o : Option Op) →
    taken sweep frame.form ≡ o →
    ((op : Op) → swept sweep frames (built [] (list ++ op ∷ [])) ≡ trees_of (unwound sweep frames (list ++ op ∷ []))) →
    swept sweep (frame ∷ frames) (built [] list) ≡ trees_of (unwound sweep (frame ∷ frames) list)
unwound_by sweep frame frames list None e go =
    sweeps_no_more sweep (frame ∷ frames) (built [] list) e
    ∙ ap trees_of (sym (unwinds_no_more sweep (frame ∷ frames) list e))
unwound_by sweep frame frames list (Some op) e go =
    sweeps_one sweep frame frames (built [] list) op e
    ∙ ap (λ (fs : List Formula). swept sweep frames fs) (sym (built-append [] list op)) ∙ go op
    ∙ ap trees_of (sym (unwinds sweep (frame ∷ frames) list op e))

pub swept_unwound : (sweep : Sweep) (frames : List Frame) (list : List Op) →
    swept sweep frames (built [] list) ≡ trees_of (unwound sweep frames list)
swept_unwound sweep [] list =
    sweeps_no_more sweep [] (built [] list) refl ∙ ap trees_of (sym (unwinds_no_more sweep [] list refl))
swept_unwound sweep (frame ∷ frames) list =
    unwound_by sweep frame frames list (taken sweep frame.form) refl
    (λ op. swept_unwound sweep frames (list ++ op ∷ []))

-- ## Limits

counted_seen : (was is_behind : Bool) (w : Work) (go : Spot → Option Spot) (after : Work → Result Work TlsfCause) →
    ((v : Work) → go (spot_of was v) ≡ seen is_behind (after v)) →
    option_and_then go (counts limits (spot_of was w)) ≡ seen is_behind (and_then (counted w) after)
counted_seen was is_behind w go after same = by (nat_le use_limit w.used)
  where
    by : (b : Bool) → option_and_then go (cond b None (Some (spot_of was (record w { used = w.used + 1 })))) ≡
        seen is_behind (and_then (cond b (Err causes.Limit) (Ok (record w { used = w.used + 1 }))) after)
    by true = refl
    by false = same (record w { used = w.used + 1 })

nested_seen : (form : Form) (w : Work) → nests limits form (spot_of false w) ≡ seen false (nested form w)
nested_seen form w = by (nat_le nesting_limit (depth_of w.frames))
  where
    deeper : Work
    deeper = record w { frames = record { form = form; depth = depth_of w.frames + 1 } ∷ w.frames }

    by : (b : Bool) → cond b None (Some (spot_of false deeper)) ≡ seen false (cond b (Err causes.Limit) (Ok deeper))
    by true = refl
    by false = refl

-- ## Where an operand begins

leaf_seen : (op : Op) (f : Formula) (stop : ℕ) (w : Work) →
    ((before : List Formula) → applied op before ≡ f ∷ before) →
    leaf limits f (spot_of false w) ≡ seen true (with_leaf op stop w)
leaf_seen op f stop w is = counted_seen false true w
    (λ (v : Spot). Some (behind_operand (swept sweeps.Prefixes v.frames (f ∷ v.trees)) v.used))
    (λ v. Ok (with_operand v v.frames (v.ops ++ op ∷ []) stop))
    (λ v. ap (λ (x : Swept). let o : Option Spot = Some (behind_operand x v.used) in o)
    (ap (λ (fs : List Formula). swept sweeps.Prefixes v.frames fs)
    (sym (built-append [] v.ops op ∙ is (built [] v.ops)))
    ∙ swept_unwound sweeps.Prefixes v.frames (v.ops ++ op ∷ [])))

name_seen : (o : Option ℕ) (stop : ℕ) (w : Work) → ((n : ℕ) → o ≡ Some n → nat_lt n 64 ≡ true) →
    named limits o (spot_of false w) ≡ seen true (with_name o stop w)
name_seen None stop w small = refl
name_seen (Some n) stop w small = leaf_seen (ops.Proposition n) (proposition n) stop w
    (λ before. ap (λ (b : Bool). cond b (proposition n ∷ before) before) (small n refl))

abbrev pub behind_of : Sign → Bool
behind_of (signs.Prefix p) = false
behind_of signs.LeftParen = false
behind_of sign = true

word_seen : (sign : Sign) (o : Option ℕ) (stop : ℕ) (w : Work) → ((n : ℕ) → o ≡ Some n → nat_lt n 64 ≡ true) →
    cond (is_word sign) (named limits o (spot_of false w)) None ≡
    seen true (cond (is_word sign) (with_name o stop w) (Err causes.Syntax))
word_seen sign o stop w small = by (is_word sign)
  where
    by : (b : Bool) → cond b (named limits o (spot_of false w)) None ≡
        seen true (cond b (with_name o stop w) (Err causes.Syntax))
    by true = name_seen o stop w small
    by false = refl

pub operand_seen : (names : List Name) (w : Work) (t : Token) (sign : Sign) →
    ((n : ℕ) → number_of names t.text ≡ Some n → nat_lt n 64 ≡ true) →
    operand_next limits names (spot_of false w) t sign ≡ seen (behind_of sign) (at_operand names w t sign)
operand_seen names w t (signs.Prefix p) small =
    counted_seen false false w (λ (v : Spot). nests limits (forms.Prefix p) v)
    (nested (forms.Prefix p)) (λ v. nested_seen (forms.Prefix p) v)
operand_seen names w t signs.LeftParen small = nested_seen forms.Paren w
operand_seen names w t (signs.Constant b) small =
    leaf_seen (ops.Constant b) (constant b) t.stop w (λ before. refl)
operand_seen names w t (signs.Infix o) small = refl
operand_seen names w t sign small = word_seen sign (number_of names t.text) t.stop w small

-- ## Behind an operand

pub infix_seen : (o : Infix) (w : Work) →
    behind_next limits (spot_of true w) (signs.Infix o) ≡ seen false (with_infix o w)
infix_seen o w =
    ap (λ (x : Swept). infix_next limits o (spot_of true w) x) (swept_unwound (sweeps.Before o) w.frames w.ops)
    ∙ by (may_follow o (top_form lists.frames))
  where
    lists : Lists
    lists = unwound (sweeps.Before o) w.frames w.ops

    by : (b : Bool) → cond b (option_and_then (λ (v : Spot). Some (begins limits o (trees_of lists) v))
        (counts limits (spot_of true w))) None ≡
        seen false (cond b (and_then (counted w) (λ v. Ok (begun o lists v))) (Err causes.Syntax))
    by true =
        counted_seen true false w (λ (v : Spot). Some (begins limits o (trees_of lists) v)) (λ v. Ok (begun o lists v))
        (λ v. refl)
    by false = refl

pub paren_seen : (stop : ℕ) (w : Work) →
    behind_next limits (spot_of true w) signs.RightParen ≡ seen true (with_paren stop w)
paren_seen stop w =
    ap (λ (x : Swept). paren_next limits (spot_of true w) x) (swept_unwound sweeps.Row w.frames w.ops)
    ∙ by (is_paren (top_form lists.frames))
  where
    lists : Lists
    lists = unwound sweeps.Row w.frames w.ops

    by : (b : Bool) → cond b (Some (behind_operand (swept sweeps.Prefixes (tail_of lists.frames) (built [] lists.ops))
        w.used)) None ≡
        seen true (cond b (Ok (with_operand w (tail_of lists.frames) lists.ops stop)) (Err causes.Syntax))
    by true = ap (λ (x : Swept). let o : Option Spot = Some (behind_operand x w.used) in o)
        (swept_unwound sweeps.Prefixes (tail_of lists.frames) lists.ops)
    by false = refl
