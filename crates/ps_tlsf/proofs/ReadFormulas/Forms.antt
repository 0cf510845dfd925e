-- Operands and operators that form the given formulas, the last first, on any formulas before them.
use Rattle.std.proofs.Common.{◌≡◌, ℕ, ◌+◌, List, [], ◌∷◌, ◌++◌, length, Option, None, Some, refl, ap, sym, subst, ◌∙◌}
use Rattle.std.proofs.Common.{arith, Bool, true, false, cond}
use Rattle.std.proofs.lemmas.Option.{none-some, same_Some}
use Rattle.ps_formula.specs.Formulas.{Formula}
use Rattle.ps_tlsf.specs.Machines.{Lists, binds, taken, unwound}
use Rattle.ps_tlsf.specs.Trees.{applied, built, joined, prefixed}
use Rattle.ps_tlsf.specs.declared.stack.Form.{Form}
use Rattle.ps_tlsf.specs.declared.stack.Form.TheVariants as forms
use Rattle.ps_tlsf.specs.declared.stack.Frame.{Frame}
use Rattle.ps_tlsf.specs.declared.stack.Op.{Op}
use Rattle.ps_tlsf.specs.declared.stack.Op.TheVariants as ops
use Rattle.ps_tlsf.specs.declared.stack.Sweep.{Sweep}
use Rattle.ps_tlsf.specs.declared.stack.Sweep.TheVariants as sweeps
use Rattle.ps_tlsf.specs.declared.words.Infix.{Infix}
use Rattle.ps_tlsf.specs.declared.words.Prefix.{Prefix}
use Rattle.ps_tlsf.proofs.SectionFormulas.Building.{built-append}
use Rattle.ps_tlsf.proofs.ReadFormulas.Unwinding.{unwinds, unwinds_no_more}

pub record Forms (list : List Op) (trees : List Formula) : Type 0 where
  pub each : (before : List Formula) → built before list ≡ trees ++ before

pub forms_none : Forms [] []
forms_none = record { each = λ before. refl }

pub forms_op : (list : List Op) (op : Op) (trees new : List Formula) →
    ((before : List Formula) → applied op (trees ++ before) ≡ new ++ before) → Forms list trees →
    Forms (list ++ op ∷ []) new
forms_op list op trees new step f = record {
  each = λ before. built-append before list op ∙ ap (λ (l : List Formula). applied op l) (f.each before) ∙ step before;
}

-- ## The stack beside the list

abbrev pub infix_count : Form → ℕ
infix_count (forms.Infix operator) = 1
infix_count form = 0

abbrev pub infixes : List Frame → ℕ
infixes [] = 0
infixes (frame ∷ frames) = infix_count frame.form + infixes frames

-- the list forms as many formulas as there are operators between operands on the stack, and `more` formulas
pub record Shape (more : ℕ) (frames : List Frame) (list : List Op) : Type 0 where
  pub trees : List Formula
  pub forms : Forms list trees
  pub count : length trees ≡ infixes frames + more

with_prefix : (p : Prefix) (frames : List Frame) (list : List Op) (trees : List Formula) → Forms list trees →
    length trees ≡ infixes frames + 1 → Shape 1 frames (list ++ ops.Prefix p ∷ [])
with_prefix p frames list [] f count = absurd (omega arith)
with_prefix p frames list (t ∷ ts) f count = record {
  trees = prefixed p t ∷ ts;
  forms = forms_op list (ops.Prefix p) (t ∷ ts) (prefixed p t ∷ ts) (λ before. refl) f;
  count = count;
}

with_infix : (o : Infix) (frames : List Frame) (list : List Op) (trees : List Formula) → Forms list trees →
    length trees ≡ infixes frames + 2 → Shape 1 frames (list ++ ops.Infix o ∷ [])
with_infix o frames list [] f count = absurd (omega arith)
with_infix o frames list (g ∷ []) f count = absurd (omega arith)
with_infix o frames list (g ∷ h ∷ ts) f count =
    let short : length (joined o h g ∷ ts) ≡ infixes frames + 1 = omega arith in record {
      trees = joined o h g ∷ ts;
      forms = forms_op list (ops.Infix o) (g ∷ h ∷ ts) (joined o h g ∷ ts) (λ before. refl) f;
      count = short;
    }

chosen : (b : Bool) (x op : Op) → cond b (Some x) None ≡ Some op → x ≡ op
chosen true x op e = same_Some x op e
chosen false x op e = absurd (none-some op e)

-- an operator that goes from the stack to the list finds its operands there
taken_shape : (sweep : Sweep) (form : Form) (frames : List Frame) (list : List Op) (op : Op) →
    taken sweep form ≡ Some op → (trees : List Formula) → Forms list trees →
    length trees ≡ infix_count form + infixes frames + 1 → Shape 1 frames (list ++ op ∷ [])
taken_shape sweeps.Prefixes (forms.Prefix p) frames list op e trees f count =
    let here : length trees ≡ infixes frames + 1 = omega arith in
    subst (λ (o : Op). Shape 1 frames (list ++ o ∷ [])) (same_Some _ _ e) (with_prefix p frames list trees f here)
taken_shape sweeps.Prefixes forms.Paren frames list op e trees f count = absurd (none-some op e)
taken_shape sweeps.Prefixes (forms.Infix o) frames list op e trees f count = absurd (none-some op e)
taken_shape (sweeps.Before outer) (forms.Prefix p) frames list op e trees f count = absurd (none-some op e)
taken_shape (sweeps.Before outer) forms.Paren frames list op e trees f count = absurd (none-some op e)
taken_shape (sweeps.Before outer) (forms.Infix o) frames list op e trees f count =
    let here : length trees ≡ infixes frames + 2 = omega arith in
    subst (λ (x : Op). Shape 1 frames (list ++ x ∷ [])) (chosen (binds outer o) (ops.Infix o) op e)
    (with_infix o frames list trees f here)
taken_shape sweeps.Row (forms.Prefix p) frames list op e trees f count = absurd (none-some op e)
taken_shape sweeps.Row forms.Paren frames list op e trees f count = absurd (none-some op e)
taken_shape sweeps.Row (forms.Infix o) frames list op e trees f count =
    let here : length trees ≡ infixes frames + 2 = omega arith in
    subst (λ (x : Op). Shape 1 frames (list ++ x ∷ [])) (same_Some _ _ e) (with_infix o frames list trees f here)

abbrev pub Shaped : Lists → Type 0
Shaped lists = Shape 1 lists.frames lists.ops

unwound_by : (sweep : Sweep) (frame : Frame) (frames : List Frame) (list : List Op) (o : Option Op) →
    taken sweep frame.form ≡ o → Shape 1 (frame ∷ frames) list →
    ((op : Op) → Shape 1 frames (list ++ op ∷ []) → Shaped (unwound sweep frames (list ++ op ∷ []))) →
    Shaped (unwound sweep (frame ∷ frames) list)
unwound_by sweep frame frames list None e s next =
    subst Shaped (sym (unwinds_no_more sweep (frame ∷ frames) list e)) s
unwound_by sweep frame frames list (Some op) e s next =
    subst Shaped (sym (unwinds sweep (frame ∷ frames) list op e))
    (next op (taken_shape sweep frame.form frames list op e s.trees s.forms s.count))

pub unwound_shape : (sweep : Sweep) (frames : List Frame) (list : List Op) → Shape 1 frames list →
    Shaped (unwound sweep frames list)
unwound_shape sweep [] list s = subst Shaped (sym (unwinds_no_more sweep [] list refl)) s
unwound_shape sweep (frame ∷ frames) list s = unwound_by sweep frame frames list (taken sweep frame.form) refl s
    (λ op. unwound_shape sweep frames (list ++ op ∷ []))
