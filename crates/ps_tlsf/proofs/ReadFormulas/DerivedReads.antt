-- A formula that the grammar derives is read up to the token that ends it.
use Rattle.std.proofs.Common.{◌≡◌, ℕ, ◌+◌, ◌≤◌, Bool, true, false, cond, List, [], ◌∷◌, ◌++◌, Some, refl, ap, ◌∙◌}
use Rattle.std.proofs.Common.{sym, subst, Ok, Err}
use Rattle.std.specs.Prelude.{Result}
use Rattle.std.proofs.lemmas.Bool.{false≢true, true≢false}
use Rattle.std.proofs.lemmas.Option.{same_Some}
use Rattle.ps_formula.specs.Formulas.{Formula}
use Rattle.ps_tlsf.specs.Derivations.{ReadsFormula, closes, span_of, stop_behind}
use Rattle.ps_tlsf.specs.Grammar.{Derives, formula, nesting, used_by}
use Rattle.ps_tlsf.specs.Lexicon.{Token}
use Rattle.ps_tlsf.specs.Machines.{Lists, Work, ended, is_bottom, nesting_limit, top_form, unwound, use_limit}
use Rattle.ps_tlsf.specs.Names.{Name}
use Rattle.ps_tlsf.specs.Steps.{State, Written, behind_step, finished, fresh, run, with_formula}
use Rattle.ps_tlsf.specs.Trees.{built, last_of, value_of}
use Rattle.ps_tlsf.specs.Specifications.{SectionFormula}
use Rattle.ps_tlsf.specs.declared.heading.Span.{Span}
use Rattle.ps_tlsf.specs.declared.fault.TlsfCause.{TlsfCause}
use Rattle.ps_tlsf.specs.declared.fault.TlsfCause.TheVariants as causes
use Rattle.ps_tlsf.specs.declared.phases.Phase.{Phase}
use Rattle.ps_tlsf.specs.declared.phases.Phase.TheVariants as phases
use Rattle.ps_tlsf.specs.declared.stack.Frame.{Frame}
use Rattle.ps_tlsf.specs.declared.stack.Op.{Op}
use Rattle.ps_tlsf.specs.declared.stack.Sweep.TheVariants as sweeps
use Rattle.ps_tlsf.specs.declared.words.Section.{Section}
use Rattle.ps_tlsf.specs.declared.words.Sign.{Sign}
use Rattle.ps_tlsf.specs.declared.words.Sign.TheVariants as signs
use Rattle.ps_tlsf.proofs.ReadFormulas.Completeness.{derived_read}
use Rattle.ps_tlsf.proofs.ReadFormulas.FormulaRuns.{Went, first_run, started, walk_begins, went}
use Rattle.ps_tlsf.proofs.ReadFormulas.FormulaSteps.{Numbers, step_formula}
use Rattle.ps_tlsf.proofs.OutlinedTexts.GoodSteps.{InPhase, IsGood, fresh_good, number_small, run_good}
use Rattle.ps_tlsf.proofs.OutlinedTexts.Running.{run_nothing, runs}
use Rattle.ps_tlsf.proofs.ReadFormulas.TreeMachine.{Spot, Swept, before_operand, behind_operand, swept, walk}
use Rattle.ps_tlsf.proofs.ReadFormulas.TreeMachine.{walk_nothing}
use Rattle.ps_tlsf.proofs.ReadFormulas.TreeViews.{limits, spot_of, swept_unwound, trees_of}

-- ## The end of a formula

abbrev pub unwound_row : Work → Lists
unwound_row w = unwound sweeps.Row w.frames w.ops

-- the work whose operators are all complete
abbrev pub finished_work : Work → Work
finished_work w = record w { frames = (unwound_row w).frames; ops = (unwound_row w).ops }

bottom_ended : (w : Work) → (unwound_row w).frames ≡ [] → ended w ≡ Ok (finished_work w)
bottom_ended w e = ap (λ (b : Bool). cond {A = Result Work TlsfCause} b (Ok (finished_work w)) (Err causes.Syntax))
    (ap (λ (frames : List Frame). is_bottom (top_form frames)) e)

-- the phase behind the token that ends a formula
abbrev pub phase_after : Section → Sign → Phase
phase_after section signs.RightBrace = phases.Sections
phase_after section sign = phases.Formulas section

pub closing_step : (section : Section) (s : State) (t : Token) (sign : Sign) → closes sign ≡ true →
    behind_step section s t sign ≡ with_formula section (phase_after section sign) s
closing_step section s t signs.Semicolon e = refl
closing_step section s t signs.RightBrace e = refl
closing_step section s t sign e = absurd (false≢true e)

abbrev pub written_of : Section → Work → Written
written_of section w = record { section = section; start = w.start; stop = w.stop; ops = w.ops }

abbrev pub with_written : Section → Phase → State → Work → State
with_written section phase s w = record s {
  phase = phase;
  work = record w { ops = [] };
  formulas = s.formulas ++ written_of section w ∷ [];
}

closing_run : (section : Section) (s : State) (end : Token) → s.phase ≡ phases.Behind section →
    closes end.sign ≡ true → (unwound_row s.work).frames ≡ [] →
    run s (end ∷ []) ≡ Ok (with_written section (phase_after section end.sign) s (finished_work s.work))
closing_run section s end e h k =
    let next : State = with_written section (phase_after section end.sign) s (finished_work s.work) in
    runs s next end [] (end ∷ []) refl (step_formula s end (phases.Behind section) e refl
    ∙ closing_step section s end end.sign h
    ∙ ap (λ (r : Result Work TlsfCause). finished section (phase_after section end.sign) s r) (bottom_ended s.work k))
    ∙ run_nothing next

-- ## The whole formula

pub same_span : (start first stop last : ℕ) → start ≡ first → stop ≡ last →
    (let span : Span = record { start = start; stop = stop } in span) ≡ record { start = first; stop = last }
same_span start first stop last e h = rw (e, h) refl

one_tree : (list : List Op) (f : Formula) → built [] list ≡ f ∷ [] → value_of list ≡ f
one_tree list f e = ap last_of e

frames_of : (lists : Lists) (fs : List Formula) → trees_of lists ≡ record { frames = []; trees = fs } →
    (lists.frames ≡ []) × (built [] lists.ops ≡ fs)
frames_of lists fs e = (ap (λ (w : Swept). w.frames) e, ap (λ (w : Swept). w.trees) e)

-- the end of a walk
row_of : (w : Work) (stack : Swept) (n : ℕ) (f : Formula) → spot_of true w ≡ behind_operand stack n →
    swept sweeps.Row stack.frames stack.trees ≡ record { frames = []; trees = f ∷ [] } →
    ((unwound_row w).frames ≡ []) × (built [] (unwound_row w).ops ≡ f ∷ []) × (w.used ≡ n)
row_of w stack n f e h =
    let r = frames_of (unwound_row w) (f ∷ []) (sym (swept_unwound sweeps.Row w.frames w.ops)
    ∙ ap (λ (s : Spot). swept sweeps.Row s.frames s.trees) e ∙ h) in
    (r.0, r.1, ap (λ (s : Spot). s.used) e)

read_behind : (s : State) (section : Section) (t : Token) (ts : List Token) (f : Formula) (end : Token)
    (stack : Swept) → closes end.sign ≡ true →
    run s (t ∷ ts ++ end ∷ []) ≡ run (started s section t) (t ∷ ts ++ end ∷ []) →
    Went (started s section t) section (t ∷ ts) (behind_operand stack (s.work.used + used_by (t ∷ ts))) →
    swept sweeps.Row stack.frames stack.trees ≡ record { frames = []; trees = f ∷ [] } →
    ReadsFormula s section (t ∷ ts) f end
read_behind s section t ts f end stack h first w row =
    let n : ℕ = s.work.used + used_by (t ∷ ts) in
    let r = row_of w.work stack n f w.spot_is row in
    let last : State = record (started s section t) { phase = phases.Behind section; work = w.work } in
    record {
      next = with_written section (phase_after section end.sign) last (finished_work w.work);
      written = written_of section (finished_work w.work);
      run_is = first ∙ w.run_is (end ∷ []) ∙ closing_run section last end refl h r.0;
      formulas_are = refl;
      written_is = ap (λ (x : Span). let v : SectionFormula
          = record { section = section; span = x; formula = value_of (unwound_row w.work).ops } in v)
          (same_span w.work.start t.start w.work.stop (stop_behind t.stop ts) w.start_is (w.stop_is refl))
          ∙ ap (λ (x : Formula). let v : SectionFormula
          = record { section = section; span = span_of (t ∷ ts); formula = x } in v)
          (one_tree (unwound_row w.work).ops f r.1);
      names_are = refl;
      used_is = r.2;
    }

empty_spot : (w : Work) → w.frames ≡ [] → w.ops ≡ [] → spot_of false w ≡ before_operand [] [] w.used
empty_spot w e h = rw (e, h) refl

no_tokens : (names : List Name) (used n : ℕ) (stack : Swept) →
    walk limits names (before_operand [] [] used) [] ≡ Some (behind_operand stack n) → ⊥
no_tokens names used n stack e = true≢false (ap (λ (s : Spot). s.is_behind)
    (sym (same_Some (before_operand [] [] used) (behind_operand stack n)
    (sym (walk_nothing limits names (before_operand [] [] used)) ∙ e))))

walked_reads : (s : State) (section : Section) (ts : List Token) (f : Formula) (end : Token) (stack : Swept) →
    s.phase ≡ phases.Formulas section → s.work.frames ≡ [] → s.work.ops ≡ [] → Numbers s.names →
    closes end.sign ≡ true → walk limits s.names (before_operand [] [] s.work.used) ts ≡
    Some (behind_operand stack (s.work.used + used_by ts)) →
    swept sweeps.Row stack.frames stack.trees ≡ record { frames = []; trees = f ∷ [] } →
    ReadsFormula s section ts f end
walked_reads s section [] f end stack e frames ops small h walked row =
    absurd (no_tokens s.names s.work.used (s.work.used + used_by []) stack walked)
walked_reads s section (t ∷ ts) f end stack e frames ops small h walked row =
    let v : Spot = behind_operand stack (s.work.used + used_by (t ∷ ts)) in
    let begins = walk_begins s.names (before_operand [] [] s.work.used) v t ts section refl walked in
    read_behind s section t ts f end stack h (first_run s section t (ts ++ end ∷ []) e begins)
    (went (t ∷ ts) (started s section t) section false v refl small
    (ap (λ (x : Spot). walk limits s.names x (t ∷ ts)) (empty_spot s.work frames ops) ∙ walked)) row

pub derived_reads : (s : State) (section : Section) (ts : List Token) (f : Formula) (d : Derives s.names formula ts f)
    (end : Token) → s.phase ≡ phases.Formulas section → s.work.frames ≡ [] → s.work.ops ≡ [] → Numbers s.names →
    nesting d ≤ nesting_limit → s.work.used + used_by ts ≤ use_limit → closes end.sign ≡ true →
    ReadsFormula s section ts f end
derived_reads s section ts f d end e frames ops small deep few h =
    let r = derived_read limits s.names d s.work.used deep few in
    walked_reads s section ts f end r.0 e frames ops small h r.1 r.2

-- from any state behind tokens of a text
pub derived_is_read : (before ts : List Token) (s : State) (section : Section) (f : Formula)
    (d : Derives s.names formula ts f) (end : Token) → run fresh before ≡ Ok s → s.phase ≡ phases.Formulas section →
    nesting d ≤ nesting_limit → s.work.used + used_by ts ≤ use_limit → closes end.sign ≡ true →
    ReadsFormula s section ts f end
derived_is_read before ts s section f d end e phase deep few h =
    let good : IsGood s = run_good fresh before s fresh_good e in
    let empty : InPhase (phases.Formulas section) s.work =
    subst (λ (p : Phase). InPhase p s.work) phase good.work in
    derived_reads s section ts f d end phase empty.0 empty.1
    (λ text n k. number_small s.names text good.few n k) deep few h
