-- The formulas of a text are derived by the grammar, from its first token to its last.
use Rattle.std.proofs.Common.{◌≡◌, ℕ, ◌≤◌, Bool, true, false, cond, List, [], ◌∷◌, ◌++◌, map, length, None, Some, refl}
use Rattle.std.proofs.Common.{ap}
use Rattle.std.proofs.Common.{◌∙◌, sym, subst, Ok, Err, append_assoc, arith}
use Rattle.std.specs.Prelude.{Option, Result}
use Rattle.std.specs.List.{AllByRecursion}
use Rattle.std.proofs.lemmas.List.{append-nil}
use Rattle.ps_formula.specs.Formulas.{Formula}
use Rattle.ps_tlsf.specs.Derivations.{IsDerivedFrom, closes, stop_behind}
use Rattle.ps_tlsf.specs.Lexicon.{Token, lex}
use Rattle.ps_tlsf.specs.Machines.{Work, ended, is_bottom, top_form}
use Rattle.ps_tlsf.specs.Names.{Name}
use Rattle.ps_tlsf.specs.Phases.{goes}
use Rattle.ps_tlsf.specs.Reading.{answer_of}
use Rattle.ps_tlsf.specs.Specifications.{Specification, section_formula}
use Rattle.ps_tlsf.specs.Steps.{State, Written, bars, finished, fresh, on_ok, run, step, step_by}
use Rattle.ps_tlsf.specs.Steps.{with_formula}
use Rattle.ps_tlsf.specs.Trees.{last_of, value_of}
use Rattle.ps_tlsf.specs.declared.fault.TlsfCause.{TlsfCause}
use Rattle.ps_tlsf.specs.declared.fault.TlsfCause.TheVariants as causes
use Rattle.ps_tlsf.specs.declared.phases.Phase.{Phase}
use Rattle.ps_tlsf.specs.declared.phases.Phase.TheVariants as phases
use Rattle.ps_tlsf.specs.declared.stack.Sweep.TheVariants as sweeps
use Rattle.ps_tlsf.specs.declared.words.Section.{Section}
use Rattle.ps_tlsf.specs.declared.words.Sign.{Sign}
use Rattle.ps_tlsf.specs.declared.words.Sign.TheVariants as signs
use Rattle.ps_tlsf.proofs.SectionFormulas.Building.{all_pushed}
use Rattle.ps_tlsf.proofs.ReadFormulas.DerivedReads.{closing_step, finished_work, phase_after, same_span, unwound_row}
use Rattle.ps_tlsf.proofs.ReadFormulas.DerivedReads.{with_written}
use Rattle.ps_tlsf.proofs.ReadFormulas.DerivedReads.{written_of}
use Rattle.ps_tlsf.proofs.ReadFormulas.DerivedTexts.{Told, InFormula, Within, beside_told, err_ok, first_stepped}
use Rattle.ps_tlsf.proofs.ReadFormulas.DerivedTexts.{formulas_kept}
use Rattle.ps_tlsf.proofs.ReadFormulas.DerivedTexts.{grown}
use Rattle.ps_tlsf.proofs.ReadFormulas.DerivedTexts.{outside_free, same_ok, unless_told}
use Rattle.ps_tlsf.proofs.ReadFormulas.FormulaRuns.{first_step, started}
use Rattle.ps_tlsf.proofs.ReadFormulas.FormulaSteps.{Beside, Numbers, behind_beside, operand_beside, step_formula}
use Rattle.ps_tlsf.proofs.OutlinedTexts.GoodSteps.{InPhase, IsGood, fresh_good, goes_outside, no_state, number_small}
use Rattle.ps_tlsf.proofs.OutlinedTexts.GoodSteps.{outside}
use Rattle.ps_tlsf.proofs.OutlinedTexts.GoodSteps.{outside_any, step_good, holds_at}
use Rattle.ps_tlsf.proofs.ReadFormulas.Readings.{Derived, reading_derived}
use Rattle.ps_tlsf.proofs.OutlinedTexts.Running.{run_is, run_nothing}
use Rattle.ps_tlsf.proofs.ReadFormulas.TreeMachine.{Swept, swept}
use Rattle.ps_tlsf.proofs.ReadFormulas.TreeViews.{limits, spot_of, swept_unwound}
use Rattle.ps_tlsf.proofs.OutlinedTexts.WholeAnswers.{state_of_answer}

-- ## The end of a formula

-- the test at the end of a formula was passed
ended_ok : (w v : Work) → ended w ≡ Ok v →
    (is_bottom (top_form (unwound_row w).frames) ≡ true) × (finished_work w ≡ v)
ended_ok w v e = by (is_bottom (top_form (unwound_row w).frames)) refl e
  where
    by : (b : Bool) → is_bottom (top_form (unwound_row w).frames) ≡ b →
        cond {A = Result Work TlsfCause} b (Ok (finished_work w)) (Err causes.Syntax) ≡ Ok v →
        (is_bottom (top_form (unwound_row w).frames) ≡ true) × (finished_work w ≡ v)
    by true is h = (is, same_ok (finished_work w) v h)
    by false is h = absurd (err_ok causes.Syntax v h)

-- the formula that ends before the token
within_derived : (section : Section) (s : State) (t : Token) (done : List Token) → Within true s done →
    is_bottom (top_form (unwound_row s.work).frames) ≡ true → closes t.sign ≡ true →
    IsDerivedFrom (done ++ t ∷ []) s.names (section_formula (written_of section (finished_work s.work)))
within_derived section s t done w bottom h =
    let same = swept_unwound sweeps.Row s.work.frames s.work.ops in
    let d : Derived limits s.names w.begun (w.first ∷ w.more)
    (swept sweeps.Row s.work.frames (spot_of true s.work).trees).trees =
    reading_derived limits s.names w.begun (spot_of true s.work) (w.first ∷ w.more) w.reading refl
    (ap (λ (x : Swept). is_bottom (top_form x.frames)) same ∙ bottom) in
    let tree_is : value_of (unwound_row s.work).ops ≡ d.tree =
    ap last_of (ap (λ (x : Swept). x.trees) (sym same) ∙ d.trees_are) in
    let tokens_are : done ++ t ∷ [] ≡ w.before ++ (w.first ∷ w.more ++ t ∷ []) =
    grown done w.before (w.first ∷ w.more) (t ∷ []) w.tokens_are in
    subst (λ (f : Formula). IsDerivedFrom (done ++ t ∷ []) s.names
    (record (section_formula (written_of section (finished_work s.work))) { formula = f })) (sym tree_is) (record {
      known = s.names;
      later = [];
      before = w.before;
      inside = w.first ∷ w.more;
      end = t;
      behind = [];
      names_are = sym (append-nil s.names);
      tokens_are = tokens_are;
      end_closes = h;
      span_is = same_span s.work.start w.first.start s.work.stop (stop_behind w.first.stop w.more) w.start_is
          (w.stop_is refl);
      derives = d.derives;
      shallow = d.deep;
    })

after_outside : (section : Section) (sign : Sign) → outside (phase_after section sign) ≡ true
after_outside section signs.RightBrace = refl
after_outside section sign = refl

closed_told : (section : Section) (s n : State) (t : Token) (done : List Token) → Told done s → Within true s done →
    closes t.sign ≡ true → with_formula section (phase_after section t.sign) s ≡ Ok n → Told (done ++ t ∷ []) n
closed_told section s n t done told w h e = by (ended s.work) refl e
  where
    by : (r : Result Work TlsfCause) → ended s.work ≡ r →
        finished section (phase_after section t.sign) s r ≡ Ok n → Told (done ++ t ∷ []) n
    by (Err cause) is k = absurd (err_ok cause n k)
    by (Ok v) is k =
        let r = ended_ok s.work v is in
        let new : State = with_written section (phase_after section t.sign) s (finished_work s.work) in
        let same : new ≡ n = ap (λ (x : Work). with_written section (phase_after section t.sign) s x) r.1
        ∙ same_ok (with_written section (phase_after section t.sign) s v) n k in
        subst (λ (x : State). Told (done ++ t ∷ []) x) same (record {
          formulas = all_pushed (λ (x : Written). IsDerivedFrom (done ++ t ∷ []) s.names (section_formula x)) s.formulas
              (written_of section (finished_work s.work)) (formulas_kept done t s.names s.formulas told.formulas)
              (within_derived section s t done w r.0 h);
          few = told.few;
          current = outside_free (phase_after section t.sign) new (done ++ t ∷ []) (after_outside section t.sign);
        })

-- ## Any token

numbers : (names : List Name) → length names ≤ 64 → Numbers names
numbers names few = λ text n e. number_small names text few n e

behind_told : (section : Section) (s n : State) (t : Token) (done : List Token) → s.phase ≡ phases.Behind section →
    Told done s → Within true s done → step s t ≡ Ok n → Told (done ++ t ∷ []) n
behind_told section s n t done e told w h = by (closes t.sign) refl
  where
    by : (b : Bool) → closes t.sign ≡ b → Told (done ++ t ∷ []) n
    by true is = closed_told section s n t done told w is
        (sym (closing_step section s t t.sign is) ∙ sym (step_formula s t (phases.Behind section) e refl) ∙ h)
    by false is = beside_told section true s n t done (behind_beside s section t e is) h told.formulas w

first_told : (section : Section) (s n : State) (t : Token) (done : List Token) → s.phase ≡ phases.Formulas section →
    goes (phases.Formulas section) t.sign ≡ None → (s.work.frames ≡ []) × (s.work.ops ≡ []) → Numbers s.names →
    Told done s → step s t ≡ Ok n → Told (done ++ t ∷ []) n
first_told section s n t done e none empty small told h =
    let b : Beside (started s section t) section false t = operand_beside (started s section t) section t refl small in
    first_stepped section s n t done b.is_behind b.result empty.0 empty.1 told.few
    (sym b.step_is ∙ sym (first_step s section t e none) ∙ h) b.next_is b.ends told.formulas

formula_told : (p : Phase) (s n : State) (t : Token) (done : List Token) → s.phase ≡ p → goes p t.sign ≡ None →
    InPhase p s.work → Numbers s.names → Told done s → InFormula p s done → step s t ≡ Ok n → Told (done ++ t ∷ []) n
formula_told (phases.Formulas section) s n t done e none work small told within h =
    first_told section s n t done e none work small told h
formula_told (phases.Operand section) s n t done e none work small told within h =
    beside_told section false s n t done (operand_beside s section t e small) h told.formulas within
formula_told (phases.Behind section) s n t done e none work small told within h =
    behind_told section s n t done e told within h
formula_told p s n t done e none work small told within h =
    absurd (err_ok causes.Syntax n (sym (step_formula s t p e none) ∙ h))

step_is : (s : State) (t : Token) → step s t ≡ step_by (goes s.phase t.sign) s t
unfolding step
step_is s t = refl

step_told : (s n : State) (t : Token) (done : List Token) → IsGood s → Told done s → step s t ≡ Ok n →
    Told (done ++ t ∷ []) n
step_told s n t done good told h = by (goes s.phase t.sign) refl
  where
    by : (o : Option Phase) → goes s.phase t.sign ≡ o → Told (done ++ t ∷ []) n
    by (Some p) is = unless_told (bars p s t) p s n t done
        (subst (λ (o : Option Phase). outside_any o ≡ true) is (goes_outside s.phase t.sign)) told
        (ap (λ (o : Option Phase). step_by o s t) (sym is) ∙ sym (step_is s t) ∙ h)
    by None is = formula_told s.phase s n t done refl is good.work (numbers s.names good.few) told told.current h

-- ## The text

run_told : (ts : List Token) (s last : State) (done : List Token) → IsGood s → Told done s → run s ts ≡ Ok last →
    Told (done ++ ts) last
run_told [] s last done good told e =
    let same : s ≡ last = cc (run_nothing s) in
    subst (λ (x : State). Told (done ++ []) x) same (subst (λ (d : List Token). Told d s) (sym (append-nil done)) told)
run_told (t ∷ ts) s last done good told e =
    by (step s t) refl (sym (run_is s t ts) ∙ e) (λ n g r k. run_told ts n last (done ++ t ∷ []) g r k)
  where
    by : (r : Result State TlsfCause) → step s t ≡ r → on_ok r t.start (λ n. run n ts) ≡ Ok last →
        ((n : State) → IsGood n → Told (done ++ t ∷ []) n → run n ts ≡ Ok last → Told (done ++ t ∷ [] ++ ts) last) →
        Told (done ++ (t ∷ ts)) last
    by (Err cause) is k go = absurd (no_state _ last k)
    by (Ok n) is k go =
        let same : done ++ t ∷ [] ++ ts ≡ done ++ (t ∷ ts) = simp append_assoc in
        subst (λ (d : List Token). Told d last) same
        (go n (holds_at IsGood (step s t) n (step_good s t good) is) (step_told s n t done good told is) k)

fresh_told : Told [] fresh
fresh_told = record { formulas = tt; few = omega arith; current = tt }

as_mapped : (tokens : List Token) (names : List Name) (ws : List Written) →
    AllByRecursion (λ w. IsDerivedFrom tokens names (section_formula w)) ws →
    AllByRecursion (IsDerivedFrom tokens names) (map section_formula ws)
as_mapped tokens names [] all = tt
as_mapped tokens names (w ∷ ws) all = (all.0, as_mapped tokens names ws all.1)

pub formulas_derived : (text : List ℕ) (s : Specification) → answer_of text ≡ Ok s →
    AllByRecursion (IsDerivedFrom (lex 0 text) s.names) s.formulas
formulas_derived text s e =
    let r = state_of_answer text s e in
    let told : Told (lex 0 text) r.0 = run_told (lex 0 text) fresh r.0 [] fresh_good fresh_told r.1 in
    subst (λ (x : Specification). AllByRecursion (IsDerivedFrom (lex 0 text) x.names) x.formulas) r.3
    (as_mapped (lex 0 text) r.0.names r.0.formulas told.formulas)
