-- The formulas of a text are derived by the grammar, from token to token.
-- - `Told done state`: what holds behind the tokens `done` of a text
use Rattle.std.proofs.Common.{◌≡◌, ℕ, ◌+◌, ◌≤◌, Bool, true, false, List, [], ◌∷◌, ◌++◌, None, Some}
use Rattle.std.proofs.Common.{refl, ap, ◌∙◌, sym, subst, Ok, Err, arith, append_assoc}
use Rattle.std.specs.Prelude.{Option, Result}
use Rattle.std.specs.List.{AllByRecursion}
use Rattle.std.proofs.lemmas.Bool.{false≢true}
use Rattle.std.proofs.lemmas.List.{append-nil}
use Rattle.ps_tlsf.specs.Derivations.{IsDerivedFrom, stop_behind}
use Rattle.ps_tlsf.specs.Grammar.{used_by}
use Rattle.ps_tlsf.specs.Lexicon.{Token}
use Rattle.ps_tlsf.specs.Machines.{Work, use_limit}
use Rattle.ps_tlsf.specs.Names.{Name}
use Rattle.ps_tlsf.specs.Specifications.{SectionFormula, section_formula}
use Rattle.ps_tlsf.specs.Steps.{State, Written, at_work, declared_by}
use Rattle.ps_tlsf.specs.Steps.{moved, step, unless}
use Rattle.ps_tlsf.specs.declared.fault.TlsfCause.{TlsfCause}
use Rattle.ps_tlsf.specs.declared.phases.Phase.{Phase}
use Rattle.ps_tlsf.specs.declared.phases.Phase.TheVariants as phases
use Rattle.ps_tlsf.specs.declared.words.Section.{Section}
use Rattle.ps_tlsf.proofs.ReadFormulas.FormulaRuns.{started}
use Rattle.ps_tlsf.proofs.ReadFormulas.FormulaSteps.{Beside, Ends, phase_of}
use Rattle.ps_tlsf.proofs.OutlinedTexts.GoodSteps.{Holds, outside}
use Rattle.ps_tlsf.proofs.ReadFormulas.Readings.{Reading, next_reading}
use Rattle.ps_tlsf.proofs.ReadFormulas.Contexts.{nothing}
use Rattle.ps_tlsf.proofs.ReadFormulas.TreeMachine.{Spot, before_operand, next}
use Rattle.ps_tlsf.proofs.ReadFormulas.TreeViews.{limits, seen, spot_of}

-- the tokens of the formula that is read now
pub record Within (is_behind : Bool) (s : State) (done : List Token) : Type 0 where
  pub before : List Token
  pub first : Token
  pub more : List Token
  pub tokens_are : done ≡ before ++ (first ∷ more)
  pub begun : ℕ
  pub reading : Reading limits s.names begun (spot_of is_behind s.work) (first ∷ more)
  pub start_is : s.work.start ≡ first.start
  pub stop_is : is_behind ≡ true → s.work.stop ≡ stop_behind first.stop more

abbrev pub InFormula : Phase → State → List Token → Type 0
InFormula (phases.Operand section) s done = Within false s done
InFormula (phases.Behind section) s done = Within true s done
InFormula phase s done = Unit {0}

pub record Told (done : List Token) (s : State) : Type 0 where
  pub formulas : AllByRecursion (λ w. IsDerivedFrom done s.names (section_formula w)) s.formulas
  pub few : s.work.used ≤ use_limit
  pub current : InFormula s.phase s done

-- ## The formulas so far

pub same_ok : {A : Type 0} (a b : A) → (let r : Result A TlsfCause = Ok a in r) ≡ Ok b → a ≡ b
same_ok a b e = cc

pub err_ok : {A : Type 0} (cause : TlsfCause) (b : A) → (let r : Result A TlsfCause = Err cause in r) ≡ Ok b → ⊥
err_ok cause b e = cc

pub grown : {A : Type 0} (all xs ys more : List A) → all ≡ xs ++ ys → all ++ more ≡ xs ++ (ys ++ more)
grown all xs ys more e = rw e (append_assoc xs ys more)

tokens_grown : (all before inside : List Token) (end : Token) (behind more : List Token) →
    all ≡ before ++ (inside ++ end ∷ behind) → all ++ more ≡ before ++ (inside ++ end ∷ (behind ++ more))
tokens_grown all before inside end behind more e = rw e (simp append_assoc)

derived_longer : (done : List Token) (t : Token) (names more : List Name) (f : SectionFormula) →
    IsDerivedFrom done names f → IsDerivedFrom (done ++ t ∷ []) (names ++ more) f
derived_longer done t names more f d = record {
  known = d.known;
  later = d.later ++ more;
  before = d.before;
  inside = d.inside;
  end = d.end;
  behind = d.behind ++ t ∷ [];
  names_are = grown names d.known d.later more d.names_are;
  tokens_are = tokens_grown done d.before d.inside d.end d.behind (t ∷ []) d.tokens_are;
  end_closes = d.end_closes;
  span_is = d.span_is;
  derives = d.derives;
  shallow = d.shallow;
}

formulas_longer : (done : List Token) (t : Token) (names more : List Name) (ws : List Written) →
    AllByRecursion (λ w. IsDerivedFrom done names (section_formula w)) ws →
    AllByRecursion (λ w. IsDerivedFrom (done ++ t ∷ []) (names ++ more) (section_formula w)) ws
formulas_longer done t names more [] all = tt
formulas_longer done t names more (w ∷ ws) all =
    (derived_longer done t names more (section_formula w) all.0, formulas_longer done t names more ws all.1)

pub formulas_kept : (done : List Token) (t : Token) (names : List Name) (ws : List Written) →
    AllByRecursion (λ w. IsDerivedFrom done names (section_formula w)) ws →
    AllByRecursion (λ w. IsDerivedFrom (done ++ t ∷ []) names (section_formula w)) ws
formulas_kept done t names ws all =
    subst (λ (ns : List Name). AllByRecursion (λ w. IsDerivedFrom (done ++ t ∷ []) ns (section_formula w)) ws)
    (append-nil names) (formulas_longer done t names [] ws all)

-- ## Outside formulas

pub outside_free : (p : Phase) (s : State) (done : List Token) → outside p ≡ true → InFormula p s done
outside_free (phases.Operand section) s done e = absurd (false≢true e)
outside_free (phases.Behind section) s done e = absurd (false≢true e)
outside_free p s done e = tt

declared_longer : (p : Phase) (t : Token) (names : List Name) →
    (more : List Name) × (declared_by p t names ≡ names ++ more)
declared_longer (phases.BehindName side) t names = (record { name = t.text; side = side } ∷ [], refl)
declared_longer p t names = ([], sym (append-nil names))

plain_told : (p : Phase) (s : State) (t : Token) (done : List Token) → outside p ≡ true → Told done s →
    Told (done ++ t ∷ []) (moved p s t)
plain_told p s t done out told =
    let grown = declared_longer p t s.names in
    record {
      formulas = subst (λ (ns : List Name). AllByRecursion
          (λ w. IsDerivedFrom (done ++ t ∷ []) ns (section_formula w)) s.formulas) (sym grown.1)
          (formulas_longer done t s.names grown.0 s.formulas told.formulas);
      few = told.few;
      current = outside_free p (moved p s t) (done ++ t ∷ []) out;
    }

pub unless_told : (o : Option TlsfCause) (p : Phase) (s n : State) (t : Token) (done : List Token) → outside p ≡ true →
    Told done s → unless o (moved p s t) ≡ Ok n → Told (done ++ t ∷ []) n
unless_told None p s n t done out told e =
    subst (λ (x : State). Told (done ++ t ∷ []) x) (same_ok (moved p s t) n e) (plain_told p s t done out told)
unless_told (Some cause) p s n t done out told e = absurd (err_ok cause n e)

-- ## Inside a formula

within_current : (section : Section) (is_behind : Bool) (s : State) (done : List Token) → Within is_behind s done →
    InFormula (phase_of section is_behind) s done
within_current section true s done w = w
within_current section false s done w = w

stop_pushed : (n : ℕ) (ts : List Token) (t : Token) → stop_behind n (ts ++ t ∷ []) ≡ t.stop
stop_pushed n [] t = refl
stop_pushed n (x ∷ ts) t = stop_pushed x.stop ts t

-- a token inside a formula
stepped : (section : Section) (was : Bool) (s n : State) (t : Token) (done : List Token) (is_behind : Bool)
    (r : Result Work TlsfCause) → at_work (phase_of section is_behind) s r ≡ Ok n →
    next limits s.names (spot_of was s.work) t ≡ seen is_behind r →
    Holds (Ends s.work.start t.stop is_behind) r →
    AllByRecursion (λ w. IsDerivedFrom done s.names (section_formula w)) s.formulas → Within was s done →
    Told (done ++ t ∷ []) n
stepped section was s n t done is_behind (Err cause) e h ends all w = absurd (err_ok cause n e)
stepped section was s n t done is_behind (Ok work) e h ends all w =
    let reading : Reading limits s.names w.begun (spot_of is_behind work) (w.first ∷ w.more ++ t ∷ []) =
    next_reading limits s.names w.begun (spot_of was s.work) (spot_of is_behind work) (w.first ∷ w.more) t w.reading h
    in
    let new : State = record s { phase = phase_of section is_behind; work = work } in
    subst (λ (x : State). Told (done ++ t ∷ []) x) (same_ok new n e) (record {
      formulas = formulas_kept done t s.names s.formulas all;
      few = reading.few;
      current = within_current section is_behind new (done ++ t ∷ []) (record {
        before = w.before;
        first = w.first;
        more = w.more ++ t ∷ [];
        tokens_are = grown done w.before (w.first ∷ w.more) (t ∷ []) w.tokens_are;
        begun = w.begun;
        reading = reading;
        start_is = ends.start_is ∙ w.start_is;
        stop_is = λ k. ends.stop_is k ∙ sym (stop_pushed w.first.stop w.more t);
      });
    })

pub beside_told : (section : Section) (was : Bool) (s n : State) (t : Token) (done : List Token) →
    Beside s section was t → step s t ≡ Ok n →
    AllByRecursion (λ w. IsDerivedFrom done s.names (section_formula w)) s.formulas → Within was s done →
    Told (done ++ t ∷ []) n
beside_told section was s n t done b e all w =
    stepped section was s n t done b.is_behind b.result (sym b.step_is ∙ e) b.next_is b.ends all w

-- the first token of a formula
pub first_stepped : (section : Section) (s n : State) (t : Token) (done : List Token) (is_behind : Bool)
    (r : Result Work TlsfCause) → s.work.frames ≡ [] → s.work.ops ≡ [] → s.work.used ≤ use_limit →
    at_work (phase_of section is_behind) (started s section t) r ≡ Ok n →
    next limits s.names (spot_of false (started s section t).work) t ≡ seen is_behind r →
    Holds (Ends t.start t.stop is_behind) r →
    AllByRecursion (λ w. IsDerivedFrom done s.names (section_formula w)) s.formulas → Told (done ++ t ∷ []) n
first_stepped section s n t done is_behind (Err cause) frames ops few e h ends all = absurd (err_ok cause n e)
first_stepped section s n t done is_behind (Ok work) frames ops few e h ends all =
    let same : spot_of false (started s section t).work ≡ before_operand [] [] s.work.used = rw (frames, ops) refl in
    let total : s.work.used ≡ s.work.used + used_by [] = omega arith in
    let empty : Reading limits s.names s.work.used (before_operand [] [] s.work.used) [] = record {
      total = total;
      few = few;
      place = nothing;
    } in
    let reading : Reading limits s.names s.work.used (spot_of is_behind work) ([] ++ t ∷ []) =
    next_reading limits s.names s.work.used (before_operand [] [] s.work.used) (spot_of is_behind work) [] t empty
    (ap (λ (x : Spot). next limits s.names x t) (sym same) ∙ h) in
    let new : State = record (started s section t) { phase = phase_of section is_behind; work = work } in
    subst (λ (x : State). Told (done ++ t ∷ []) x) (same_ok new n e) (record {
      formulas = formulas_kept done t s.names s.formulas all;
      few = reading.few;
      current = within_current section is_behind new (done ++ t ∷ []) (record {
        before = done;
        first = t;
        more = [];
        tokens_are = refl;
        begun = s.work.used;
        reading = reading;
        start_is = ends.start_is;
        stop_is = λ k. ends.stop_is k;
      });
    })
