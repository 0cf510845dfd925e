-- A formula that the grammar derives is read, from token to token.
-- - `Went state section tokens spot`: the run through tokens inside a formula, beside the walk to the spot
-- - `derived_reads`: the run through a formula that the grammar derives
use Rattle.std.proofs.Common.{◌≡◌, ℕ, Bool, true, false, cond, List, [], ◌∷◌, ◌++◌, None, Some, refl, ap, ◌∙◌}
use Rattle.std.proofs.Common.{sym, subst, Ok, Err}
use Rattle.std.specs.Prelude.{Option, Result}
use Rattle.std.specs.Option.{option_and_then}
use Rattle.std.proofs.lemmas.Option.{none-some, same_Some}
use Rattle.ps_tlsf.specs.Derivations.{closes, stop_behind}
use Rattle.ps_tlsf.specs.Lexicon.{Token}
use Rattle.ps_tlsf.specs.Machines.{Work, at_operand}
use Rattle.ps_tlsf.specs.Names.{Name}
use Rattle.ps_tlsf.specs.Phases.{goes}
use Rattle.ps_tlsf.specs.Steps.{State, at_work, from_start, on_ok, phase_behind}
use Rattle.ps_tlsf.specs.Steps.{run, step}
use Rattle.ps_tlsf.specs.declared.fault.TlsfCause.{TlsfCause}
use Rattle.ps_tlsf.specs.declared.phases.Phase.{Phase}
use Rattle.ps_tlsf.specs.declared.phases.Phase.TheVariants as phases
use Rattle.ps_tlsf.specs.declared.words.Section.{Section}
use Rattle.ps_tlsf.specs.declared.words.Sign.{Sign}
use Rattle.ps_tlsf.specs.declared.words.Sign.TheVariants as signs
use Rattle.ps_tlsf.proofs.ReadFormulas.FormulaSteps.{Beside, Ends, Numbers, behind_beside, operand_beside, phase_of}
use Rattle.ps_tlsf.proofs.ReadFormulas.FormulaSteps.{step_formula}
use Rattle.ps_tlsf.proofs.OutlinedTexts.GoodSteps.{Holds}
use Rattle.ps_tlsf.proofs.OutlinedTexts.Running.{run_is, runs}
use Rattle.ps_tlsf.proofs.ReadFormulas.TreeMachine.{Spot, behind_next, next, operand_next}
use Rattle.ps_tlsf.proofs.ReadFormulas.TreeMachine.{walk, walk_is, walk_nothing}
use Rattle.ps_tlsf.proofs.ReadFormulas.TreeViews.{limits, seen, spot_of}

-- ## A token

pub open_behind : (s : Spot) (sign : Sign) (v : Spot) → behind_next limits s sign ≡ Some v → closes sign ≡ false
open_behind s signs.Semicolon v e = absurd (none-some v e)
open_behind s signs.RightBrace v e = absurd (none-some v e)
open_behind s sign v e = refl

pub beside : (s : State) (section : Section) (was : Bool) (t : Token) → s.phase ≡ phase_of section was →
    Numbers s.names → (v : Spot) → next limits s.names (spot_of was s.work) t ≡ Some v → Beside s section was t
beside s section true t e small v h = behind_beside s section t e (open_behind (spot_of true s.work) t.sign v h)
beside s section false t e small v h = operand_beside s section t e small

pub record Advanced (s : State) (section : Section) (t : Token) (v : Spot) : Type 0 where
  pub work : Work
  pub step_is : step s t ≡ Ok (record s { phase = phase_of section v.is_behind; work = work })
  pub spot_is : spot_of v.is_behind work ≡ v
  pub ends : Ends s.work.start t.stop v.is_behind work

advanced_by : (s : State) (section : Section) (t : Token) (v : Spot) (is_behind : Bool) (r : Result Work TlsfCause) →
    step s t ≡ at_work (phase_of section is_behind) s r → seen is_behind r ≡ Some v →
    Holds (Ends s.work.start t.stop is_behind) r → Advanced s section t v
advanced_by s section t v is_behind (Err cause) e h k = absurd (none-some v h)
advanced_by s section t v is_behind (Ok w) e h k =
    subst (λ (x : Spot). Advanced s section t x) (same_Some (spot_of is_behind w) v h)
    (record { work = w; step_is = e; spot_is = refl; ends = k })

pub advanced : (s : State) (section : Section) (was : Bool) (t : Token) → s.phase ≡ phase_of section was →
    Numbers s.names → (v : Spot) → next limits s.names (spot_of was s.work) t ≡ Some v → Advanced s section t v
advanced s section was t e small v h =
    let b = beside s section was t e small v h in
    advanced_by s section t v b.is_behind b.result b.step_is (sym b.next_is ∙ h) b.ends

-- ## Tokens

pub record Went (s : State) (section : Section) (ts : List Token) (v : Spot) : Type 0 where
  pub work : Work
  pub run_is : (more : List Token) →
      run s (ts ++ more) ≡ run (record s { phase = phase_of section v.is_behind; work = work }) more
  pub spot_is : spot_of v.is_behind work ≡ v
  pub start_is : work.start ≡ s.work.start
  pub stop_is : v.is_behind ≡ true → work.stop ≡ stop_behind s.work.stop ts

same_state : (s : State) (p : Phase) → s.phase ≡ p → s ≡ record s { phase = p }
same_state s p e = ap (λ (q : Phase). record s { phase = q }) e

went_nowhere : (s : State) (section : Section) (was : Bool) → s.phase ≡ phase_of section was →
    Went s section [] (spot_of was s.work)
went_nowhere s section was e = record {
  work = s.work;
  run_is = λ more. ap (λ (x : State). run x more) (same_state s (phase_of section was) e);
  spot_is = refl;
  start_is = refl;
  stop_is = λ h. refl;
}

stop_same : (ts : List Token) (old new stop : ℕ) → (ts ≡ [] → old ≡ new) → stop ≡ stop_behind old ts →
    stop ≡ stop_behind new ts
stop_same [] old new stop h e = e ∙ h refl
stop_same (t ∷ ts) old new stop h e = e

-- the last token of a formula so far
last_stop : (s : State) (section : Section) (t : Token) (x v : Spot) (a : Advanced s section t x) (ts : List Token)
    (w : Work) → (ts ≡ [] → x.is_behind ≡ v.is_behind) → v.is_behind ≡ true →
    w.stop ≡ stop_behind a.work.stop ts → w.stop ≡ stop_behind t.stop ts
last_stop s section t x v a ts w same e h = stop_same ts a.work.stop t.stop w.stop
    (λ none. a.ends.stop_is (same none ∙ e)) h

went_on : (s : State) (section : Section) (t : Token) (ts : List Token) (x v : Spot) (a : Advanced s section t x) →
    (ts ≡ [] → x.is_behind ≡ v.is_behind) →
    Went (record s { phase = phase_of section x.is_behind; work = a.work }) section ts v → Went s section (t ∷ ts) v
went_on s section t ts x v a same w = record {
  work = w.work;
  run_is = λ more. runs s (record s { phase = phase_of section x.is_behind; work = a.work }) t (ts ++ more)
      (t ∷ ts ++ more) refl a.step_is ∙ w.run_is more;
  spot_is = w.spot_is;
  start_is = w.start_is ∙ a.ends.start_is;
  stop_is = λ e. last_stop s section t x v a ts w.work same e (w.stop_is e);
}

nowhere_same : (names : List Name) (x v : Spot) (ts : List Token) → walk limits names x ts ≡ Some v → ts ≡ [] →
    x.is_behind ≡ v.is_behind
nowhere_same names x v ts h none =
    ap (λ (s : Spot). s.is_behind) (same_Some x v (sym (walk_nothing limits names x)
    ∙ ap (λ (l : List Token). walk limits names x l) (sym none) ∙ h))

pub went : (ts : List Token) (s : State) (section : Section) (was : Bool) (v : Spot) →
    s.phase ≡ phase_of section was → Numbers s.names → walk limits s.names (spot_of was s.work) ts ≡ Some v →
    Went s section ts v
went [] s section was v e small h =
    subst (λ (x : Spot). Went s section [] x)
    (same_Some (spot_of was s.work) v (sym (walk_nothing limits s.names (spot_of was s.work)) ∙ h))
    (went_nowhere s section was e)
went (t ∷ ts) s section was v e small h =
    by (next limits s.names (spot_of was s.work) t) refl (sym (walk_is limits s.names (spot_of was s.work) t ts) ∙ h)
    (λ n x k. went ts n section x v k)
  where
    by : (o : Option Spot) → next limits s.names (spot_of was s.work) t ≡ o →
        option_and_then (λ (x : Spot). walk limits s.names x ts) o ≡ Some v →
        ((n : State) (b : Bool) → n.phase ≡ phase_of section b → Numbers n.names →
        walk limits n.names (spot_of b n.work) ts ≡ Some v → Went n section ts v) → Went s section (t ∷ ts) v
    by None is k go = absurd (none-some v k)
    by (Some x) is k go =
        let a = advanced s section was t e small x is in
        let n : State = record s { phase = phase_of section x.is_behind; work = a.work } in
        went_on s section t ts x v a (nowhere_same s.names x v ts k) (go n x.is_behind refl small
        (ap (λ (y : Spot). walk limits s.names y ts) a.spot_is ∙ k))

-- ## The first token

abbrev pub started : State → Section → Token → State
started s section t = record s { phase = phases.Operand section; work = record s.work { start = t.start } }

same_work : (p : Phase) (s : State) (section : Section) (t : Token) (r : Result Work TlsfCause) →
    at_work p (from_start s t) r ≡ at_work p (started s section t) r
same_work p s section t (Ok w) = refl
same_work p s section t (Err cause) = refl

pub first_step : (s : State) (section : Section) (t : Token) → s.phase ≡ phases.Formulas section →
    goes (phases.Formulas section) t.sign ≡ None → step s t ≡ step (started s section t) t
first_step s section t e none =
    step_formula s t (phases.Formulas section) e none
    ∙ same_work (phase_behind section t.sign) s section t
    (at_operand s.names (record s.work { start = t.start }) t t.sign)
    ∙ sym (step_formula (started s section t) t (phases.Operand section) refl refl)

no_brace : (names : List Name) (s : Spot) (t : Token) (section : Section) (sign : Sign) (v : Spot) →
    operand_next limits names s t sign ≡ Some v → goes (phases.Formulas section) sign ≡ None
no_brace names s t section signs.RightBrace v e = absurd (none-some v e)
no_brace names s t section sign v e = refl

pub first_run : (s : State) (section : Section) (t : Token) (ts : List Token) → s.phase ≡ phases.Formulas section →
    goes (phases.Formulas section) t.sign ≡ None → run s (t ∷ ts) ≡ run (started s section t) (t ∷ ts)
first_run s section t ts e none =
    run_is s t ts ∙ ap (λ (r : Result State TlsfCause). on_ok r t.start (λ n. run n ts)) (first_step s section t e none)
    ∙ sym (run_is (started s section t) t ts)

pub walk_begins : (names : List Name) (s v : Spot) (t : Token) (ts : List Token) (section : Section) →
    s.is_behind ≡ false →
    walk limits names s (t ∷ ts) ≡ Some v → goes (phases.Formulas section) t.sign ≡ None
walk_begins names s v t ts section before h =
    by (operand_next limits names s t t.sign) refl
    (ap (λ (b : Bool). option_and_then (λ (x : Spot). walk limits names x ts)
    (cond b (behind_next limits s t.sign) (operand_next limits names s t t.sign))) (sym before)
    ∙ sym (walk_is limits names s t ts) ∙ h)
  where
    by : (o : Option Spot) → operand_next limits names s t t.sign ≡ o →
        option_and_then (λ (x : Spot). walk limits names x ts) o ≡ Some v → goes (phases.Formulas section) t.sign ≡ None
    by None is e = absurd (none-some v e)
    by (Some x) is e = no_brace names s t section t.sign x is
