-- No two declared names are equal.
-- - `Differ names`: no two of the names are equal
-- - `run_once`: this is kept by each step, and holds at the end
use Rattle.std.proofs.Common.{◌≡◌, ◌≢◌, ◌∙◌, ℕ, ◌<◌, false, List, [], ◌∷◌, ◌++◌, length}
use Rattle.std.proofs.Common.{Option, None, Some, refl, sym, subst, arith, Ok, Err, get_or}
use Rattle.std.specs.Prelude.{AllPairs, Result}
use Rattle.std.specs.Str.{bytes_eq}
use Rattle.std.proofs.lemmas.Bool.Decides.{nat_tests}
use Rattle.std.proofs.lemmas.List.{get_or-map, length-map, map-append}
use Rattle.std.proofs.lemmas.List.Quantifiers.{all_pairs_push}
use Rattle.std.proofs.lemmas.List.Sums.{fails_before_first}
use Rattle.std.proofs.lemmas.Slice.Eq.{bytes_eq-Decides}
use Rattle.ps_text.specs.Answers.{Found}
use Rattle.ps_tlsf.specs.Lexicon.{Token}
use Rattle.ps_tlsf.specs.Machines.{Work, at_operand, ended, with_infix, with_paren}
use Rattle.ps_tlsf.specs.Names.{Name, name_cause, names_in, number_of}
use Rattle.ps_tlsf.specs.Phases.{goes}
use Rattle.ps_tlsf.specs.Steps.{State, at_work, bars, behind_step, declared_by, finished, formula_step, fresh}
use Rattle.ps_tlsf.specs.Steps.{from_start}
use Rattle.ps_tlsf.specs.Steps.{moved, on_ok, phase_behind, run, step, step_by, unless}
use Rattle.ps_tlsf.specs.declared.fault.TlsfCause.{TlsfCause}
use Rattle.ps_tlsf.specs.declared.phases.Phase.{Phase}
use Rattle.ps_tlsf.specs.declared.phases.Phase.TheVariants as phases
use Rattle.ps_tlsf.specs.declared.words.Section.{Section}
use Rattle.ps_tlsf.specs.declared.words.Side.TheVariants.{Inputs}
use Rattle.ps_tlsf.specs.declared.words.Sign.{Sign}
use Rattle.ps_tlsf.specs.declared.words.Sign.TheVariants as signs
use Rattle.ps_tlsf.proofs.OutlinedTexts.GoodSteps.{Holds}
use Rattle.ps_tlsf.proofs.OutlinedTexts.Running.{run_is, run_nothing}

abbrev pub Differ : List Name → Type 0
Differ names = AllPairs ◌≢◌ (names_in names)

-- ## Declaring a name

-- a name that has no number is none of the names
unnamed : (names : List Name) (text : List ℕ) → number_of names text ≡ None → (k : ℕ) (d : List ℕ) →
    k < length (names_in names) → get_or (names_in names) k d ≢ text
unnamed names text none k d within same =
    let n : Name = record { name = d; side = Inputs } in
    let small : k < length names = omega (arith, within, length-map names (λ (m : Name). m.name)) in
    let fails : bytes_eq (get_or names k n).name text ≡ false = fails_before_first
    (λ (m : Name). bytes_eq m.name text) names k n (grind (arith, nat_tests, none)) in
    grind (arith, get_or-map, bytes_eq-Decides)

declared_differ : (names : List Name) (n : Name) → number_of names n.name ≡ None → Differ names →
    Differ (names ++ n ∷ [])
declared_differ names n none h = rw (map-append (λ (m : Name). m.name) names (n ∷ []))
    (all_pairs_push ◌≢◌ (names_in names) n.name h (unnamed names n.name none))

-- a name that nothing bars has no number
free_unnamed : (names : List Name) (sign : Sign) (text : List ℕ) → name_cause names sign text ≡ None →
    number_of names text ≡ None
free_unnamed names sign text free = grind (arith, nat_tests)

behind_differ : (next : Phase) (s : State) (t : Token) → bars next s t ≡ None → Differ s.names →
    Differ (declared_by next t s.names)
behind_differ (phases.BehindName side) s t free h = declared_differ s.names (record { name = t.text; side = side })
    (free_unnamed s.names t.sign t.text free) h
behind_differ next s t free h = h

-- ## The steps

abbrev HaveOnce : State → Type 0
HaveOnce s = Differ s.names

at_work_once : (next : Phase) (s : State) (r : Result Work TlsfCause) → Differ s.names →
    Holds HaveOnce (at_work next s r)
at_work_once next s (Ok w) h = h
at_work_once next s (Err cause) h = tt

finished_once : (section : Section) (next : Phase) (s : State) (r : Result Work TlsfCause) → Differ s.names →
    Holds HaveOnce (finished section next s r)
finished_once section next s (Ok w) h = h
finished_once section next s (Err cause) h = tt

behind_once : (section : Section) (s : State) (t : Token) (sign : Sign) → Differ s.names →
    Holds HaveOnce (behind_step section s t sign)
behind_once section s t (signs.Infix operator) h =
    at_work_once (phases.Operand section) s (with_infix operator s.work) h
behind_once section s t signs.RightParen h = at_work_once s.phase s (with_paren t.stop s.work) h
behind_once section s t signs.Semicolon h = finished_once section (phases.Formulas section) s (ended s.work) h
behind_once section s t signs.RightBrace h = finished_once section phases.Sections s (ended s.work) h
behind_once section s t sign h = tt

formula_once : (p : Phase) (s : State) (t : Token) → Differ s.names → Holds HaveOnce (formula_step p s t)
formula_once (phases.Formulas section) s t h = at_work_once (phase_behind section t.sign) (from_start s t)
    (at_operand s.names (record s.work { start = t.start }) t t.sign) h
formula_once (phases.Operand section) s t h =
    at_work_once (phase_behind section t.sign) s (at_operand s.names s.work t t.sign) h
formula_once (phases.Behind section) s t h = behind_once section s t t.sign h
formula_once p s t h = tt

plain_once : (next : Phase) (s : State) (t : Token) (o : Option TlsfCause) → bars next s t ≡ o → Differ s.names →
    Holds HaveOnce (unless o (moved next s t))
plain_once next s t None free h = behind_differ next s t free h
plain_once next s t (Some cause) free h = tt

step_by_once : (o : Option Phase) (s : State) (t : Token) → Differ s.names → Holds HaveOnce (step_by o s t)
step_by_once (Some next) s t h = plain_once next s t (bars next s t) refl h
step_by_once None s t h = formula_once s.phase s t h

step_once : (s : State) (t : Token) → Differ s.names → Holds HaveOnce (step s t)
unfolding step
step_once s t h = step_by_once (goes s.phase t.sign) s t h

-- ## The run

pub fresh_once : Differ fresh.names
fresh_once i j d lt within = absurd (omega (arith, within))

pub run_once : (s : State) (ts : List Token) (last : State) → Differ s.names → run s ts ≡ Ok last → Differ last.names
run_once s [] last h e = let n = run_nothing s in let same : s ≡ last = cc in subst HaveOnce same h
run_once s (t ∷ ts) last h e =
    by (step s t) (step_once s t h) (sym (run_is s t ts) ∙ e) (λ next g k. run_once next ts last g k)
  where
    no_state : (found : Found TlsfCause) → (let r : Result State (Found TlsfCause) = Err found in r) ≡ Ok last → ⊥
    no_state found e = cc

    by : (r : Result State TlsfCause) → Holds HaveOnce r → on_ok r t.start (λ next. run next ts) ≡ Ok last →
        ((next : State) → Differ next.names → run next ts ≡ Ok last → Differ last.names) → Differ last.names
    by (Ok next) g k go = go next g k
    by (Err cause) g k go = absurd (no_state _ k)
