-- Texts and the grammar around formulas.
-- - `texts_outlined`: each text that is read matches
-- - `refused_fits_nowhere`, `ends_at_end`: what is refused outside formulas fits nowhere
use Rattle.std.proofs.Common.{◌≡◌, ℕ, Bool, true, false, cond, List, [], ◌∷◌, ◌++◌, length, None, Some, refl, ap}
use Rattle.std.proofs.Common.{◌∙◌, sym, subst, Ok, Err}
use Rattle.std.specs.Prelude.{Option, Result, nat_le, is_some, ◌||◌}
use Rattle.std.proofs.lemmas.Bool.{false≢true}
use Rattle.std.proofs.lemmas.List.{append-nil, map-append}
use Rattle.std.proofs.lemmas.Option.{none-some, same_Some}
use Rattle.ps_text.specs.Answers.{Found}
use Rattle.ps_tlsf.specs.Headings.{agrees, has_item, has_list}
use Rattle.ps_tlsf.specs.Lexicon.{Token, lex}
use Rattle.ps_tlsf.specs.Names.{is_reserved, name_limit, number_of}
use Rattle.ps_tlsf.specs.Outline.{Expression, Matches, is_empty, is_in_formula, no_row, signs_of, specification}
use Rattle.ps_tlsf.specs.Phases.{goes}
use Rattle.ps_tlsf.specs.Reading.{answer_of, is_end}
use Rattle.ps_tlsf.specs.Specifications.{Specification}
use Rattle.ps_tlsf.specs.Steps.{State, bars, fresh, moved, on_ok, run, step, step_by, unless}
use Rattle.ps_tlsf.specs.declared.fault.TlsfCause.{TlsfCause}
use Rattle.ps_tlsf.specs.declared.fault.TlsfCause.TheVariants as causes
use Rattle.ps_tlsf.specs.declared.phases.Block.TheVariants as blocks
use Rattle.ps_tlsf.specs.declared.phases.Phase.{Phase}
use Rattle.ps_tlsf.specs.declared.phases.Phase.TheVariants as phases
use Rattle.ps_tlsf.specs.declared.words.Sign.{Sign}
use Rattle.ps_tlsf.proofs.OutlinedTexts.Derivatives.{behind, behind_matches, has_empty, matches_behind, matches_nothing}
use Rattle.ps_tlsf.proofs.OutlinedTexts.Derivatives.{no_match}
use Rattle.ps_tlsf.proofs.OutlinedTexts.GoodSteps.{no_state}
use Rattle.ps_tlsf.proofs.OutlinedTexts.Outlines.{Leads, leads, outline, step_leads}
use Rattle.ps_tlsf.proofs.OutlinedTexts.Running.{run_is, run_nothing}
use Rattle.ps_tlsf.proofs.OutlinedTexts.WholeAnswers.{state_of_answer}

at_end : (p : Phase) → is_end p ≡ true → Matches (outline p) []
at_end phases.End e = is_empty
at_end p e = absurd (false≢true e)

same_run : (a b : State) → (let r : Result State (Found TlsfCause) = Ok a in r) ≡ Ok b → a ≡ b
same_run a b h = cc

ok_err : (a : State) (cause : TlsfCause) → (let r : Result State TlsfCause = Ok a in r) ≡ Err cause → ⊥
ok_err a cause e = cc

same_err : (a b : TlsfCause) → (let r : Result State TlsfCause = Err a in r) ≡ Err b → a ≡ b
same_err a b e = cc

run_matches : (ts : List Token) (s last : State) → run s ts ≡ Ok last → is_end last.phase ≡ true →
    Matches (outline s.phase) (signs_of ts)
run_matches [] s last e end =
    at_end s.phase (ap (λ (x : State). is_end x.phase) (same_run s last (sym (run_nothing s) ∙ e)) ∙ end)
run_matches (t ∷ ts) s last e end =
    by (step s t) refl (sym (run_is s t ts) ∙ e) (λ n k. run_matches ts n last k end)
  where
    by : (r : Result State TlsfCause) → step s t ≡ r → on_ok r t.start (λ n. run n ts) ≡ Ok last →
        ((n : State) → run n ts ≡ Ok last → Matches (outline n.phase) (signs_of ts)) →
        Matches (outline s.phase) (t.sign ∷ signs_of ts)
    by (Err cause) is k go = absurd (no_state _ last k)
    by (Ok n) is k go = behind_matches (outline s.phase) t.sign (signs_of ts)
        (subst (λ (e : Expression). Matches e (signs_of ts)) (sym (step_leads s n t is)) (go n k))

pub texts_outlined : (text : List ℕ) (s : Specification) → answer_of text ≡ Ok s →
    Matches specification (signs_of (lex 0 text))
texts_outlined text s e =
    let r = state_of_answer text s e in
    run_matches (lex 0 text) fresh r.0 r.1 r.2

-- ## What is refused

run_behind : (ts : List Token) (s last : State) (rest : List Sign) → run s ts ≡ Ok last →
    Matches (outline s.phase) (signs_of ts ++ rest) → Matches (outline last.phase) rest
run_behind [] s last rest e m =
    subst (λ (x : State). Matches (outline x.phase) rest) (same_run s last (sym (run_nothing s) ∙ e)) m
run_behind (t ∷ ts) s last rest e m =
    by (step s t) refl (sym (run_is s t ts) ∙ e) (λ n k h. run_behind ts n last rest k h)
  where
    by : (r : Result State TlsfCause) → step s t ≡ r → on_ok r t.start (λ n. run n ts) ≡ Ok last →
        ((n : State) → run n ts ≡ Ok last → Matches (outline n.phase) (signs_of ts ++ rest) →
        Matches (outline last.phase) rest) → Matches (outline last.phase) rest
    by (Err cause) is k go = absurd (no_state _ last k)
    by (Ok n) is k go = go n k (subst (λ (x : Expression). Matches x (signs_of ts ++ rest)) (step_leads s n t is)
        (matches_behind (outline s.phase) t.sign (signs_of ts ++ rest) m))

other_cause : (b : Bool) (cause : TlsfCause) (rest : Option TlsfCause) → (cause ≡ causes.Syntax → ⊥) →
    (rest ≡ Some causes.Syntax → ⊥) → cond b (Some cause) rest ≡ Some causes.Syntax → ⊥
other_cause true cause rest f g e = f (same_Some cause causes.Syntax e)
other_cause false cause rest f g e = g e

no_cause : (let o : Option TlsfCause = None in o) ≡ Some causes.Syntax → ⊥
no_cause e = none-some causes.Syntax e

twice_other : causes.Twice ≡ causes.Syntax → ⊥
twice_other e = cc

order_other : causes.Order ≡ causes.Syntax → ⊥
order_other e = cc

name_other : causes.Name ≡ causes.Syntax → ⊥
name_other e = cc

limit_other : causes.Limit ≡ causes.Syntax → ⊥
limit_other e = cc

-- what the grammar allows is refused for other causes
never_syntax : (next : Phase) (s : State) (t : Token) → bars next s t ≡ Some causes.Syntax → ⊥
never_syntax (phases.Colon name) s t e = other_cause (has_item s.heading name) causes.Twice None twice_other no_cause e
never_syntax (phases.Brace (blocks.Names side)) s t e =
    other_cause (has_list s.heading side) causes.Twice None twice_other no_cause e
never_syntax phases.MainBrace s t e = by (agrees s.heading) e
  where
    by : (b : Bool) → cond b None (Some causes.Order) ≡ Some causes.Syntax → ⊥
    by true h = no_cause h
    by false h = order_other (same_Some causes.Order causes.Syntax h)
never_syntax (phases.BehindName side) s t e =
    other_cause (is_reserved t.sign || is_some (number_of s.names t.text)) causes.Name
    (cond (nat_le name_limit (length s.names)) (Some causes.Limit) None) name_other
    (λ h. other_cause (nat_le name_limit (length s.names)) causes.Limit None limit_other no_cause h) e
never_syntax next s t e = none-some causes.Syntax e

refused_by : (o : Option Phase) (s : State) (t : Token) → is_in_formula s.phase ≡ false →
    Leads s.phase o (behind (outline s.phase) t.sign) → step_by o s t ≡ Err causes.Syntax →
    behind (outline s.phase) t.sign ≡ no_row
refused_by None s t out h e = h out
refused_by (Some next) s t out h e = by (bars next s t) refl e
  where
    by : (o : Option TlsfCause) → bars next s t ≡ o → unless o (moved next s t) ≡ Err causes.Syntax →
        behind (outline s.phase) t.sign ≡ no_row
    by None is k = absurd (ok_err (moved next s t) causes.Syntax k)
    by (Some cause) is k = absurd (never_syntax next s t
        (is ∙ ap (λ (c : TlsfCause). let o : Option TlsfCause = Some c in o) (same_err cause causes.Syntax k)))

refused_step : (s : State) (t : Token) → is_in_formula s.phase ≡ false → step s t ≡ Err causes.Syntax →
    behind (outline s.phase) t.sign ≡ no_row
unfolding step
refused_step s t out e = refused_by (goes s.phase t.sign) s t out (leads s.phase t.sign) e

-- no text goes on with a token that is refused
pub refused_fits_nowhere : (before rest : List Token) (t : Token) (s : State) → run fresh before ≡ Ok s →
    is_in_formula s.phase ≡ false → step s t ≡ Err causes.Syntax →
    Matches specification (signs_of (before ++ t ∷ rest)) → ⊥
refused_fits_nowhere before rest t s e out h m =
    let split : signs_of (before ++ t ∷ rest) ≡ signs_of before ++ (t.sign ∷ signs_of rest) =
    map-append (λ (x : Token). x.sign) before (t ∷ rest) in
    let on : Matches (outline s.phase) (t.sign ∷ signs_of rest) =
    run_behind before fresh s (t.sign ∷ signs_of rest) e
    (subst (λ (ss : List Sign). Matches specification ss) split m) in
    no_match (subst (λ (x : Expression). Matches x (signs_of rest)) (refused_step s t out h)
    (matches_behind (outline s.phase) t.sign (signs_of rest) on))

only_end : (p : Phase) → has_empty (outline p) ≡ true → is_end p ≡ true
only_end phases.End e = refl
only_end (phases.Brace (blocks.Names side)) e = absurd (false≢true e)
only_end (phases.Brace (blocks.Formulas kind)) e = absurd (false≢true e)
only_end p e = absurd (false≢true e)

-- a text ends only where the grammar lets it end
pub ends_at_end : (text : List Token) (s : State) → run fresh text ≡ Ok s → Matches specification (signs_of text) →
    is_end s.phase ≡ true
ends_at_end text s e m =
    only_end s.phase (matches_nothing (outline s.phase) (run_behind text fresh s [] e
    (subst (λ (ss : List Sign). Matches specification ss) (sym (append-nil (signs_of text))) m)))
