-- The answer to a text.
-- - `state_of_answer`: it comes from the state behind the text
-- - `whole_of_answer`: the formula of the whole is the one that the formulas of the sections give
-- - `few_of_answer`, `differ_of_answer`: there are at most 64 names, and no two are equal
use Rattle.std.proofs.Common.{◌≡◌, ℕ, ◌≤◌, Bool, true, false, cond, List, length, refl, ap, sym, ◌∙◌, subst, Ok, Err}
use Rattle.std.specs.Prelude.{Result, nat_lt}
use Rattle.ps_text.specs.Answers.{Found}
use Rattle.ps_tlsf.specs.Lexicon.{lex}
use Rattle.ps_tlsf.specs.Meanings.{whole_of}
use Rattle.ps_tlsf.specs.Reading.{answer_of, ended_at, is_end, meaning, read_of, text_limit}
use Rattle.ps_tlsf.specs.Specifications.{Specification, specification_of}
use Rattle.ps_tlsf.specs.Steps.{State, fresh, run}
use Rattle.ps_tlsf.specs.declared.fault.TlsfCause.{TlsfCause}
use Rattle.ps_tlsf.specs.declared.fault.TlsfCause.TheVariants as causes
use Rattle.ps_tlsf.proofs.OutlinedTexts.GoodSteps.{IsGood, fresh_good, run_good}
use Rattle.ps_tlsf.proofs.OutlinedTexts.NamesDiffer.{Differ, fresh_once, run_once}
use Rattle.ps_tlsf.proofs.SectionFormulas.WholeFormulas.{whole_value}

abbrev IsWhole : Specification → Type 0
IsWhole s = s.whole ≡ whole_of s.is_strict s.formulas

state_whole : (s : State) → IsGood s → IsWhole (specification_of s)
state_whole s good = whole_value s.formulas good.formed s.heading.is_strict

no_meaning : (f : Found TlsfCause) (x : Specification) →
    (let r : Result Specification (Found TlsfCause) = Err f in r) ≡ Ok x → ⊥
no_meaning f x h = cc

no_end : (f : Found TlsfCause) (x : State) → (let r : Result State (Found TlsfCause) = Err f in r) ≡ Ok x → ⊥
no_end f x h = cc

of_end : (end : ℕ) (r : Result State (Found TlsfCause)) (state : State) → ended_at end r ≡ Ok state →
    (r ≡ Ok state) × (is_end state.phase ≡ true)
of_end end (Err found) state e = absurd (no_end found state e)
of_end end (Ok s) state e = by (is_end s.phase) refl e
  where
    state_is : (x : State) → (let r : Result State (Found TlsfCause) = Ok x in r) ≡ Ok state → x ≡ state
    state_is x h = cc

    by : (b : Bool) → is_end s.phase ≡ b → cond {A = Result State (Found TlsfCause)} b (Ok s)
        (Err (record { cause = causes.Syntax; offset = end })) ≡ Ok state →
        ((let r : Result State (Found TlsfCause) = Ok s in r) ≡ Ok state) × (is_end state.phase ≡ true)
    by true is h = (h, ap (λ (x : State). is_end x.phase) (sym (state_is s h)) ∙ is)
    by false is h = absurd (no_end _ state h)

of_test : (b : Bool) (found : Found TlsfCause) (r : Result State (Found TlsfCause)) (state : State) →
    cond {A = Result State (Found TlsfCause)} b (Err found) r ≡ Ok state → r ≡ Ok state
of_test true found r state e = cc
of_test false found r state e = e

read_run : (text : List ℕ) (state : State) → read_of text ≡ Ok state →
    (run fresh (lex 0 text) ≡ Ok state) × (is_end state.phase ≡ true)
read_run text state e = of_end (length text) (run fresh (lex 0 text)) state (of_test (nat_lt text_limit (length text))
    (record { cause = causes.Limit; offset = text_limit }) (ended_at (length text) (run fresh (lex 0 text))) state e)

-- the specification is the meaning of the state behind the text
pub state_of_answer : (text : List ℕ) (s : Specification) → answer_of text ≡ Ok s →
    (state : State) × (run fresh (lex 0 text) ≡ Ok state) × (is_end state.phase ≡ true) ×
    (specification_of state ≡ s)
state_of_answer text s e = by (read_of text) refl e
  where
    by : (r : Result State (Found TlsfCause)) → read_of text ≡ r → meaning r ≡ Ok s →
        (state : State) × (run fresh (lex 0 text) ≡ Ok state) × (is_end state.phase ≡ true) ×
        (specification_of state ≡ s)
    by (Ok state) is h =
        let same : specification_of state ≡ s = cc in
        let r = read_run text state is in
        (state, r.0, r.1, same)
    by (Err found) is h = absurd (no_meaning found s h)

pub whole_of_answer : (text : List ℕ) (s : Specification) → answer_of text ≡ Ok s → IsWhole s
whole_of_answer text s e =
    let r = state_of_answer text s e in
    subst IsWhole r.3 (state_whole r.0 (run_good fresh (lex 0 text) r.0 fresh_good r.1))

pub few_of_answer : (text : List ℕ) (s : Specification) → answer_of text ≡ Ok s → length s.names ≤ 64
few_of_answer text s e =
    let r = state_of_answer text s e in
    subst (λ (t : Specification). length t.names ≤ 64) r.3 (run_good fresh (lex 0 text) r.0 fresh_good r.1).few

pub differ_of_answer : (text : List ℕ) (s : Specification) → answer_of text ≡ Ok s → Differ s.names
differ_of_answer text s e =
    let r = state_of_answer text s e in
    subst (λ (t : Specification). Differ t.names) r.3 (run_once fresh (lex 0 text) r.0 fresh_once r.1)
