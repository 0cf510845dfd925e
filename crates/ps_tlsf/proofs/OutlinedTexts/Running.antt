-- The run through the tokens, one at a time.
use Rattle.std.proofs.Common.{◌≡◌, ℕ, Bool, true, false, cond, List, [], ◌∷◌, length, Ok, Err, refl, ap, sym, subst}
use Rattle.std.proofs.Common.{◌∙◌}
use Rattle.std.specs.Prelude.{Result}
use Rattle.std.specs.Result.{IsErrAnd}
use Rattle.ps_text.specs.Answers.{Found}
use Rattle.ps_text.specs.declared.faults.Fault.TheVariants.{Text, OutOfMemory}
use Rattle.ps_tlsf.specs.Causes.{TlsfFault}
use Rattle.ps_tlsf.specs.Lexicon.{Token, lex}
use Rattle.ps_tlsf.specs.Reading.{ended_at, is_end}
use Rattle.ps_tlsf.specs.Inner.Runs.{IsRead}
use Rattle.ps_tlsf.specs.Inner.Views.{Steps}
use Rattle.ps_tlsf.specs.declared.steps.State as states
use Rattle.ps_tlsf.specs.declared.fault.TlsfCause.TheVariants as causes
use Rattle.ps_tlsf.specs.Steps.{State, fresh, on_ok, run, step}
use Rattle.ps_tlsf.specs.declared.fault.TlsfCause.{TlsfCause}

pub run_is : (s : State) (t : Token) (ts : List Token) →
    run s (t ∷ ts) ≡ on_ok (step s t) t.start (λ next. run next ts)
unfolding run
run_is s t ts = refl

pub run_nothing : (s : State) → run s [] ≡ Ok s
unfolding run
run_nothing s = refl

pub runs : (s next : State) (t : Token) (ts all : List Token) → all ≡ t ∷ ts → step s t ≡ Ok next →
    run s all ≡ run next ts
runs s next t ts all is e =
    ap (λ (l : List Token). run s l) is ∙ run_is s t ts
    ∙ ap (λ (r : Result State TlsfCause). on_ok r t.start (λ n. run n ts)) e

pub run_fails : (s : State) (t : Token) (ts all : List Token) (cause : TlsfCause) → all ≡ t ∷ ts →
    step s t ≡ Err cause → run s all ≡ Err (record { cause = cause; offset = t.start })
run_fails s t ts all cause is e =
    ap (λ (l : List Token). run s l) is ∙ run_is s t ts
    ∙ ap (λ (r : Result State TlsfCause). on_ok r t.start (λ n. run n ts)) e

pub runs_out : (s : State) (all : List Token) → all ≡ [] → run s all ≡ Ok s
runs_out s all is = ap (λ (l : List Token). run s l) is ∙ run_nothing s

-- ## The parser

pub err_is : (r : Result states.State TlsfFault) (fault : TlsfFault) → IsErrAnd r (λ y. y ≡ fault) → r ≡ Err fault
err_is (Ok state) fault h = absurd h
err_is (Err y) fault h = ap (λ (z : TlsfFault). let r : Result states.State TlsfFault = Err z in r) h

module _ (text : List ℕ) (s : State) (all : List Token) (so_far : run s all ≡ run fresh (lex 0 text)) where
  pub fault_read : (t : Token) (ts : List Token) (fault : TlsfFault) (new : State)
      (r : Result states.State TlsfFault) → all ≡ t ∷ ts → Steps (step s t) t.start (Err fault) new → r ≡ Err fault →
      IsRead text r
  fault_read t ts (Text cause offset) new r is h e = subst (IsRead text) (sym e)
      (ap (λ (x : Result State (Found TlsfCause)). ended_at (length text) x)
      (sym so_far ∙ run_fails s t ts all cause is h.0)
      ∙ ap (λ (n : ℕ). let x : Result State (Found TlsfCause) = Err (record { cause = cause; offset = n }) in x)
      (sym h.1))
  fault_read t ts OutOfMemory new r is h e = subst (IsRead text) (sym e) tt

  module _ (out : all ≡ []) where
    ended : ended_at (length text) (run fresh (lex 0 text)) ≡ ended_at (length text) (Ok s)
    ended = ap (λ (x : Result State (Found TlsfCause)). ended_at (length text) x) (sym so_far ∙ runs_out s all out)

    pub early_end : is_end s.phase ≡ false →
        ended_at (length text) (run fresh (lex 0 text)) ≡ Err (record { cause = causes.Syntax; offset = length text })
    early_end early = ended ∙ ap (λ (b : Bool). cond {A = Result State (Found TlsfCause)} b (Ok s)
        (Err (record { cause = causes.Syntax; offset = length text }))) early

    pub right_end : is_end s.phase ≡ true → ended_at (length text) (run fresh (lex 0 text)) ≡ Ok s
    right_end last = ended ∙ ap (λ (b : Bool). cond {A = Result State (Found TlsfCause)} b (Ok s)
        (Err (record { cause = causes.Syntax; offset = length text }))) last
