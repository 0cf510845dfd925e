-- The productions of the grammar for operators of two operands, as tables.
-- - `left o`, `right o`: the phrases on both sides of an operator; `makes o`: the phrase that it makes
-- - `under phrase top`: whether such a phrase can be complete above what stands before it on the stack
-- - `is_within p q`: whether each phrase of the first kind is a phrase of the second
use Rattle.std.proofs.Common.{◌≡◌, ℕ, Bool, true, false, cond, List, [], ◌∷◌, ◌++◌, None, Some, refl, ap}
use Rattle.std.proofs.Common.{◌+◌, ◌≤◌, arith}
use Rattle.std.specs.Prelude.{Option, max}
use Rattle.std.proofs.lemmas.Bool.{false≢true}
use Rattle.std.proofs.lemmas.Option.{none-some}
use Rattle.ps_formula.specs.Formulas.{Formula}
use Rattle.ps_tlsf.specs.Grammar.{Derives, Phrase, formula, implication, disjunction, conjunction, unary}
use Rattle.ps_tlsf.specs.Grammar.{conjunction_alone, disjunction_alone, implication_alone, unary_alone, with_and}
use Rattle.ps_tlsf.specs.Grammar.{nesting, with_iff, with_implies, with_or, with_temporal}
use Rattle.ps_tlsf.specs.Lexicon.{Token}
use Rattle.ps_tlsf.specs.Machines.{binds, may_follow, taken, taken_top, top_form}
use Rattle.ps_tlsf.specs.Names.{Name}
use Rattle.ps_tlsf.specs.Trees.{joined}
use Rattle.ps_tlsf.specs.declared.stack.Form.{Form}
use Rattle.ps_tlsf.specs.declared.stack.Form.TheVariants as forms
use Rattle.ps_tlsf.specs.declared.stack.Frame.{Frame}
use Rattle.ps_tlsf.specs.declared.stack.Op.{Op}
use Rattle.ps_tlsf.specs.declared.stack.Op.TheVariants as ops
use Rattle.ps_tlsf.specs.declared.stack.Sweep.{Sweep}
use Rattle.ps_tlsf.specs.declared.stack.Sweep.TheVariants as sweeps
use Rattle.ps_tlsf.specs.declared.words.Infix.{Infix}
use Rattle.ps_tlsf.specs.declared.words.Infix.TheVariants as infixes
use Rattle.ps_tlsf.specs.declared.words.Prefix.{Prefix}
use Rattle.ps_tlsf.specs.declared.words.Sign.TheVariants as signs

abbrev pub left : Infix → Phrase
left infixes.And = conjunction
left infixes.Or = disjunction
left infixes.Implies = disjunction
left infixes.Iff = disjunction
left operator = unary

abbrev pub right : Infix → Phrase
right infixes.And = unary
right infixes.Or = conjunction
right infixes.Implies = implication
right infixes.Iff = disjunction
right operator = unary

abbrev pub makes : Infix → Phrase
makes infixes.And = conjunction
makes infixes.Or = disjunction
makes infixes.Implies = implication
makes operator = formula

abbrev pub under : Phrase → Option Form → Bool
under unary (Some (forms.Prefix p)) = false
under unary top = true
under conjunction top = may_follow infixes.And top
under disjunction top = may_follow infixes.Or top
under implication top = may_follow infixes.Implies top
under formula top = may_follow infixes.Iff top

-- whether a sweep takes all operators that such a phrase may leave on the stack
abbrev pub takes : Phrase → Sweep → Bool
takes unary sweep = true
takes conjunction (sweeps.Before outer) = binds outer infixes.And
takes disjunction (sweeps.Before outer) = binds outer infixes.Or
takes phrase sweeps.Row = true
takes phrase sweep = false

-- ## Completing an operator

pub left_under : (o : Infix) (top : Option Form) → under (makes o) top ≡ true → under (left o) top ≡ true
left_under infixes.And top e = e
left_under infixes.Or top e = e
left_under infixes.Implies None e = refl
left_under infixes.Implies (Some forms.Paren) e = refl
left_under infixes.Implies (Some (forms.Infix infixes.Implies)) e = refl
left_under infixes.Implies (Some form) e = absurd (false≢true e)
left_under infixes.Iff None e = refl
left_under infixes.Iff (Some forms.Paren) e = refl
left_under infixes.Iff (Some form) e = absurd (false≢true e)
left_under operator None e = refl
left_under operator (Some forms.Paren) e = refl
left_under operator (Some form) e = absurd (false≢true e)

pub follows : (o : Infix) (top : Option Form) → under (makes o) top ≡ true → may_follow o top ≡ true
follows infixes.And top e = e
follows infixes.Or top e = e
follows infixes.Implies top e = e
follows infixes.Iff top e = e
follows operator None e = refl
follows operator (Some forms.Paren) e = refl
follows operator (Some form) e = absurd (false≢true e)

pub right_under : (o : Infix) → under (right o) (Some (forms.Infix o)) ≡ true
right_under infixes.And = refl
right_under infixes.Or = refl
right_under infixes.Implies = refl
right_under infixes.Iff = refl
right_under operator = refl

pub left_takes : (o : Infix) → takes (left o) (sweeps.Before o) ≡ true
left_takes infixes.And = refl
left_takes infixes.Or = refl
left_takes infixes.Implies = refl
left_takes infixes.Iff = refl
left_takes operator = refl

pub right_takes : (o : Infix) (sweep : Sweep) → takes (makes o) sweep ≡ true → takes (right o) sweep ≡ true
right_takes infixes.And sweep e = refl
right_takes infixes.Or sweeps.Row e = refl
right_takes infixes.Or (sweeps.Before infixes.Or) e = refl
right_takes infixes.Or (sweeps.Before infixes.Implies) e = refl
right_takes infixes.Or (sweeps.Before infixes.Iff) e = refl
right_takes infixes.Or sweep e = absurd (false≢true e)
right_takes infixes.Implies sweep e = e
right_takes infixes.Iff sweeps.Row e = refl
right_takes infixes.Iff sweep e = absurd (false≢true e)
right_takes operator sweep e = refl

stays_by : (o : Infix) (form : Form) → under (makes o) (Some form) ≡ true → taken (sweeps.Before o) form ≡ None
stays_by o (forms.Prefix p) e = refl
stays_by o forms.Paren e = refl
stays_by infixes.And (forms.Infix infixes.And) e = absurd (false≢true e)
stays_by infixes.Or (forms.Infix infixes.And) e = absurd (false≢true e)
stays_by infixes.Or (forms.Infix infixes.Or) e = absurd (false≢true e)
stays_by infixes.Implies (forms.Infix infixes.And) e = absurd (false≢true e)
stays_by infixes.Implies (forms.Infix infixes.Or) e = absurd (false≢true e)
stays_by infixes.Iff (forms.Infix infixes.And) e = absurd (false≢true e)
stays_by infixes.Iff (forms.Infix infixes.Or) e = absurd (false≢true e)
stays_by o (forms.Infix inner) e = refl

-- what is under a phrase is not taken before the operator that makes it
pub stays : (o : Infix) (frames : List Frame) → under (makes o) (top_form frames) ≡ true →
    taken_top (sweeps.Before o) frames ≡ None
stays o [] e = refl
stays o (frame ∷ frames) e = stays_by o frame.form e

pub takes_it : (o : Infix) (sweep : Sweep) → takes (makes o) sweep ≡ true →
    taken sweep (forms.Infix o) ≡ Some (ops.Infix o)
takes_it o sweeps.Row e = refl
takes_it o sweeps.Prefixes e = absurd (no_prefixes o e)
  where
    no_prefixes : (o : Infix) → takes (makes o) sweeps.Prefixes ≡ true → ⊥
    no_prefixes infixes.And e = false≢true e
    no_prefixes infixes.Or e = false≢true e
    no_prefixes infixes.Implies e = false≢true e
    no_prefixes operator e = false≢true e
takes_it infixes.And (sweeps.Before outer) e = ap (λ (b : Bool). cond b (Some (ops.Infix infixes.And)) None) e
takes_it infixes.Or (sweeps.Before outer) e = ap (λ (b : Bool). cond b (Some (ops.Infix infixes.Or)) None) e
takes_it operator (sweeps.Before outer) e = absurd (false≢true e)

-- ## Phrases that are other phrases

pub above_conjunction : (top : Option Form) → under conjunction top ≡ true → under unary top ≡ true
above_conjunction (Some (forms.Prefix p)) e = absurd (false≢true e)
above_conjunction top e = refl

pub above_disjunction : (top : Option Form) → under disjunction top ≡ true → under conjunction top ≡ true
above_disjunction None e = refl
above_disjunction (Some forms.Paren) e = refl
above_disjunction (Some (forms.Infix infixes.Implies)) e = refl
above_disjunction (Some (forms.Infix infixes.Iff)) e = refl
above_disjunction (Some form) e = absurd (false≢true e)

pub above_formula : (top : Option Form) → under formula top ≡ true → under implication top ≡ true
above_formula None e = refl
above_formula (Some forms.Paren) e = refl
above_formula (Some form) e = absurd (false≢true e)

pub takes_disjunction : (sweep : Sweep) → takes implication sweep ≡ true → takes disjunction sweep ≡ true
takes_disjunction sweeps.Row e = refl
takes_disjunction sweep e = absurd (false≢true e)

pub takes_implication : (sweep : Sweep) → takes formula sweep ≡ true → takes implication sweep ≡ true
takes_implication sweeps.Row e = refl
takes_implication sweep e = absurd (false≢true e)

-- ## Reading an operator off the stack

-- what a sweep aims at
abbrev pub aim_of : Sweep → Phrase
aim_of sweeps.Prefixes = unary
aim_of (sweeps.Before outer) = left outer
aim_of sweeps.Row = formula

abbrev pub is_within : Phrase → Phrase → Bool
is_within unary aim = true
is_within conjunction unary = false
is_within conjunction aim = true
is_within disjunction unary = false
is_within disjunction conjunction = false
is_within disjunction aim = true
is_within implication formula = true
is_within implication implication = true
is_within formula formula = true
is_within phrase aim = false

pub within_right : (p : Phrase) (o : Infix) → under p (Some (forms.Infix o)) ≡ true → is_within p (right o) ≡ true
within_right unary o e = refl
within_right conjunction infixes.Or e = refl
within_right conjunction infixes.Implies e = refl
within_right conjunction infixes.Iff e = refl
within_right disjunction infixes.Implies e = refl
within_right disjunction infixes.Iff e = refl
within_right implication infixes.Implies e = refl
within_right p o e = absurd (false≢true e)

-- an operator that is taken makes what the sweep aims at, or a part of it
pub taken_within : (sweep : Sweep) (o : Infix) (op : Op) → taken sweep (forms.Infix o) ≡ Some op →
    is_within (makes o) (aim_of sweep) ≡ true
taken_within sweeps.Prefixes o op e = absurd (none-some op e)
taken_within sweeps.Row infixes.And op e = refl
taken_within sweeps.Row infixes.Or op e = refl
taken_within sweeps.Row infixes.Implies op e = refl
taken_within sweeps.Row o op e = refl
taken_within (sweeps.Before infixes.And) infixes.And op e = refl
taken_within (sweeps.Before infixes.Or) infixes.And op e = refl
taken_within (sweeps.Before infixes.Or) infixes.Or op e = refl
taken_within (sweeps.Before infixes.Implies) infixes.And op e = refl
taken_within (sweeps.Before infixes.Implies) infixes.Or op e = refl
taken_within (sweeps.Before infixes.Iff) infixes.And op e = refl
taken_within (sweeps.Before infixes.Iff) infixes.Or op e = refl
taken_within (sweeps.Before outer) o op e = absurd (none-some op e)

pub taken_itself : (sweep : Sweep) (o : Infix) (op : Op) → taken sweep (forms.Infix o) ≡ Some op → ops.Infix o ≡ op
taken_itself sweeps.Prefixes o op e = absurd (none-some op e)
taken_itself sweeps.Row o op e = cc
taken_itself (sweeps.Before outer) o op e = by (binds outer o) e
  where
    by : (b : Bool) → cond b (Some (ops.Infix o)) None ≡ Some op → ops.Infix o ≡ op
    by true h = cc
    by false h = absurd (none-some op h)

pub under_made : (o : Infix) (top : Option Form) → may_follow o top ≡ true → under (makes o) top ≡ true
under_made infixes.And top e = e
under_made infixes.Or top e = e
under_made infixes.Implies top e = e
under_made infixes.Iff top e = e
under_made operator None e = refl
under_made operator (Some forms.Paren) e = refl
under_made operator (Some form) e = absurd (false≢true e)

pub under_no_prefix : (p : Phrase) (q : Prefix) → under p (Some (forms.Prefix q)) ≡ true → ⊥
under_no_prefix unary q e = false≢true e
under_no_prefix conjunction q e = false≢true e
under_no_prefix disjunction q e = false≢true e
under_no_prefix implication q e = false≢true e
under_no_prefix formula q e = false≢true e

-- ## Derivations that are nested at most so deep

module _ (names : List Name) (limit : ℕ) where
  pub record Bounded (phrase : Phrase) (ts : List Token) (f : Formula) (outside : ℕ) : Type 0 where
    pub derives : Derives names phrase ts f
    pub deep : outside + nesting derives ≤ limit

  to_conjunction : {ts : List Token} {f : Formula} {n : ℕ} → Bounded unary ts f n → Bounded conjunction ts f n
  to_conjunction b = record { derives = unary_alone b.derives; deep = b.deep }

  to_disjunction : {ts : List Token} {f : Formula} {n : ℕ} → Bounded conjunction ts f n → Bounded disjunction ts f n
  to_disjunction b = record { derives = conjunction_alone b.derives; deep = b.deep }

  to_implication : {ts : List Token} {f : Formula} {n : ℕ} → Bounded disjunction ts f n → Bounded implication ts f n
  to_implication b = record { derives = disjunction_alone b.derives; deep = b.deep }

  to_formula : {ts : List Token} {f : Formula} {n : ℕ} → Bounded implication ts f n → Bounded formula ts f n
  to_formula b = record { derives = implication_alone b.derives; deep = b.deep }

  pub raised : (p aim : Phrase) (ts : List Token) (f : Formula) (n : ℕ) → is_within p aim ≡ true →
      Bounded p ts f n → Bounded aim ts f n
  raised unary unary ts f n e b = b
  raised unary conjunction ts f n e b = to_conjunction b
  raised unary disjunction ts f n e b = to_disjunction (to_conjunction b)
  raised unary implication ts f n e b = to_implication (to_disjunction (to_conjunction b))
  raised unary formula ts f n e b = to_formula (to_implication (to_disjunction (to_conjunction b)))
  raised conjunction conjunction ts f n e b = b
  raised conjunction disjunction ts f n e b = to_disjunction b
  raised conjunction implication ts f n e b = to_implication (to_disjunction b)
  raised conjunction formula ts f n e b = to_formula (to_implication (to_disjunction b))
  raised disjunction disjunction ts f n e b = b
  raised disjunction implication ts f n e b = to_implication b
  raised disjunction formula ts f n e b = to_formula (to_implication b)
  raised implication implication ts f n e b = b
  raised implication formula ts f n e b = to_formula b
  raised formula formula ts f n e b = b
  raised p aim ts f n e b = absurd (false≢true e)

  both_deep : (n a b : ℕ) → n + a ≤ limit → n + b ≤ limit → n + max a b ≤ limit
  both_deep n a b h k = omega arith

  -- the production of an operator
  pub joins : (o : Infix) (t : Token) (ts us : List Token) (f g : Formula) (n : ℕ) → Bounded (left o) ts f n →
      t.sign ≡ signs.Infix o → Bounded (right o) us g n → Bounded (makes o) (ts ++ t ∷ us) (joined o f g) n
  joins infixes.And t ts us f g n a e b = record {
    derives = with_and a.derives t e b.derives;
    deep = both_deep n (nesting a.derives) (nesting b.derives) a.deep b.deep;
  }
  joins infixes.Or t ts us f g n a e b = record {
    derives = with_or a.derives t e b.derives;
    deep = both_deep n (nesting a.derives) (nesting b.derives) a.deep b.deep;
  }
  joins infixes.Implies t ts us f g n a e b = record {
    derives = with_implies a.derives t e b.derives;
    deep = both_deep n (nesting a.derives) (nesting b.derives) a.deep b.deep;
  }
  joins infixes.Iff t ts us f g n a e b = record {
    derives = with_iff a.derives t e b.derives;
    deep = both_deep n (nesting a.derives) (nesting b.derives) a.deep b.deep;
  }
  joins infixes.Until t ts us f g n a e b = record {
    derives = with_temporal refl a.derives t e b.derives;
    deep = both_deep n (nesting a.derives) (nesting b.derives) a.deep b.deep;
  }
  joins infixes.Release t ts us f g n a e b = record {
    derives = with_temporal refl a.derives t e b.derives;
    deep = both_deep n (nesting a.derives) (nesting b.derives) a.deep b.deep;
  }
  joins infixes.WeakUntil t ts us f g n a e b = record {
    derives = with_temporal refl a.derives t e b.derives;
    deep = both_deep n (nesting a.derives) (nesting b.derives) a.deep b.deep;
  }
