-- The machine that reads formulas, with trees in place of the list of operands and operators, and with any limits.
-- - `Spot`: where the machine stands: before an operand or behind one
-- - `swept sweep frames trees`: the operators whose operands are complete go from the stack into the trees
-- - `next`, `walk`: after a token, after tokens; `None` at the first that is refused
use Rattle.std.proofs.Common.{◌≡◌, ℕ, ◌+◌, ◌<◌, Bool, true, false, cond, List, [], ◌∷◌, ◌++◌, None, Some, refl, ap}
use Rattle.std.proofs.Common.{◌∙◌, sym, arith}
use Rattle.std.specs.Prelude.{Option, nat_le}
use Rattle.std.specs.Option.{option_and_then}
use Rattle.std.proofs.lemmas.Bool.Decides.{nat_tests}
use Rattle.std.proofs.lemmas.List.Sums.{sum_by-append}
use Rattle.ps_formula.specs.Formulas.{Formula, constant, proposition}
use Rattle.ps_tlsf.specs.Grammar.{is_counted, used_by}
use Rattle.ps_tlsf.specs.Lexicon.{Token}
use Rattle.ps_tlsf.specs.Machines.{depth_of, is_paren, may_follow, tail_of, taken, taken_top, top_form}
use Rattle.ps_tlsf.specs.Names.{Name, number_of}
use Rattle.ps_tlsf.specs.Trees.{applied}
use Rattle.ps_tlsf.specs.Words.{is_word}
use Rattle.ps_tlsf.specs.declared.stack.Form.{Form}
use Rattle.ps_tlsf.specs.declared.stack.Form.TheVariants as forms
use Rattle.ps_tlsf.specs.declared.stack.Frame.{Frame}
use Rattle.ps_tlsf.specs.declared.stack.Op.{Op}
use Rattle.ps_tlsf.specs.declared.stack.Sweep.{Sweep}
use Rattle.ps_tlsf.specs.declared.stack.Sweep.TheVariants as sweeps
use Rattle.ps_tlsf.specs.declared.words.Infix.{Infix}
use Rattle.ps_tlsf.specs.declared.words.Sign.{Sign}
use Rattle.ps_tlsf.specs.declared.words.Sign.TheVariants as signs

-- the greatest number of operators and operands, and the greatest nesting
pub record Limits : Type 0 where
  pub used : ℕ
  pub depth : ℕ

pub record Swept : Type 0 where
  pub frames : List Frame
  pub trees : List Formula

unfoldable pub swept : Sweep → List Frame → List Formula → Swept
swept sweep [] trees = record { frames = []; trees = trees }
swept sweep (frame ∷ frames) trees =
    elim (taken sweep frame.form) [
      | None ↦ record { frames = frame ∷ frames; trees = trees }
      | Some op ↦ swept sweep frames (applied op trees)
    ]

pub sweeps_one : (sweep : Sweep) (frame : Frame) (frames : List Frame) (trees : List Formula) (op : Op) →
    taken sweep frame.form ≡ Some op → swept sweep (frame ∷ frames) trees ≡ swept sweep frames (applied op trees)
unfolding swept
sweeps_one sweep frame frames trees op e = rw (e, swept) refl

pub sweeps_no_more : (sweep : Sweep) (frames : List Frame) (trees : List Formula) → taken_top sweep frames ≡ None →
    swept sweep frames trees ≡ record { frames = frames; trees = trees }
unfolding swept
sweeps_no_more sweep [] trees e = refl
sweeps_no_more sweep (frame ∷ frames) trees e = rw (e, swept) refl

-- ## The machine

pub record Spot : Type 0 where
  pub frames : List Frame
  pub trees : List Formula
  pub used : ℕ
  pub is_behind : Bool

abbrev pub before_operand : List Frame → List Formula → ℕ → Spot
before_operand frames trees used = record { frames = frames; trees = trees; used = used; is_behind = false }

abbrev pub behind_operand : Swept → ℕ → Spot
behind_operand w used = record { frames = w.frames; trees = w.trees; used = used; is_behind = true }

abbrev pub frame_in : Form → List Frame → Frame
frame_in form frames = record { form = form; depth = depth_of frames + 1 }

abbrev pub frame_with : Infix → List Frame → Frame
frame_with operator frames = record { form = forms.Infix operator; depth = depth_of frames }

module _ (l : Limits) where
  abbrev pub counts : Spot → Option Spot
  counts s = cond (nat_le l.used s.used) None (Some (record s { used = s.used + 1 }))

  abbrev pub nests : Form → Spot → Option Spot
  nests form s =
      cond (nat_le l.depth (depth_of s.frames)) None (Some (record s { frames = frame_in form s.frames ∷ s.frames }))

  abbrev pub leaf : Formula → Spot → Option Spot
  leaf f s =
      option_and_then (λ (v : Spot). Some (behind_operand (swept sweeps.Prefixes v.frames (f ∷ v.trees)) v.used))
      (counts s)

  abbrev pub named : Option ℕ → Spot → Option Spot
  named None s = None
  named (Some number) s = leaf (proposition number) s

  abbrev pub operand_next : List Name → Spot → Token → Sign → Option Spot
  operand_next names s t (signs.Prefix prefix) =
      option_and_then (λ (v : Spot). nests (forms.Prefix prefix) v) (counts s)
  operand_next names s t signs.LeftParen = nests forms.Paren s
  operand_next names s t (signs.Constant value) = leaf (constant value) s
  operand_next names s t (signs.Infix operator) = None
  operand_next names s t sign = cond (is_word sign) (named (number_of names t.text) s) None

  abbrev pub begins : Infix → Swept → Spot → Spot
  begins operator w s = before_operand (frame_with operator w.frames ∷ w.frames) w.trees s.used

  abbrev pub infix_next : Infix → Spot → Swept → Option Spot
  infix_next operator s w =
      cond (may_follow operator (top_form w.frames))
      (option_and_then (λ (v : Spot). Some (begins operator w v)) (counts s)) None

  abbrev pub paren_next : Spot → Swept → Option Spot
  paren_next s w = cond (is_paren (top_form w.frames))
      (Some (behind_operand (swept sweeps.Prefixes (tail_of w.frames) w.trees) s.used)) None

  abbrev pub behind_next : Spot → Sign → Option Spot
  behind_next s (signs.Infix operator) = infix_next operator s (swept (sweeps.Before operator) s.frames s.trees)
  behind_next s signs.RightParen = paren_next s (swept sweeps.Row s.frames s.trees)
  behind_next s sign = None

  abbrev pub next : List Name → Spot → Token → Option Spot
  next names s t = cond s.is_behind (behind_next s t.sign) (operand_next names s t t.sign)

  unfoldable pub walk : List Name → Spot → List Token → Option Spot
  walk names s [] = Some s
  walk names s (t ∷ ts) = option_and_then (λ (v : Spot). walk names v ts) (next names s t)

  pub walk_nothing : (names : List Name) (s : Spot) → walk names s [] ≡ Some s
  unfolding walk
  walk_nothing names s = refl

  pub walk_is : (names : List Name) (s : Spot) (t : Token) (ts : List Token) →
      walk names s (t ∷ ts) ≡ option_and_then (λ (v : Spot). walk names v ts) (next names s t)
  unfolding walk
  walk_is names s t ts = refl

  pub walks : (names : List Name) (s v : Spot) (t : Token) (ts : List Token) → next names s t ≡ Some v →
      walk names s (t ∷ ts) ≡ walk names v ts
  walks names s v t ts e =
      walk_is names s t ts ∙ ap (λ (o : Option Spot). option_and_then (λ (x : Spot). walk names x ts) o) e

  pub walk-append : (names : List Name) (s : Spot) (ts us : List Token) →
      walk names s (ts ++ us) ≡ option_and_then (λ (v : Spot). walk names v us) (walk names s ts)
  walk-append names s [] us = ap (λ (o : Option Spot). option_and_then (λ (v : Spot). walk names v us) o)
      (sym (walk_nothing names s))
  walk-append names s (t ∷ ts) us = walk_is names s t (ts ++ us)
      ∙ by (next names s t) (λ (v : Spot). walk-append names v ts us)
      ∙ ap (λ (o : Option Spot). option_and_then (λ (v : Spot). walk names v us) o) (sym (walk_is names s t ts))
    where
      by : (o : Option Spot) → ((v : Spot) → walk names v (ts ++ us) ≡
          option_and_then (λ (x : Spot). walk names x us) (walk names v ts)) →
          option_and_then (λ (v : Spot). walk names v (ts ++ us)) o ≡
          option_and_then (λ (v : Spot). walk names v us) (option_and_then (λ (v : Spot). walk names v ts) o)
      by None go = refl
      by (Some v) go = go v

  pub walk_then : (names : List Name) (s v : Spot) (ts us : List Token) → walk names s ts ≡ Some v →
      walk names s (ts ++ us) ≡ walk names v us
  walk_then names s v ts us e =
      walk-append names s ts us ∙ ap (λ (o : Option Spot). option_and_then (λ (x : Spot). walk names x us) o) e

-- ## Limits

pub below_limit : (limit n : ℕ) → n < limit → nat_le limit n ≡ false
below_limit limit n h = grind (arith, nat_tests)

pub used-append : (ts us : List Token) → used_by (ts ++ us) ≡ used_by ts + used_by us
used-append ts us = sum_by-append (λ (t : Token). cond (is_counted t.sign) 1 0) ts us

counted_one : (t : Token) → is_counted t.sign ≡ true → used_by (t ∷ []) ≡ 1
counted_one t e = rw e refl

passed_one : (t : Token) → is_counted t.sign ≡ false → used_by (t ∷ []) ≡ 0
passed_one t e = rw e refl

pub used-counted : (t : Token) (ts : List Token) → is_counted t.sign ≡ true → used_by (t ∷ ts) ≡ used_by ts + 1
used-counted t ts e = used-append (t ∷ []) ts ∙ omega (arith, counted_one t e)

pub used-passed : (t : Token) (ts : List Token) → is_counted t.sign ≡ false → used_by (t ∷ ts) ≡ used_by ts
used-passed t ts e = used-append (t ∷ []) ts ∙ omega (arith, passed_one t e)
