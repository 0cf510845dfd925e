-- The grammar of formulas:
--
--     formula     ::= implication | disjunction "<->" disjunction | unary ("U" | "R" | "W") unary
--     implication ::= disjunction | disjunction "->" implication
--     disjunction ::= conjunction | disjunction "||" conjunction
--     conjunction ::= unary | conjunction "&&" unary
--     unary       ::= "true" | "false" | NAME | ("!" | "X" | "F" | "G") unary | "(" formula ")"
--
-- So `&&` and `||` group to the left, `->` groups to the right, and no other mix of operators of two operands is a
-- formula without parentheses.
-- - `Derives names phrase tokens f`: the tokens are such a phrase, and `f` is its formula; `names` are declared
-- - `nesting d`: the greatest number of parentheses and of operators `! X F G` around a token
-- - `used_by tokens`: the number of operators and operands
use Rattle.std.specs.Prelude.{◌≡◌, ℕ, ◌+◌, Bool, true, false, List, [], ◌∷◌, ◌++◌, Some, count_by, max}
use Rattle.ps_formula.specs.Formulas.{Formula, constant, proposition, and_of, or_of, implies, iff}
use Rattle.ps_tlsf.specs.Lexicon.{Token}
use Rattle.ps_tlsf.specs.Names.{Name, number_of, is_reserved}
use Rattle.ps_tlsf.specs.Trees.{prefixed, joined}
use Rattle.ps_tlsf.specs.Words.{is_word}
use Rattle.ps_tlsf.specs.declared.words.Infix.{Infix}
use Rattle.ps_tlsf.specs.declared.words.Infix.TheVariants as infixes
use Rattle.ps_tlsf.specs.declared.words.Prefix.{Prefix}
use Rattle.ps_tlsf.specs.declared.words.Sign.{Sign}
use Rattle.ps_tlsf.specs.declared.words.Sign.TheVariants as signs

pub data Phrase : Type 0 where
  formula : Phrase
  implication : Phrase
  disjunction : Phrase
  conjunction : Phrase
  unary : Phrase

-- `U`, `R` and `W`
abbrev pub is_temporal : Infix → Bool
is_temporal infixes.Until = true
is_temporal infixes.Release = true
is_temporal infixes.WeakUntil = true
is_temporal operator = false

-- a constructor for each production
pub data Derives (names : List Name) : Phrase → List Token → Formula → Type 0 where
  constant_alone : {t : Token} {b : Bool} → t.sign ≡ signs.Constant b → Derives names unary (t ∷ []) (constant b)
  name_alone : {t : Token} {n : ℕ} → is_word t.sign ≡ true → is_reserved t.sign ≡ false →
      number_of names t.text ≡ Some n → Derives names unary (t ∷ []) (proposition n)
  behind_prefix : {t : Token} {p : Prefix} {ts : List Token} {f : Formula} → t.sign ≡ signs.Prefix p →
      Derives names unary ts f → Derives names unary (t ∷ ts) (prefixed p f)
  in_parentheses : (l r : Token) {ts : List Token} {f : Formula} → l.sign ≡ signs.LeftParen →
      r.sign ≡ signs.RightParen → Derives names formula ts f → Derives names unary (l ∷ ts ++ r ∷ []) f
  unary_alone : {ts : List Token} {f : Formula} → Derives names unary ts f → Derives names conjunction ts f
  with_and : {ts us : List Token} {f g : Formula} → Derives names conjunction ts f →
      (t : Token) → t.sign ≡ signs.Infix infixes.And → Derives names unary us g →
      Derives names conjunction (ts ++ t ∷ us) (and_of f g)
  conjunction_alone : {ts : List Token} {f : Formula} → Derives names conjunction ts f →
      Derives names disjunction ts f
  with_or : {ts us : List Token} {f g : Formula} → Derives names disjunction ts f →
      (t : Token) → t.sign ≡ signs.Infix infixes.Or → Derives names conjunction us g →
      Derives names disjunction (ts ++ t ∷ us) (or_of f g)
  disjunction_alone : {ts : List Token} {f : Formula} → Derives names disjunction ts f →
      Derives names implication ts f
  with_implies : {ts us : List Token} {f g : Formula} → Derives names disjunction ts f →
      (t : Token) → t.sign ≡ signs.Infix infixes.Implies → Derives names implication us g →
      Derives names implication (ts ++ t ∷ us) (implies f g)
  implication_alone : {ts : List Token} {f : Formula} → Derives names implication ts f → Derives names formula ts f
  with_iff : {ts us : List Token} {f g : Formula} → Derives names disjunction ts f →
      (t : Token) → t.sign ≡ signs.Infix infixes.Iff → Derives names disjunction us g →
      Derives names formula (ts ++ t ∷ us) (iff f g)
  with_temporal : {operator : Infix} {ts us : List Token} {f g : Formula} → is_temporal operator ≡ true →
      Derives names unary ts f → (t : Token) → t.sign ≡ signs.Infix operator → Derives names unary us g →
      Derives names formula (ts ++ t ∷ us) (joined operator f g)

-- ## What is limited

abbrev pub nesting : {names : List Name} {phrase : Phrase} {ts : List Token} {f : Formula} →
    Derives names phrase ts f → ℕ
nesting (constant_alone e) = 0
nesting (name_alone w r e) = 0
nesting (behind_prefix e d) = nesting d + 1
nesting (in_parentheses l r e h d) = nesting d + 1
nesting (unary_alone d) = nesting d
nesting (with_and d t e u) = max (nesting d) (nesting u)
nesting (conjunction_alone d) = nesting d
nesting (with_or d t e u) = max (nesting d) (nesting u)
nesting (disjunction_alone d) = nesting d
nesting (with_implies d t e u) = max (nesting d) (nesting u)
nesting (implication_alone d) = nesting d
nesting (with_iff d t e u) = max (nesting d) (nesting u)
nesting (with_temporal o d t e u) = max (nesting d) (nesting u)

abbrev pub is_counted : Sign → Bool
is_counted signs.LeftParen = false
is_counted signs.RightParen = false
is_counted sign = true

abbrev pub used_by : List Token → ℕ
used_by ts = count_by (λ t. is_counted t.sign) ts
