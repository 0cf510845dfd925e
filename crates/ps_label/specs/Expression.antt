-- A label as a Boolean expression, independent of the layout of the label in memory.
use Rattle.std.specs.Prelude.{ℕ, ◌+◌, ◌/◌, ◌%◌, ◌<◌, Bool, true, false, List, [], ◌∷◌, map, nat_eq}
use Rattle.ps_label.specs.declared.label.Label.{Label, Truth, Atom, Negated, Named, Literals, Neg', Both', Either'}
use Rattle.ps_label.specs.declared.label.Label.{Row_of-Label}
use Rattle.ps_label.specs.declared.label.Label.{end_of-Label, more_of-Label}

mutual
  pub data Expression : Type 0 where
    constant : Bool → Expression
    proposition : ℕ → Expression
    alias : ℕ → Expression
    not_of : Expression → Expression
    all_of : Operands → Expression
    any_of : Operands → Expression

  pub data Operands : Type 0 where
    last : Operands
    more : Expression → Operands → Operands

-- a list of expressions as the operands of a conjunction or disjunction
abbrev pub operands_in : List Expression → Operands
operands_in [] = last
operands_in (e ∷ es) = more e (operands_in es)

-- the expression of a literal; a literal is given by its number, twice the proposition, plus 1 if it is negated
abbrev pub signed : (negated : Bool) → ℕ → Expression
signed true p = not_of (proposition p)
signed false p = proposition p

abbrev pub literal_expression : ℕ → Expression
literal_expression code = signed (nat_eq (code % 2) 1) (code / 2)

abbrev pub literal_expressions : List ℕ → List Expression
literal_expressions codes = map literal_expression codes

-- a label is a literal if it is `Atom` or `Negated` of a proposition less than 64; a `Neg` is none, whatever it negates
abbrev pub IsLiteral : Label → Type 0
IsLiteral (Atom p) = p < 64
IsLiteral (Negated p) = p < 64
IsLiteral _ = ⊥

-- a label is plain if neither `Negated` nor `Literals` occurs in it
abbrev mutual
  pub IsPlainLabel : Label → Type 0
  IsPlainLabel (Truth b) = Unit {0}
  IsPlainLabel (Atom p) = Unit {0}
  IsPlainLabel (Negated p) = ⊥
  IsPlainLabel (Named k) = Unit {0}
  IsPlainLabel (Literals codes) = ⊥
  IsPlainLabel (Neg' at l) = IsPlainLabel l
  IsPlainLabel (Both' shape row) = ArePlainLabels row
  IsPlainLabel (Either' shape row) = ArePlainLabels row

  pub ArePlainLabels : {m : _} → Row_of-Label m → Type 0
  ArePlainLabels end_of-Label = Unit {0}
  ArePlainLabels (more_of-Label l row) = IsPlainLabel l × ArePlainLabels row

-- the expression of a label
abbrev mutual
  pub expression : Label → Expression
  expression (Truth b) = constant b
  expression (Atom p) = proposition p
  expression (Negated p) = not_of (proposition p)
  expression (Named k) = alias k
  expression (Literals codes) = all_of (operands_in (literal_expressions codes))
  expression (Neg' at l) = not_of (expression l)
  expression (Both' shape row) = all_of (operands row)
  expression (Either' shape row) = any_of (operands row)

  pub operands : {m : _} → Row_of-Label m → Operands
  operands end_of-Label = last
  operands (more_of-Label l row) = more (expression l) (operands row)

abbrev pub list_of : Operands → List Expression
list_of last = []
list_of (more e es) = e ∷ list_of es

-- an expression uses only aliases less than `aliases` and propositions less than `propositions`
abbrev mutual
  pub IsOver : (aliases propositions : ℕ) → Expression → Type 0
  IsOver aliases propositions (constant b) = Unit {0}
  IsOver aliases propositions (proposition p) = p < propositions
  IsOver aliases propositions (alias k) = k < aliases
  IsOver aliases propositions (not_of e) = IsOver aliases propositions e
  IsOver aliases propositions (all_of es) = AreOver aliases propositions es
  IsOver aliases propositions (any_of es) = AreOver aliases propositions es

  pub AreOver : (aliases propositions : ℕ) → Operands → Type 0
  AreOver aliases propositions last = Unit {0}
  AreOver aliases propositions (more e es) = IsOver aliases propositions e × AreOver aliases propositions es

-- each alias in the list uses only earlier aliases and propositions less than `propositions`; the first alias of the
-- list has the number `number`
abbrev pub AreOverFrom : (number propositions : ℕ) → List Expression → Type 0
AreOverFrom number propositions [] = Unit {0}
AreOverFrom number propositions (e ∷ es) =
    IsOver number propositions e × AreOverFrom (number + 1) propositions es

-- the aliases of a text: each uses only earlier aliases, and propositions less than 64
abbrev pub AreOrdered : List Expression → Type 0
AreOrdered es = AreOverFrom 0 64 es
