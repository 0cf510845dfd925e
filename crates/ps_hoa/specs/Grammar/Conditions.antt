-- Acceptance conditions:
--     cond ::= BOOLEAN | ("Inf" | "Fin") "(" "!"? INT ")" | "(" cond ")" | cond "&" cond | cond "|" cond
--
-- `&` binds tighter than `|`. Operands that are joined by `&` form one conjunction, and operands that are joined by `|`
-- form one disjunction. A condition in parentheses is a single operand.
-- - `condition room`: a condition with `(` nested at most `room` deep, not counting `Inf(` and `Fin(`
use Rattle.std.specs.Prelude.{ℕ, ◌≡◌, ◌<◌, Bool, true, false, List, [], ◌∷◌, codes, if◌then◌else◌, Option}
use Rattle.std.specs.Prelude.{None, Some}
use Rattle.std.specs.Str.{bytes_eq}
use Rattle.ps_text.specs.Digits.{decimal_value}
use Rattle.ps_text.specs.Parts.{Part, NoBad, one, then_by, either}
use Rattle.ps_hoa.specs.Grammar.Labels.{boolean_in}
use Rattle.ps_hoa.specs.Grammar.Operands.{InfixGrammar, is_not, is_left, expect, rows, closed, operand as operand_of}
use Rattle.ps_hoa.specs.Grammar.Operands.{number_limit}
use Rattle.ps_hoa.specs.Tokens.{Sign}
use Rattle.ps_hoa.specs.declared.infix.Connective.{Connective}
use Rattle.ps_hoa.specs.declared.infix.Connective.TheVariants as connectives
use Rattle.ps_hoa.specs.declared.fault.HoaCause.{HoaCause}
use Rattle.ps_hoa.specs.declared.fault.HoaCause.TheVariants as causes
use Rattle.ps_hoa.specs.declared.tokens.Kind.{Kind}
use Rattle.ps_hoa.specs.declared.tokens.Kind.TheVariants as kinds

-- the set with the given number, or its complement if the flag is true
pub record SetData : Type 0 where
  pub number : ℕ
  pub complemented : Bool

-- An acceptance condition is a Boolean combination of statements that a set is visited infinitely often, or only
-- finitely often.
mutual
  pub data Condition : Type 0 where
    constant : Bool → Condition
    infinitely : SetData → Condition
    finitely : SetData → Condition
    all_hold : Conditions → Condition
    any_holds : Conditions → Condition

  pub data Conditions : Type 0 where
    last : Conditions
    more : Condition → Conditions → Conditions

abbrev pub operands_in : List Condition → Conditions
operands_in [] = last
operands_in (c ∷ cs) = more c (operands_in cs)

abbrev pub constant_of : Option Bool → Option Condition
constant_of None = None
constant_of (Some b) = Some (constant b)

-- `t` or `f`
abbrev pub constant_value : Kind → List ℕ → Option Condition
constant_value kinds.Word text = constant_of (boolean_in text)
constant_value kind text = None

abbrev pub constant_in : Sign → Option Condition
constant_in sign = constant_value sign.kind sign.text

-- `true` for `Inf`, `false` for `Fin`
abbrev pub often_value : Kind → List ℕ → Option Bool
often_value kinds.Word text =
    if bytes_eq text (codes "Inf") then Some true else (if bytes_eq text (codes "Fin") then Some false else None)
often_value kind text = None

abbrev pub often_in : Sign → Option Bool
often_in sign = often_value sign.kind sign.text

abbrev pub visits : Bool → SetData → Condition
visits true set = infinitely set
visits false set = finitely set

abbrev pub set_value : Bool → Kind → List ℕ → Option SetData
set_value complemented kinds.Int text = Some (record { number = decimal_value text; complemented = complemented })
set_value complemented kind text = None

abbrev pub set_in : Bool → Sign → Option SetData
set_in complemented sign = set_value complemented sign.kind sign.text

-- an `INT` that exceeds the limit on numbers
abbrev pub IsTooLargeSet : Kind → List ℕ → HoaCause → Type 0
IsTooLargeSet kinds.Int text f = (number_limit < decimal_value text) × (f ≡ causes.Limit)
IsTooLargeSet kind text f = ⊥

abbrev pub BadSet : Sign → HoaCause → Type 0
BadSet sign f = IsTooLargeSet sign.kind sign.text f

abbrev pub set : Bool → Part Sign SetData HoaCause
set complemented = one (set_in complemented) BadSet

abbrev pub any_set : Part Sign SetData HoaCause
any_set = either (then_by (expect is_not) (λ _. set true)) (set false)

abbrev pub closed_set : Bool → SetData → Part Sign Condition HoaCause
closed_set often s = closed (visits often s)

abbrev pub often_or_not : Part Sign Bool HoaCause
often_or_not = one often_in NoBad

abbrev pub visit : Part Sign Condition HoaCause
visit = then_by often_or_not (λ often. then_by (expect is_left) (λ _. then_by any_set (closed_set often)))

abbrev pub atom : Part Sign Condition HoaCause
atom = either (one constant_in NoBad) visit

-- the condition that operands form when a connective joins them
abbrev pub together : Connective → List Condition → Condition
together connectives.And cs = all_hold (operands_in cs)
together connectives.Or cs = any_holds (operands_in cs)

-- an operand is an atom or is in parentheses; `!` never comes before an operand
abbrev pub grammar : InfixGrammar Condition
grammar = record { leaf = atom; negated = None; together = together }

abbrev pub operand : ℕ → Part Sign Condition HoaCause
operand = operand_of grammar

abbrev pub condition : ℕ → Part Sign Condition HoaCause
condition room = rows together connectives.Or (operand room)
