-- Label expressions:
--     label ::= BOOLEAN | INT | ANAME | "!" label | "(" label ")" | label "&" label | label "|" label
--
-- `!` binds tightest, then `&`, then `|`. Operands that are joined by `&` form one conjunction, and operands that are
-- joined by `|` form one disjunction. An expression in parentheses is a single operand.
-- - `label scope room`: a label in which `!` and `(` may be nested to the depth `room`
-- - `operand scope room`: what is allowed on either side of `&`
use Rattle.std.specs.Prelude.{ℕ, ◌≡◌, ◌≤◌, ◌<◌, ◌⊎◌, Bool, true, false, List, codes, if◌then◌else◌, Option}
use Rattle.std.specs.Prelude.{None, Some, position}
use Rattle.std.specs.Str.{bytes_eq}
use Rattle.ps_label.specs.Expression.{Expression, constant, proposition, alias, not_of, all_of, any_of, operands_in}
use Rattle.ps_text.specs.Digits.{decimal_value}
use Rattle.ps_text.specs.Parts.{Part, one}
use Rattle.ps_hoa.specs.Grammar.Operands.{InfixGrammar, operand as operand_of, rows, number_limit}
use Rattle.ps_hoa.specs.Tokens.{Sign}
use Rattle.ps_hoa.specs.declared.infix.Connective.{Connective}
use Rattle.ps_hoa.specs.declared.infix.Connective.TheVariants as connectives
use Rattle.ps_hoa.specs.declared.fault.HoaCause.{HoaCause}
use Rattle.ps_hoa.specs.declared.fault.HoaCause.TheVariants as causes
use Rattle.ps_hoa.specs.declared.tokens.Kind.{Kind}
use Rattle.ps_hoa.specs.declared.tokens.Kind.TheVariants as kinds

-- The context of a label: the earlier aliases in order, and the number of propositions if it is known. The label of an
-- alias is parsed without the number of propositions, since `AP:` may come after `Alias:`.
pub record ScopeData : Type 0 where
  pub names : List (List ℕ)
  pub propositions : Option ℕ

abbrev pub boolean_in : List ℕ → Option Bool
boolean_in text =
    if bytes_eq text (codes "t") then Some true else (if bytes_eq text (codes "f") then Some false else None)

abbrev pub constant_in : Option Bool → Option Expression
constant_in None = None
constant_in (Some b) = Some (constant b)

-- the number of the alias with the given name
abbrev pub alias_number : List (List ℕ) → List ℕ → Option ℕ
alias_number names text = position (λ name. bytes_eq name text) names

abbrev pub alias_in : Option ℕ → Option Expression
alias_in None = None
alias_in (Some k) = Some (alias k)

-- an operand that consists of a single token
abbrev pub leaf_value : List (List ℕ) → Kind → List ℕ → Option Expression
leaf_value names kinds.Word text = constant_in (boolean_in text)
leaf_value names kinds.Int text = Some (proposition (decimal_value text))
leaf_value names kinds.AliasName text = alias_in (alias_number names text)
leaf_value names kind text = None

abbrev pub leaf_in : List (List ℕ) → Sign → Option Expression
leaf_in names sign = leaf_value names sign.kind sign.text

abbrev pub IsBeyond : Option ℕ → ℕ → Type 0
IsBeyond None n = ⊥
IsBeyond (Some count) n = count ≤ n

-- an error in an operand that is a single token: an `INT` that exceeds the limit on numbers or is not a proposition, or
-- an unknown alias
abbrev pub IsBadLeaf : ScopeData → Kind → List ℕ → HoaCause → Type 0
IsBadLeaf scope kinds.Int text f =
    ((number_limit < decimal_value text) × (f ≡ causes.Limit)) ⊎
    (IsBeyond scope.propositions (decimal_value text) × (f ≡ causes.Range))
IsBadLeaf scope kinds.AliasName text f = (alias_number scope.names text ≡ None) × (f ≡ causes.Alias)
IsBadLeaf scope kind text f = ⊥

abbrev pub BadLeaf : ScopeData → Sign → HoaCause → Type 0
BadLeaf scope sign f = IsBadLeaf scope sign.kind sign.text f

abbrev pub leaf : ScopeData → Part Sign Expression HoaCause
leaf scope = one (leaf_in scope.names) (BadLeaf scope)

-- the expression that operands form when a connective joins them
abbrev pub together : Connective → List Expression → Expression
together connectives.And es = all_of (operands_in es)
together connectives.Or es = any_of (operands_in es)

-- an operand is a single token, follows `!`, or is in parentheses
abbrev pub grammar : ScopeData → InfixGrammar Expression
grammar scope = record { leaf = leaf scope; negated = Some not_of; together = together }

abbrev pub operand : ScopeData → ℕ → Part Sign Expression HoaCause
operand scope = operand_of (grammar scope)

abbrev pub label : ScopeData → ℕ → Part Sign Expression HoaCause
label scope room = rows together connectives.Or (operand scope room)
