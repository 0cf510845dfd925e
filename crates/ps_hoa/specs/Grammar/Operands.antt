-- The common grammar of labels and acceptance conditions: single tokens, an operand in parentheses, rows of operands,
-- and operands that contain other operands.
-- - `expect test`: a single token whose kind passes the test
-- - `inner part`: the given part between parentheses
-- - `row sign join operand`: one or more operands, separated by tokens whose kind passes the test `sign`; a single
--   operand keeps its value
-- - `rows together connective operand`: operands with connectives between them; `&` binds tighter than `|`
-- - `operand g room`: an operand of this grammar, in which `!` and `(` may be nested to the depth `room`
use Rattle.std.specs.Prelude.{ℕ, ◌≡◌, zero, suc, Bool, true, false, List, [], ◌∷◌, ◌++◌, if◌then◌else◌, Option, None}
use Rattle.std.specs.Prelude.{Some, is_some}
use Rattle.ps_text.specs.Parts.{Part, NoBad, give, one, then_by, either, many, mapped, barred}
use Rattle.ps_hoa.specs.Tokens.{Sign}
use Rattle.ps_hoa.specs.declared.infix.Connective.{Connective}
use Rattle.ps_hoa.specs.declared.infix.Connective.TheVariants as connectives
use Rattle.ps_hoa.specs.declared.fault.HoaCause.{HoaCause}
use Rattle.ps_hoa.specs.declared.fault.HoaCause.TheVariants as causes
use Rattle.ps_hoa.specs.declared.tokens.Kind.{Kind}
use Rattle.ps_hoa.specs.declared.tokens.Kind.TheVariants as kinds

abbrev pub is_not : Kind → Bool
is_not kinds.Not = true
is_not kind = false

abbrev pub is_and : Kind → Bool
is_and kinds.And = true
is_and kind = false

abbrev pub is_or : Kind → Bool
is_or kinds.Or = true
is_or kind = false

abbrev pub is_left : Kind → Bool
is_left kinds.LeftParen = true
is_left kind = false

abbrev pub is_right : Kind → Bool
is_right kinds.RightParen = true
is_right kind = false

abbrev pub expect_in : (Kind → Bool) → Sign → Option (Unit {0})
expect_in test sign = if test sign.kind then Some tt else None

abbrev pub expect : (Kind → Bool) → Part Sign (Unit {0}) HoaCause
expect test = one (expect_in test) NoBad

abbrev pub before : {V : Type 0} → V → Unit {0} → V
before v _ = v

abbrev pub closed : {V : Type 0} → V → Part Sign V HoaCause
closed v = mapped (before v) (expect is_right)

abbrev pub inner : {V : Type 0} → Part Sign V HoaCause → Part Sign V HoaCause
inner part = then_by (expect is_left) (λ _. then_by part (λ v. closed v))

abbrev pub single : {V : Type 0} → V → List V
single v = v ∷ []

abbrev pub with_last : {V : Type 0} → List V → V → List V
with_last vs v = vs ++ v ∷ []

-- a single operand keeps its own value
abbrev pub joined : {V : Type 0} → (List V → V) → List V → V
joined join (v ∷ []) = v
joined join vs = join vs

abbrev pub further : {V : Type 0} → (Kind → Bool) → Part Sign V HoaCause → List V → Part Sign (List V) HoaCause
further sign operand vs = then_by (expect sign) (λ _. mapped (with_last vs) operand)

abbrev pub operands : {V : Type 0} → (Kind → Bool) → Part Sign V HoaCause → Part Sign (List V) HoaCause
operands sign operand = then_by (mapped single operand) (λ vs. many (λ ws. further sign operand ws) vs)

abbrev pub row : {V : Type 0} → (Kind → Bool) → (List V → V) → Part Sign V HoaCause → Part Sign V HoaCause
row sign join operand = mapped (joined join) (operands sign operand)

-- ## Connectives

abbrev pub kind_of : Connective → Kind
kind_of connectives.And = kinds.And
kind_of connectives.Or = kinds.Or

abbrev pub is_sign_of : Connective → Kind → Bool
is_sign_of connectives.And = is_and
is_sign_of connectives.Or = is_or

-- what may be on either side of a connective: for `&` an operand, and for `|` a row of operands joined by `&`
abbrev pub between : {V : Type 0} → (Connective → List V → V) → Connective → Part Sign V HoaCause → Part Sign V HoaCause
between together connectives.And operand = operand
between together connectives.Or operand = row is_and (together connectives.And) operand

abbrev pub rows : {V : Type 0} → (Connective → List V → V) → Connective → Part Sign V HoaCause → Part Sign V HoaCause
rows together connective operand =
    row (is_sign_of connective) (together connective) (between together connective operand)

-- ## Operands

-- the part of the grammar that differs between labels and conditions
pub record InfixGrammar (V : Type 0) : Type 1 where
  -- an operand that does not begin with `!` or `(`
  pub leaf : Part Sign V HoaCause
  -- the value of an operand with `!` before it, if `!` is allowed there
  pub negated : Option (V → V)
  -- the value that operands have together when a connective joins them
  pub together : Connective → List V → V

-- a token of the given kind begins an operand that contains another operand
abbrev pub holds : {V : Type 0} → Option (V → V) → Kind → Bool
holds negated kinds.Not = is_some negated
holds negated kind = is_left kind

abbrev pub IsTooDeep : {V : Type 0} → Option (V → V) → Sign → HoaCause → Type 0
IsTooDeep negated sign f = (holds negated sign.kind ≡ true) × (f ≡ causes.Limit)

-- no operand that contains another operand is allowed here, since the nesting would be too deep
abbrev pub bar : {V : Type 0} → Option (V → V) → Part Sign (Unit {0}) HoaCause
bar negated = barred (give tt) (λ _. IsTooDeep negated)

abbrev pub negation : {V : Type 0} → (V → V) → Part Sign V HoaCause → Part Sign V HoaCause
negation negated operand = then_by (expect is_not) (λ _. mapped negated operand)

-- an operand that contains another operand: after `!`, if that is allowed, or in parentheses
abbrev pub holding : {V : Type 0} → Option (V → V) → Part Sign V HoaCause → Part Sign V HoaCause → Part Sign V HoaCause
holding None operand held = held
holding (Some negated) operand held = either (negation negated operand) held

unfoldable pub operand : {V : Type 0} → InfixGrammar V → ℕ → Part Sign V HoaCause
operand g zero = then_by (bar g.negated) (λ _. g.leaf)
operand g (suc room) =
    either g.leaf (holding g.negated (operand g room) (inner (rows g.together connectives.Or (operand g room))))

-- the greatest INT
abbrev pub number_limit : ℕ
number_limit = 4294967295

-- the greatest depth to which `!` and `(` may be nested
abbrev pub nesting_limit : ℕ
nesting_limit = 256
