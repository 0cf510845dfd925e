-- The formula that operands and operators form, each operator behind its operands.
-- - `prefixed operator f`, `joined operator f g`: the formula of an operator and its operands
-- - `value_of ops`: the formula of a list of operands and operators
use Rattle.std.specs.Prelude.{true, List, [], ◌∷◌, if◌then◌else◌, nat_lt}
use Rattle.ps_formula.specs.Formulas.{Formula, constant, proposition, not_of, and_of, or_of, implies, iff, next, until}
use Rattle.ps_formula.specs.Formulas.{release, weak_until, finally, globally}
use Rattle.ps_tlsf.specs.declared.words.Prefix.{Prefix}
use Rattle.ps_tlsf.specs.declared.words.Prefix.TheVariants as prefixes
use Rattle.ps_tlsf.specs.declared.words.Infix.{Infix}
use Rattle.ps_tlsf.specs.declared.words.Infix.TheVariants as infixes
use Rattle.ps_tlsf.specs.declared.stack.Op.{Op}
use Rattle.ps_tlsf.specs.declared.stack.Op.TheVariants as ops

abbrev pub prefixed : Prefix → Formula → Formula
prefixed prefixes.Not f = not_of f
prefixed prefixes.Next f = next f
prefixed prefixes.Finally f = finally f
prefixed prefixes.Globally f = globally f

abbrev pub joined : Infix → Formula → Formula → Formula
joined infixes.And f g = and_of f g
joined infixes.Or f g = or_of f g
joined infixes.Implies f g = implies f g
joined infixes.Iff f g = iff f g
joined infixes.Until f g = until f g
joined infixes.Release f g = release f g
joined infixes.WeakUntil f g = weak_until f g

-- An operand or operator is applied to a list of formulas, the last first. An operator without its operands, and
-- a proposition that is not less than 64, change nothing; no text leads to them.
abbrev pub applied : Op → List Formula → List Formula
applied (ops.Constant value) formulas = constant value ∷ formulas
applied (ops.Proposition number) formulas = if nat_lt number 64 then proposition number ∷ formulas else formulas
applied (ops.Prefix operator) [] = []
applied (ops.Prefix operator) (f ∷ formulas) = prefixed operator f ∷ formulas
applied (ops.Infix operator) [] = []
applied (ops.Infix operator) (f ∷ []) = f ∷ []
applied (ops.Infix operator) (g ∷ f ∷ formulas) = joined operator f g ∷ formulas

abbrev pub built : List Formula → List Op → List Formula
built formulas [] = formulas
built formulas (op ∷ list) = built (applied op formulas) list

abbrev pub last_of : List Formula → Formula
last_of [] = constant true
last_of (f ∷ formulas) = f

abbrev pub value_of : List Op → Formula
value_of list = last_of (built [] list)
