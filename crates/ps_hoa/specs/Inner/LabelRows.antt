-- The operands of a row of labels that is being parsed.
use Rattle.std.specs.Prelude.{List}
use Rattle.ps_label.specs.declared.label.Label.{Label, Literals as InPlace}
use Rattle.ps_label.specs.Expression.{Expression, literal_expressions}
use Rattle.ps_label.specs.Truth.{expressions}
use Rattle.ps_hoa.specs.declared.label.operands.Operands.{Operands}
use Rattle.ps_hoa.specs.declared.label.operands.Operands.TheVariants.{Labels, Literals}

abbrev pub operand_expressions : Operands → List Expression
operand_expressions (Literals codes) = literal_expressions codes
operand_expressions (Labels labels) = expressions labels.items

-- the row holds its operands as literals
abbrev pub HoldsLiterals : Operands → Type 0
HoldsLiterals (Literals codes) = Unit {0}
HoldsLiterals (Labels labels) = ⊥

-- the label is a conjunction that holds its operands as literals
abbrev pub IsOfLiterals : Label → Type 0
IsOfLiterals (InPlace codes) = Unit {0}
IsOfLiterals _ = ⊥
