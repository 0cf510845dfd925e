-- The formula that a sentence stands for, with the names of its propositions.
use Rattle.std.specs.Prelude.{map}
use Rattle.ps_hoa.specs.Memory.{bytes_of}
use Rattle.ps_formula.specs.Formulas.{formula_at}
use Rattle.ps_models.specs.Judgements.{NamedFormula}
use Rattle.ps_models.specs.declared.sentence.Sentence.{Sentence}

abbrev pub named_formula : Sentence → NamedFormula
named_formula s = record {
  names = map bytes_of s.names.now;
  controllable = s.controllable.now;
  formula = formula_at s.formulas.now s.root;
}
