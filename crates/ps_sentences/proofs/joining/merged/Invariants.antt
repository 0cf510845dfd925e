use Rattle.std.proofs.Common.{take}
use Rattle.ps_sentences.specs.Conjunctions.{IsConjunctionIn}
use Rattle.ps_sentences.proofs.joining.merged.Given as goal

abbrev pub invariant-loop-formula : goal.invariant-loop-formula
invariant-loop-formula l = IsConjunctionIn l.fn.table (take l.formula-index l.formulas) l.table l.all
