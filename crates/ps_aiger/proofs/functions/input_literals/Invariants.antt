use Rattle.std.proofs.Common.{◌≡◌, ◌<◌, ℕ, Option, get_or, length}
use Rattle.ps_aiger.specs.Inner.Functions.{IsInputLiteral, behaviour_of}
use Rattle.ps_aiger.proofs.functions.input_literals.Given as goal

abbrev pub invariant-loop-proposition : goal.invariant-loop-proposition
invariant-loop-proposition l = record {
  many : length l.literals.items ≡ l.proposition;
  each : (p : ℕ) (d : Option ℕ) → p < l.proposition →
      IsInputLiteral (behaviour_of l.machine).inputs p (get_or l.literals.items p d);
}
