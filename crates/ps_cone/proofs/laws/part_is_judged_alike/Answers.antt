use Rattle.ps_cone.proofs.PartTiming.{sees_in_part, sees_in_whole}
use Rattle.ps_cone.proofs.PartWords.{symbols_of_part, symbols_of_whole, word_of_part}
use Rattle.ps_cone.proofs.laws.part_is_judged_alike.Goals as goal

pub returns : goal.returns
returns c = record {
  symbols = λ role names controllable d kept part p.
      (λ has. symbols_of_part p has, λ has. symbols_of_whole p has);
  sees = λ d kept part is p. (
    sees_in_part p (c.circuit_has_one_values.ensures d is) (c.circuit_has_one_values.ensures part p.is_circuit),
    sees_in_whole p,
  );
  word = λ names d kept part stem lap p word. word_of_part p word;
}
