use Rattle.std.proofs.Common.{◌∙◌, length, arith}
use Rattle.std.proofs.lemmas.List.{take_all}
use Rattle.ps_program.proofs.ByCommand.TraceLemmas.{HasPrinted-start, HasPrinted-letter, PrintsTrace-end, letter_fits}
use Rattle.ps_program.proofs.commands.sim.trace_text.Goals as goal

pub loop-place-init : goal.loop-place-init
loop-place-init c = grind (arith, HasPrinted-start)

pub loop-place-preserved : goal.loop-place-preserved
loop-place-preserved c = record {
  printed = HasPrinted-letter c.args.circuit.now c.args.letters.now c.loop-place.place c.loop-place.text.items
      c.write_step.new.text.items c.loop-place.simulator c.write_step.new.simulator c.letter-letter.result.now
      c.letter-letter.ensures c.loop-place.invariant.same c.loop-place.invariant.printed
      c.in_ok-write_step.ensures.step;
  within = omega arith;
  same = c.in_ok-write_step.ensures.circuit ∙ c.loop-place.invariant.same;
  outputs_fit = c.loop-place.invariant.outputs_fit;
}

pub write_step-requires : goal.write_step-requires
write_step-requires c = grind (
  arith,
  letter_fits c.args.letters.now c.loop-place.place
      (length c.args.circuit.now.inputs) c.letter-letter.result.now c.requires c.letter-letter.ensures,
)

pub returns : goal.returns
returns c = grind (arith, take_all, PrintsTrace-end)
