use Rattle.std.proofs.Common.{◌≤◌, ◌∙◌, arith, refl, length}
use Rattle.ps_circuit.specs.Circuits.{CircuitData}
use Rattle.ps_shrink.specs.Inner.Assembled.{HasNamesOf}
use Rattle.ps_shrink.specs.Reductions.{IsSmallerBy}
use Rattle.ps_shrink.proofs.shrinking.smaller.Goals as goal
use Rattle.ps_shrink.proofs.shrinking.smaller.Goals.{in-Some+in_ok-sketch-2, in_default}

pub loop-init : goal.loop-init
loop-init g c = record {
  wins = c.requires.wins;
  input_names = refl;
  output_names = refl;
  latches = omega arith;
  gates = omega arith;
}

-- a circuit that wins, has the names of a smaller winner and is not larger than the given circuit is a smaller winner
next : (Winning : CircuitData → Type 0) (given best small : CircuitData) → IsSmallerBy Winning given best →
    HasNamesOf best small → length small.latches ≤ length given.latches → length small.gates ≤ length given.gates →
    Winning small → IsSmallerBy Winning given small
next Winning given best small old names latches gates wins = record {
  wins = wins;
  input_names = names.input_names ∙ old.input_names;
  output_names = names.output_names ∙ old.output_names;
  latches = latches;
  gates = gates;
}

pub loop-preserved : goal.loop-preserved
loop-preserved g c = elim c.match-branch-4.branch [
  | in-Some+in_ok-sketch-2 w ↦
      let e = c.in_ok-found.ensures in
      let latches : length w.in-Some.found.latches ≤ length c.args.circuit.latches =
      rw (← c.of-most.ensures.latches) (rw w.in-Some.is at e.latches) in
      let gates : length w.in-Some.found.gates ≤ length c.args.circuit.gates =
      rw (← c.of-most.ensures.gates) (rw w.in-Some.is at e.gates) in
      rw w.best-is (next (g.J.Judge.wins c.args.judge.now) c.args.circuit c.loop.best w.in-Some.found
      c.loop.invariant (rw w.in-Some.is at e.names) latches gates (rw w.in-Some.is at e.wins))
  | in_default w ↦ rw w.best-is c.loop.invariant
]
