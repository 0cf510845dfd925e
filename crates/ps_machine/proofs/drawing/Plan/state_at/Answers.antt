use Rattle.std.proofs.Common.{arith}
use Rattle.ps_machine.proofs.Machines.Diagrams.DrawingLemmas.{kept_within, kept_stands, kept_not_second}
use Rattle.ps_machine.proofs.drawing.Plan.state_at.Goals as goal

pub bounds : goal.bounds
bounds c = kept_within c.requires.plan c.args.vertex c.requires.kept

pub bounds-self-vertex : goal.bounds-self-vertex
bounds-self-vertex c = kept_within c.requires.plan c.args.vertex c.requires.kept

pub offset_bounds-self-vertex : goal.offset_bounds-self-vertex
offset_bounds-self-vertex c = grind (arith, kept_within c.requires.plan c.args.vertex c.requires.kept)

pub unreachable-requires : goal.unreachable-requires
unreachable-requires c = kept_not_second c.requires.plan c.args.vertex c.requires.kept c.in-Second.is

pub returns : goal.returns
returns c = (
  c.in-First.priority,
  kept_stands c.requires.plan c.args.vertex c.requires.kept c.in-First.is,
)
