use Rattle.std.proofs.Common.{arith, rules, sym, ◌∙◌}
use Rattle.ps_machine.proofs.Machines.Diagrams.DrawingLemmas.{kept_entry}
use Rattle.ps_machine.proofs.Machines.Diagrams.FirstDrawing.{has_choice, chosen_within, chosen_not_first, plays_class}
use Rattle.ps_machine.proofs.drawing.Plan.move_at.Goals as goal

pub choice-requires : goal.choice-requires
choice-requires c = search (rules, kept_entry)

pub unwrap-chosen-requires : goal.unwrap-chosen-requires
unwrap-chosen-requires c = grind (arith, has_choice c.requires.plan c.requires.turn c.args.vertex c.requires.kept)

pub bounds : goal.bounds
bounds c = chosen_within c.requires.plan c.requires.turn c.args.vertex c.requires.kept
    (sym c.choice.ensures ∙ c.unwrap-chosen.ensures)

pub bounds-self-chosen : goal.bounds-self-chosen
bounds-self-chosen c = chosen_within c.requires.plan c.requires.turn c.args.vertex c.requires.kept
    (sym c.choice.ensures ∙ c.unwrap-chosen.ensures)

pub offset_bounds-self-chosen : goal.offset_bounds-self-chosen
offset_bounds-self-chosen c = grind (
  arith,
  chosen_within c.requires.plan c.requires.turn c.args.vertex
      c.requires.kept (sym c.choice.ensures ∙ c.unwrap-chosen.ensures),
)

pub unreachable-requires : goal.unreachable-requires
unreachable-requires c = chosen_not_first c.requires.plan c.requires.turn c.args.vertex c.requires.kept
    (sym c.choice.ensures ∙ c.unwrap-chosen.ensures) c.in-First.is

pub returns-clause-plays : goal.returns-clause-plays
returns-clause-plays c = plays_class c.requires.plan c.requires.turn c.args.vertex c.unwrap-chosen.result
    c.in-Second.state c.in-Second.letter c.requires.kept (sym c.choice.ensures ∙ c.unwrap-chosen.ensures)
    c.in-Second.is
