use Rattle.std.proofs.Common.{arith, sym, ◌∙◌}
use Rattle.ps_machine.specs.declared.key.Key.TheVariants.{First}
use Rattle.ps_machine.proofs.Machines.Diagrams.DrawingLemmas.{not_both, setting, to_class_of}
use Rattle.ps_machine.proofs.Machines.Diagrams.SecondDrawing.{replies, reply_enters, reply_is, reply_key, reply_stands}
use Rattle.ps_machine.proofs.drawing.Plan.reply.Goals as goal

pub successor-at-requires-clause-leads : goal.successor-at-requires-clause-leads
successor-at-requires-clause-leads c =
    let plan = c.requires.entered.1.plan in
    to_class_of (setting plan) c.requires.stands.1 c.requires.class

pub unwrap-chosen-requires : goal.unwrap-chosen-requires
unwrap-chosen-requires c =
    let r = replies c.requires.turn c.requires.entered.1 c.requires.class in
    grind (arith, r, c.successor-at.ensures)

pub unreachable-requires : goal.unreachable-requires
unreachable-requires c =
    let r = replies c.requires.turn c.requires.entered.1 c.requires.class in
    not_both (reply_key r c.successor-at.result (First 0 0) c.successor-at.ensures
    (sym c.choice.ensures ∙ c.unwrap-chosen.ensures) c.in-Second.is)

pub returns-clause-reply : goal.returns-clause-reply
returns-clause-reply c =
    let r = replies c.requires.turn c.requires.entered.1 c.requires.class in
    reply_is r (record { state = c.in-First.state; priority = c.in-First.priority }) (reply_key r c.successor-at.result
    (First 0 0) c.successor-at.ensures (sym c.choice.ensures ∙ c.unwrap-chosen.ensures) c.in-First.is)

pub returns-clause-enters : goal.returns-clause-enters
returns-clause-enters c =
    let r = replies c.requires.turn c.requires.entered.1 c.requires.class in
    reply_enters r (record { state = c.in-First.state; priority = c.in-First.priority }) (reply_key r
    c.successor-at.result (First 0 0) c.successor-at.ensures (sym c.choice.ensures ∙ c.unwrap-chosen.ensures)
    c.in-First.is)

pub returns-clause-stands : goal.returns-clause-stands
returns-clause-stands c =
    let r = replies c.requires.turn c.requires.entered.1 c.requires.class in
    let choice = sym c.choice.ensures ∙ c.unwrap-chosen.ensures in
    cc (
      reply_stands r c.successor-at.result c.successor-at.ensures choice,
      reply_key r c.successor-at.result (First 0 0) c.successor-at.ensures choice c.in-First.is,
    )
