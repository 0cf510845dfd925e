use Rattle.std.proofs.Common.{◌∙◌, ap₂, ℕ, nat_eq}
use Rattle.ps_brief.proofs.DrawnMachines.DrawnParts.{made_by_rounds}
use Rattle.ps_brief.proofs.DraftedMoves.ReadyPlans.{orders_are, ready_is, small_winner}
use Rattle.ps_brief.proofs.drawing.machine_of_arena.Goals as goal

pub parts_of-requires : goal.parts_of-requires
parts_of-requires c =
    let turn =
    ap₂ (λ (a b : ℕ). nat_eq a b) (c.number.ensures.number ∙ c.mover.ensures.mover) c.winner-winner.ensures in
    ready_is _ c.requires.listing c.requires.certified c.requires.begins turn
    (c.in_ok-leaves_of.ensures c.args.setting.now c.args.store.now c.requires.listing)

pub of_number-requires : goal.of_number-requires
of_number-requires c = rw c.winner-winner.ensures (small_winner c.args.setting.now c.args.arena.now c.args.others.now
    c.args.certificate.now c.args.listing.now c.requires.listing c.requires.certified c.requires.begins)

pub returns-in_err-leaves_of-clause-orders : goal.returns-in_err-leaves_of-clause-orders
returns-in_err-leaves_of-clause-orders c = orders_are c.args.setting.now c.args.arena.now c.args.others.now
    c.args.certificate.now c.args.listing.now c.requires.listing c.requires.certified c.requires.begins

pub returns-in_err-parts-clause-orders : goal.returns-in_err-parts-clause-orders
returns-in_err-parts-clause-orders c = orders_are c.args.setting.now c.args.arena.now c.args.others.now
    c.args.certificate.now c.args.listing.now c.requires.listing c.requires.certified c.requires.begins

pub returns-clause-orders : goal.returns-clause-orders
returns-clause-orders c = orders_are c.args.setting.now c.args.arena.now c.args.others.now
    c.args.certificate.now c.args.listing.now c.requires.listing c.requires.certified c.requires.begins

pub returns-clause-machine : goal.returns-clause-machine
returns-clause-machine c =
    let turn =
    ap₂ (λ (a b : ℕ). nat_eq a b) (c.number.ensures.number ∙ c.mover.ensures.mover) c.winner-winner.ensures in
    let ready = ready_is _ c.requires.listing c.requires.certified c.requires.begins turn
    (c.in_ok-leaves_of.ensures c.args.setting.now c.args.store.now c.requires.listing) in
    let (kept, drawn) = c.in_ok-parts.ensures.drawn in
    let said = c.machine_of_bits.ensures in
    made_by_rounds _ ready kept c.in_ok-parts.parts drawn c.of_number.result
    (c.of_number.ensures ∙ c.winner-winner.ensures) c.machine_of_bits.result said.player said.first said.store
    said.nodes said.bits said.outputs said.propositions
