use Rattle.ps_circuit.specs.Drafts.{data_of}
use Rattle.ps_shrink.proofs.AssembledCircuits.{is_draft, ordered}
use Rattle.ps_shrink.proofs.assembling.assembled.Goals as goal

pub in_order-requires : goal.in_order-requires
in_order-requires c =
    let x = data_of c.in_ok-parts.parts in
    let e = c.parts_of.ensures in
    let r = c.requires in
    let built = c.in_ok-parts.ensures.parts in
    record {
      draft = is_draft c.args.named.now c.args.builder.now e.sound c.args.cells.now c.args.outputs.items x built
          r.given r.nexts r.outputs e.circuit r.each;
      ordered = ordered c.args.named.now c.args.builder.now e.sound c.args.cells.now c.args.outputs.items x built
          r.given;
    }
