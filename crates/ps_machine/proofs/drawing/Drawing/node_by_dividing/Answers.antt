use Rattle.ps_machine.proofs.Machines.Diagrams.LowStates.{kept_low}
use Rattle.ps_machine.proofs.Machines.Diagrams.StoredClasses.{fit_kept}
use Rattle.ps_machine.proofs.drawing.Drawing.node_by_dividing.Goals as goal

pub node-node-requires : goal.node-node-requires
node-node-requires c =
    let r = c.requires in
    kept_low r.plan r.fit.whole r.kept c.state_at-state.ensures.1

pub node-requires : goal.node-requires
node-requires c =
    let r = c.requires in
    record {
      plan = r.plan;
      kept = r.kept;
      stands = c.state_at-state.ensures;
      mask = c.args.mask;
      fit = fit_kept c.classes_in_copy.ensures.keeps r.fit;
      classes = record {
        state = kept_low r.plan r.fit.whole r.kept c.state_at-state.ensures.1;
        are = rw (c.store.ensures.store, c.node-node.ensures.node) at c.in_ok-classes.ensures.classes;
      };
      letters = r.letters;
      rows = r.rows;
    }
