use Rattle.std.proofs.Common.{ap, ◌∙◌, get_or}
use Rattle.ps_machine.proofs.Machines.Diagrams.ClassTables.{classes_there, lent}
use Rattle.ps_machine.proofs.Machines.Assembling.{drawn_more}
use Rattle.ps_machine.proofs.extracting.nodes_of.Goals as goal

pub of-classes-requires : goal.of-classes-requires
of-classes-requires c = lent _ c.requires.divided c.state_at-state.ensures.1

pub loop-vertex-preserved : goal.loop-vertex-preserved
loop-vertex-preserved c =
    let made = c.in_ok-node.ensures in
    record {
      letters = made.keeps.propositions ∙ c.loop-vertex.invariant.letters;
      drawn = drawn_more made.keeps made.same_rows made.rows made.drawn (ap (λ l. get_or l c.loop-vertex.vertex-index 0)
          c.deref-vertex-items.ensures.value) c.in_ok-push.ensures.items c.loop-vertex.invariant.drawn;
    }
