use Rattle.std.proofs.Common.{ap, ◌∙◌, get_or}
use Rattle.ps_machine.proofs.Machines.Diagrams.StoredClasses.{fit_kept}
use Rattle.ps_machine.proofs.Machines.Assembling.{drawn_more}
use Rattle.ps_machine.proofs.extracting.nodes_by_dividing.Goals as goal

pub loop-vertex-preserved : goal.loop-vertex-preserved
loop-vertex-preserved c =
    let made = c.in_ok-node_by_dividing.ensures in
    record {
      fit = fit_kept made.keeps c.loop-vertex.invariant.fit;
      letters = made.drawn.keeps.propositions ∙ c.loop-vertex.invariant.letters;
      drawn = drawn_more made.drawn.keeps made.drawn.same_rows made.drawn.rows made.drawn.drawn
          (ap (λ l. get_or l c.loop-vertex.vertex-index 0) c.deref-vertex-items.ensures.value)
          c.in_ok-push.ensures.items c.loop-vertex.invariant.drawn;
    }
