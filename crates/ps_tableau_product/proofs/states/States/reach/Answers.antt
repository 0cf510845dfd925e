use Rattle.std.proofs.Common.{◌∙◌, refl}
use Rattle.ps_tableau_product.proofs.TableauStates.StateLemmas.{grow_none, grow_on}
use Rattle.ps_tableau_product.proofs.states.States.reach.Goals as goal

pub loop-self-init : goal.loop-self-init
loop-self-init c = record { states = c.requires.states; grow = grow_none c.requires.states; same = refl }

pub loop-self-preserved : goal.loop-self-preserved
loop-self-preserved c =
    let e = c.in_ok-explore.ensures.more in
    record {
      states = e.states;
      grow = grow_on c.loop-self.invariant.grow e.grow;
      same = e.same ∙ c.loop-self.invariant.same;
    }
