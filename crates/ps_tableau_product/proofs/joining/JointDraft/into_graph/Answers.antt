use Rattle.std.proofs.Common.{subst, sym}
use Rattle.ps_automaton.specs.Automata.{auto_of}
use Rattle.ps_tableau_product.specs.JointGraphs.{IsJointOf, JointData}
use Rattle.ps_tableau_product.specs.Inner.Joining.{pairing_of}
use Rattle.ps_tableau_product.specs.Joints.{read_by}
use Rattle.ps_tableau_product.proofs.JointProducts.JointMade.{joint_made, joint_stored}
use Rattle.ps_tableau_product.proofs.joining.JointDraft.into_graph.Goals as goal

pub new-requires : goal.new-requires
new-requires c = joint_stored {s = pairing_of c.args.plan} c.requires.explored c.requires.covers

pub returns : goal.returns
returns c = λ f is_of.
    subst (λ (g : JointData). IsJointOf (auto_of c.args.plan.automaton.now) (read_by c.args.plan.places.now)
    (pairing_of c.args.plan).few f g) (sym c.new.ensures)
    (joint_made {s = pairing_of c.args.plan} c.requires.explored c.requires.covers f is_of)
