use Rattle.ps_tableau_product.specs.JointGraphs.{joint_product, no_joint_vertex}
use Rattle.ps_tableau_product.proofs.JointProducts.JointWalks.{uncapped_edge}
use Rattle.ps_tableau_product.proofs.joint.CappedGraph.count.Goals as goal

pub returns-clause-within : goal.returns-clause-within
returns-clause-within c = λ v w link.
    let edge = (uncapped_edge (joint_product c.args.self.now.graph.now no_joint_vertex) c.args.self.now.priority
    (record { vertex = v; slot = link.place }) w
    (record { from = link.from; at = link.at; target = link.target })).0 in
    c.count.ensures.within v w (record { from = edge.from; place = link.place; at = edge.at; target = edge.target })
