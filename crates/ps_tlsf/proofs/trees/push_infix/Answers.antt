use Rattle.std.proofs.Common.{length}
use Rattle.ps_tlsf.proofs.SectionFormulas.Building.{two_valid}
use Rattle.ps_tlsf.proofs.trees.push_infix.Goals as goal

pub push-requires-in-Some-pop-clause-over : goal.push-requires-in-Some-pop-clause-over
push-requires-in-Some-pop-clause-over c =
    let both = two_valid c.args.table.now c.args.stack.now.items c.pop.new.self.items c.pop-2.new.self.items
    c.in-Some-pop.f c.in-Some.g c.in-Some.ensures.items c.in-Some-pop.ensures.items c.requires in
    c.infix_node.ensures.over (length c.args.table.now) both.0 both.1
