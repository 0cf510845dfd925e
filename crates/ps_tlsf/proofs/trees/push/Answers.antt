use Rattle.ps_tlsf.proofs.SectionFormulas.Building.{is_pushed}
use Rattle.ps_tlsf.proofs.trees.push.Goals as goal

pub returns : goal.returns
returns c =
    is_pushed c.in_ok-id.ensures c.args.stack.now.items c.push.new.self.items c.requires.valid
    c.in_ok-push.ensures.items
