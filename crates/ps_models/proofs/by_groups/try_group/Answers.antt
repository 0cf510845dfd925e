use Rattle.ps_models.proofs.TriedCircuits.TogetherLemmas.{known_more, known_still}
use Rattle.ps_models.proofs.by_groups.try_group.Goals as goal

pub returns-then-branch-clause-known : goal.returns-then-branch-clause-known
returns-then-branch-clause-known c =
    known_more c.args.trial c.args.parting.now c.judged_together.new.parting c.args.known.now c.mark.new.flags
    c.args.group.now.places.items c.in_ok-judged_together.ensures.kept c.requires.parting c.requires.known
    c.mark.auto.flags (c.in_ok-judged_together.ensures.obeyed c.if-branch.true)
    (rw c.deref-then-branch.ensures.value at c.mark.ensures)

pub returns-else-branch-clause-known : goal.returns-else-branch-clause-known
returns-else-branch-clause-known c =
    known_still c.args.trial c.args.parting.now c.judged_together.new.parting c.args.known.now
    c.in_ok-judged_together.ensures.kept c.requires.parting c.requires.known
