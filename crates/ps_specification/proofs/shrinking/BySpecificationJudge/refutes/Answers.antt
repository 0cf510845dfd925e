use Rattle.ps_specification.proofs.shrinking.BySpecificationJudge.refutes.Goals as goal

pub holds-requires-clause-root : goal.holds-requires-clause-root
holds-requires-clause-root c = c.requires.judge.0.whole
