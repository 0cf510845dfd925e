use Rattle.ps_product.proofs.truth.Truths.truth_of.Goals as goal

pub returns-then-same-clause-is_truth : goal.returns-then-same-clause-is_truth
returns-then-same-clause-is_truth c = c.constant.ensures.is_truth c.args.self.now

pub returns-then-same-2-clause-is_truth : goal.returns-then-same-2-clause-is_truth
returns-then-same-2-clause-is_truth c = c.constant-then-same-2.ensures.is_truth c.args.self.now
