use Rattle.std.proofs.Common.{arith}
use Rattle.ps_diagram.specs.Labels.{IsOneOrNone}
use Rattle.ps_diagram.proofs.TreeOperations.Mapping.{by_numbers}
use Rattle.ps_diagram.proofs.store.Store.either.Goals as goal

pub united-requires-clause-first_truth : goal.united-requires-clause-first_truth
united-requires-clause-first_truth c =
    (by_numbers IsOneOrNone {t = c.args.self.now} c.allocator.ensures.sound c.requires.first (omega arith)
    (λ letter _. c.requires.first_truth letter)).fits

pub united-requires-clause-second_truth : goal.united-requires-clause-second_truth
united-requires-clause-second_truth c =
    (by_numbers IsOneOrNone {t = c.args.self.now} c.allocator.ensures.sound c.requires.second (omega arith)
    (λ letter _. c.requires.second_truth letter)).fits
