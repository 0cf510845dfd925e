use Rattle.std.proofs.Common.{arith, take, drop}
use Rattle.std.proofs.lemmas.List.{take-append-drop}
use Rattle.std.proofs.lemmas.Grind.{common_steps}
use Rattle.ps_certificate.proofs.SparseRows.Lines.{range_kept}
use Rattle.ps_certificate.proofs.entries.share.Goals as goal

pub returns-then-stand_at-clause-stand : goal.returns-then-stand_at-clause-stand
returns-then-stand_at-clause-stand c = grind (
  arith,
  common_steps,
  take-append-drop c.args.start c.args.placed.now.items,
  range_kept (take c.args.start c.args.placed.now.items) (drop c.args.start c.args.placed.now.items),
)
