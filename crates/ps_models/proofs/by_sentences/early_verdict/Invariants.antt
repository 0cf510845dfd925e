use Rattle.std.proofs.Common.{◌<◌}
use Rattle.ps_models.specs.Inner.Claims.{IsClaim}
use Rattle.ps_models.proofs.by_sentences.early_verdict.Given as goal

abbrev pub invariant-loop-round : goal.invariant-loop-round
invariant-loop-round l = record { claim : IsClaim l.fn.table l.antecedents l.table l.assumed; some : 0 < l.most }
