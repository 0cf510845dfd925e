use Rattle.std.proofs.Common.{◌<◌, ℕ}
use Rattle.ps_models.specs.Inner.Claims.{IsKept, sentence_at}
use Rattle.ps_models.specs.Inner.Trying.{IsObeyedByAll}
use Rattle.ps_models.proofs.by_sentences.controller_verdict.Given as goal

abbrev pub invariant-loop-place : goal.invariant-loop-place
invariant-loop-place l = record {
  kept : IsKept l.fn.parting l.parting;
  obeyed : (k : ℕ) → k < l.place → IsObeyedByAll l.trial (sentence_at l.fn.parting k);
}
