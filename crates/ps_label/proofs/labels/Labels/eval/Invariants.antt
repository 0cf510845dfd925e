use Rattle.std.proofs.Common.{◌≡◌, length, take, drop}
use Rattle.ps_label.specs.Expression.{AreOverFrom}
use Rattle.ps_label.specs.Truth.{alias_truths, expressions, truths_behind}
use Rattle.ps_label.proofs.labels.Labels.eval.Given as goal

-- `scratch` begins with the truth values of the first k aliases, so evaluating the remaining aliases gives the truth
-- values of all aliases
abbrev pub invariant-loop-k : goal.invariant-loop-k
invariant-loop-k l = record {
  room : length l.scratch ≡ length l.alias-items;
  known : truths_behind (take l.k l.scratch) l.letter (expressions (drop l.k l.alias-items)) ≡ alias_truths
      (expressions l.self) l.letter;
  ordered : AreOverFrom l.k 64 (expressions (drop l.k l.alias-items));
}
