use Rattle.std.proofs.Common.{map, take}
use Rattle.std.specs.Prelude.{IfSome}
use Rattle.ps_sentences.specs.Conjunctions.{AreImplications}
use Rattle.ps_sentences.specs.Inner.Conjoining.{IsConjoined}
use Rattle.ps_sentences.proofs.joining.implications.Given as goal

abbrev pub invariant-loop-sentence : goal.invariant-loop-sentence
invariant-loop-sentence l = record {
  implied : AreImplications l.fn.table (map (λ v. v.items) l.lists) (take l.sentence-index l.sentences) l.table
      l.goals.items;
  last : IfSome l.last (IsConjoined l.fn.table (map (λ v. v.items) l.lists) l.table);
}
