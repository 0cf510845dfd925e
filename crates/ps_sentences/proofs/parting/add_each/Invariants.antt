use Rattle.std.proofs.Common.{◌≡◌, ◌++◌, map, take}
use Rattle.ps_sentences.specs.Inner.Owing.{sentence_with}
use Rattle.ps_sentences.proofs.parting.add_each.Given as goal

abbrev pub invariant-loop-consequent : goal.invariant-loop-consequent
invariant-loop-consequent l =
    l.sentences.items ≡ l.fn.sentences.items
    ++ map (sentence_with l.antecedents) (take l.consequent-index l.consequents)
