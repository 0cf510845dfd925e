use Rattle.std.proofs.Common.{◌≡◌, length}
use Rattle.ps_formula.specs.Formulas.{formulas_of}
use Rattle.ps_sentences.specs.Inner.MentionedBefore.{EachMentioned}
use Rattle.ps_sentences.proofs.mentions.letters_of.Given as goal

abbrev pub invariant-loop-node : goal.invariant-loop-node
invariant-loop-node l = record {
  count : length l.letters.items ≡ l.node-index;
  known : EachMentioned (formulas_of l.nodes) l.letters.items;
}
