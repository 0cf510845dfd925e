use Rattle.std.proofs.Common.{◌∙◌}
use Rattle.ps_label.specs.Expression.{expression}
use Rattle.ps_label.specs.Truth.{alias_truths, label_truth, truth}
use Rattle.ps_diagram.proofs.TreeOperations.Truths.{leaf_one, truths_kept}
use Rattle.ps_diagram.proofs.NodeTables.MadeDiagrams.{by-last}
use Rattle.ps_diagram.proofs.store.Store.of_label_by.Goals as goal

pub truth_by-requires-clause-aliases : goal.truth_by-requires-clause-aliases
truth_by-requires-clause-aliases c =
    let names = c.requires.aliases.0 in
    (alias_truths names, truths_kept c.of_literals.ensures.keeps c.requires.aliases.1.truths)

pub returns-in-Some : goal.returns-in-Some
unfolding label_truth
returns-in-Some c =
    let made = rw c.in-Some.is at c.in_ok-node.ensures.leaf in
    record {
      keeps = c.of_literals.ensures.keeps;
      held = rw c.in-Some.is at c.in_ok-node.ensures.held;
      leaf = λ names a letter. made (alias_truths names letter) letter
          ∙ leaf_one (truth (alias_truths names letter) letter (expression c.args.label.now));
    }

pub returns-in-None : goal.returns-in-None
unfolding label_truth
returns-in-None c = by-last c.of_literals.ensures.keeps
    (λ node h names a letter. h (alias_truths names) (truths_kept c.of_literals.ensures.keeps a.truths) letter)
    c.truth_by.ensures
