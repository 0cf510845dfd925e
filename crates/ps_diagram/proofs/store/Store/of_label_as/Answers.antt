use Rattle.std.proofs.Common.{◌∙◌, ap}
use Rattle.std.specs.Prelude.{option_map}
use Rattle.ps_label.specs.Expression.{expression}
use Rattle.ps_label.specs.Truth.{alias_truths, label_truth, truth}
use Rattle.ps_diagram.proofs.NodeTables.KnownLemmas.{keeps_trans}
use Rattle.ps_diagram.proofs.TreeOperations.Truths.{guarded_is, truths_kept}
use Rattle.ps_diagram.proofs.NodeTables.MadeDiagrams.{by-last}
use Rattle.ps_diagram.proofs.store.Store.of_label_as.Goals as goal

pub truth_by-requires-clause-aliases : goal.truth_by-requires-clause-aliases
truth_by-requires-clause-aliases c =
    let names = c.requires.aliases.0 in
    (alias_truths names, truths_kept c.of_literals.ensures.keeps c.requires.aliases.1.truths)

pub returns-in-Some : goal.returns-in-Some
unfolding label_truth
returns-in-Some c =
    let made = rw c.in-Some.is at c.in_ok-node.ensures.leaf in
    record {
      keeps = c.of_literals.ensures.keeps;
      held = rw c.in-Some.is at c.in_ok-node.ensures.held;
      leaf = λ names a letter. made (alias_truths names letter) letter;
    }

pub returns-in_ok-node-in-None : goal.returns-in_ok-node-in-None
unfolding label_truth
returns-in_ok-node-in-None c = by-last (keeps_trans c.of_literals.ensures.keeps c.truth_by.ensures.keeps)
    (λ node h names a letter. h letter
    ∙ ap (option_map (λ _. c.args.value)) (c.in_ok-node-in-None.ensures.leaf (alias_truths names)
    (truths_kept c.of_literals.ensures.keeps a.truths) letter)
    ∙ guarded_is c.args.value (truth (alias_truths names letter) letter (expression c.args.label.now)))
    c.guard.ensures
