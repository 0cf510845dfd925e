use Rattle.ps_diagram.proofs.NodeTables.KnownLemmas.{keeps_trans}
use Rattle.ps_product.proofs.CircuitFunctions.GroupLemmas.{split_by_truth}
use Rattle.ps_product.proofs.grouping.split_by.Goals as goal

pub returns : goal.returns
returns c = record {
  keeps = keeps_trans c.fill.ensures.keeps c.both.ensures.made.keeps;
  held = c.in_ok-made.ensures.made.held;
  grouped = rw c.in-Sometimes.is (split_by_truth _ _ c.both.new.pairs.keys c.fill.ensures.keeps c.requires.whole.held
      c.requires.whole.total (rw c.in-Sometimes.is at c.requires.truth_is) c.pairs_differ.ensures
      c.in_ok-sides.ensures.leaf c.in_ok-made.ensures.made.leaf);
}
