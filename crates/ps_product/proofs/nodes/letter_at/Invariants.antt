use Rattle.std.proofs.Common.{◌≡◌, ◌<◌, ◌^◌, ℕ, get_or}
use Rattle.std.specs.Prelude.{is_some}
use Rattle.ps_diagram.specs.Table.{leaf_of}
use Rattle.ps_label.specs.Truth.{is_in}
use Rattle.ps_product.proofs.nodes.letter_at.Given as goal

abbrev pub invariant-loop-p : goal.invariant-loop-p
invariant-loop-p l = record {
  few : l.whole < 2 ^ l.p;
  before : (q : ℕ) → q < l.p → is_in q l.whole ≡ is_some (leaf_of l.store (get_or l.nodes q 0) l.letter);
}
