use Rattle.std.proofs.Common.{inl, inr}
use Rattle.ps_tableau.proofs.SetLemmas.{greatest_of}
use Rattle.ps_tableau.proofs.sets.Sets.greatest.Goals as goal
use Rattle.ps_tableau.proofs.sets.Sets.greatest.Goals.{then-i-j, else-i-j, then-j-i, else-j-i}

pub returns : goal.returns
returns c =
    greatest_of c.max.result c.if-i-j.result c.if-j-i.result c.requires.first c.requires.second c.in_ok-left.ensures
    c.in_ok-right.ensures c.max.ensures
    (elim c.if-i-j.branch [
      | then-i-j w ↦ inl (w.if-i-j.true, w.result-is)
      | else-i-j w ↦ inr (w.if-i-j.false, w.result-is)
    ])
    (elim c.if-j-i.branch [
      | then-j-i w ↦ inl (w.if-j-i.true, w.result-is)
      | else-j-i w ↦ inr (w.if-j-i.false, w.result-is)
    ])
