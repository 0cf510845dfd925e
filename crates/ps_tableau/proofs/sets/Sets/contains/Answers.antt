use Rattle.std.proofs.Common.{inl, inr}
use Rattle.ps_tableau.proofs.SetLemmas.{parts_cases}
use Rattle.ps_tableau.proofs.sets.Sets.contains.Goals as goal

pub loop-parts-preserved : goal.loop-parts-preserved
loop-parts-preserved c =
    let parts = c.in-Some.ensures in
    let here = parts_cases parts c.args.index in
    record {
      held = parts.held;
      each = (
        λ there. elim (here.0 (c.loop-parts.invariant.each.0 there)) [
          | inl is ↦ absurd (c.if-parts-index.false is)
          | inr rest ↦ rest
        ],
        λ there. c.loop-parts.invariant.each.1 (here.1 (inr there)),
      );
    }
