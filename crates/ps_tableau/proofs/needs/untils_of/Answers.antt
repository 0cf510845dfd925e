use Rattle.std.proofs.Common.{◌≡◌, ◌≤◌, arith, false, inl, inr, slice_index_or, subst, sym}
use Rattle.std.proofs.Math.Nat.{eq-or-lt_of_le}
use Rattle.std.proofs.lemmas.Option.{get_or_from_slice_get, slice_get_within}
use Rattle.std.specs.List.{Contains}
use Rattle.ps_formula.specs.declared.normal_node.NormalNode.TheVariants.{Constant, Until}
use Rattle.ps_tableau.specs.Needs.{IsNeeded}
use Rattle.ps_tableau.proofs.needs.untils_of.Goals as goal

pub loop-index-preserved : goal.loop-index-preserved
loop-index-preserved c =
    let nodes = c.args.nodes.now in
    let index = c.loop-index.index in
    let added = c.in_ok-add_until.ensures in
    record {
      each = λ k f g low at need.
          let le : k ≤ index = omega arith in
          elim (eq-or-lt_of_le le) [
            | inl same ↦ subst (λ j. Contains c.add_until.new.untils.items j) (sym same)
                (added.added f g (subst (λ j. slice_index_or nodes j (Constant false) ≡ Until f g) same
                (get_or_from_slice_get nodes k (Until f g) (Constant false) at))
                (subst (λ j. IsNeeded c.args.needed.now j) same need))
            | inr less ↦ added.kept k (c.loop-index.invariant.each k f g less at need)
          ];
      within = λ k there. elim (added.within k there) [
        | inl old ↦ c.loop-index.invariant.within k old
        | inr is ↦ omega arith
      ];
    }

pub returns : goal.returns
returns c = record {
  each = λ k f g at need. c.loop-index.invariant.each k f g
      (omega (arith, slice_get_within c.args.nodes.now k (Until f g) at, c.loop-index-test.false)) at need;
  within = c.loop-index.invariant.within;
}
