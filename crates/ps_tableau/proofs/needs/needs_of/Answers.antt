use Rattle.std.proofs.Common.{◌≡◌, ◌-◌, ◌<◌, ◌≤◌, ◌∙◌, arith, false, inl, inr, length, slice_index_or, subst, sym}
use Rattle.std.proofs.Math.Nat.{eq-or-lt_of_le}
use Rattle.std.proofs.lemmas.Option.{get_or_from_slice_get, slice_get-get_or}
use Rattle.ps_formula.specs.declared.normal_node.NormalNode.{NormalNode}
use Rattle.ps_formula.specs.declared.normal_node.NormalNode.TheVariants.{Constant}
use Rattle.ps_tableau.proofs.CoversOfSets.NeedLemmas.{needs_more, over_more}
use Rattle.ps_tableau.specs.Needs.{IsNeeded, NeedsOperands}
use Rattle.ps_tableau.proofs.needs.needs_of.Goals as goal

pub need_operands-requires : goal.need_operands-requires
need_operands-requires c =
    let nodes = c.args.nodes.now in
    let k = c.loop-index.index - 1 in
    let within : k < length nodes = omega arith in
    let low : k ≤ length c.loop-index.needed.items = omega (arith, c.loop-index.invariant.count) in
    over_more _ k (length c.loop-index.needed.items) low
    (c.requires.table.earlier k _ (slice_get-get_or nodes k (Constant false) within))

pub loop-index-preserved-then-index : goal.loop-index-preserved-then-index
loop-index-preserved-then-index c =
    let nodes = c.args.nodes.now in
    let k = c.loop-index.index - 1 in
    let within : k < length nodes = omega arith in
    let at = slice_get-get_or nodes k (Constant false) within in
    let keeps = c.need_operands.ensures.keeps k (c.requires.table.earlier k _ at) in
    record {
      count = keeps.count ∙ c.loop-index.invariant.count;
      root = keeps.kept c.args.root c.loop-index.invariant.root;
      operands = λ j node low there need. elim (eq-or-lt_of_le low) [
        | inl same ↦
            let is : slice_index_or nodes k (Constant false) ≡ node =
            subst (λ i. slice_index_or nodes i (Constant false) ≡ node) (sym same)
            (get_or_from_slice_get nodes j node (Constant false) there) in
            subst (λ (n : NormalNode). NeedsOperands c.need_operands.new.needed.items n) is
            c.need_operands.ensures.operands
        | inr later ↦
            let was : IsNeeded c.loop-index.needed.items j = rw (← keeps.same j low) need in
            needs_more node _ _ keeps.kept (c.loop-index.invariant.operands j node (omega arith) there was)
      ];
    }
