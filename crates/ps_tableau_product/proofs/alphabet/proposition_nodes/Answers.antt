use Rattle.std.proofs.Common.{arith, subst, sym, ◌<◌, ℕ}
use Rattle.ps_diagram.proofs.NodeTables.KnownLemmas.{keeps_trans}
use Rattle.ps_tableau_product.specs.Inner.Alphabets.{AreBitNodes, IsBitNode}
use Rattle.ps_tableau_product.proofs.TableauStates.AlphabetLemmas.{bits_kept, bits_more, is_bit_node}
use Rattle.ps_tableau_product.proofs.alphabet.proposition_nodes.Goals as goal

pub returns-in_err-node-clause-keeps : goal.returns-in_err-node-clause-keeps
returns-in_err-node-clause-keeps c = keeps_trans c.loop-p.invariant.keeps c.of_proposition.ensures.keeps

pub returns-in_err-push-clause-keeps : goal.returns-in_err-push-clause-keeps
returns-in_err-push-clause-keeps c = keeps_trans c.loop-p.invariant.keeps c.of_proposition.ensures.keeps

pub loop-p-preserved : goal.loop-p-preserved
loop-p-preserved c =
    let inv = c.loop-p.invariant in
    let nodes = c.loop-p.nodes.items in
    let node = c.in_ok-node.node in
    let t = c.of_proposition.new.self in
    let count = c.args.store.now.propositions in
    let made = c.in_ok-node.ensures in
    let low : c.loop-p.p < count = omega arith in
    record {
      keeps = keeps_trans inv.keeps made.keeps;
      one_each = omega (arith, c.in_ok-push.ensures.len, inv.one_each);
      nodes = subst (AreBitNodes t count) (sym c.in_ok-push.ensures.items)
          (bits_more nodes node (bits_kept nodes made.keeps inv.nodes) made.held
          (subst (λ (p : ℕ). IsBitNode t count p node) (sym inv.one_each)
          (is_bit_node t count c.loop-p.p node low made.leaf)));
    }
