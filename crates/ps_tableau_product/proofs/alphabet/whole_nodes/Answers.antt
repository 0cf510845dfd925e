use Rattle.std.proofs.Common.{arith, length, subst, sym}
use Rattle.ps_tableau_product.specs.Inner.Alphabets.{AreBitNodes}
use Rattle.ps_tableau_product.proofs.TableauStates.AlphabetLemmas.{bits_kept, bits_more, no_bit_node}
use Rattle.ps_tableau_product.proofs.alphabet.whole_nodes.Goals as goal

pub loop-none-init : goal.loop-none-init
loop-none-init c =
    let each = c.in_ok-nodes.ensures.each in
    record {
      few = omega (arith, each, c.proposition_nodes.ensures.few);
      begun = omega (arith, each);
      nodes = bits_kept c.in_ok-nodes.nodes.items c.none.ensures.keeps c.in_ok-nodes.ensures.nodes;
    }

pub loop-none-preserved : goal.loop-none-preserved
loop-none-preserved c =
    let inv = c.loop-none.invariant in
    let nodes = c.loop-none.nodes.items in
    let t = c.none.new.self in
    let count = c.args.store.now.propositions in
    let long = c.in_ok-push.ensures.len in
    record {
      few = omega arith;
      begun = omega (arith, long, inv.begun);
      nodes = subst (AreBitNodes t count) (sym c.in_ok-push.ensures.items)
          (bits_more nodes c.in_ok-none.none inv.nodes c.in_ok-none.ensures.held
          (no_bit_node t count (length nodes) c.in_ok-none.none inv.begun c.in_ok-none.ensures.leaf));
    }
