use Rattle.std.proofs.Common.{sym}
use Rattle.ps_diagram.proofs.NodeTables.Cells.{keeps_refl}
use Rattle.ps_tableau_product.specs.Inner.Composing.{IsComposedNode}
use Rattle.ps_tableau_product.proofs.TableauStates.ComposedLemmas.{composed_kept, composed_more, formed_before}
use Rattle.ps_tableau_product.proofs.composed.Composed.diagram.Goals as goal
use Rattle.ps_tableau_product.proofs.composed.Composed.diagram.Goals.{In_ok-made}

pub returns-in-Some-clause-keeps : goal.returns-in-Some-clause-keeps
returns-in-Some-clause-keeps c = keeps_refl c.args.store.now

pub returns-in-Some-clause-made : goal.returns-in-Some-clause-made
returns-in-Some-clause-made c = c.requires.composed.known c.args.node c.in-Some.made (sym c.in-Some.ensures)

is_made : (c : In_ok-made) → IsComposedNode c.composed_from.new.self c.args.self.now.truths.items c.args.other.now
    c.args.node c.in_ok-made.made
is_made c =
    let e = c.in_ok-made.ensures in
    record {
      known = c.requires.node;
      held = e.held;
      leaf = λ letter whole formed. e.leaf letter whole (rw c.deref.ensures.value
          (formed_before c.args.self.now.truths.items e.keeps c.requires.composed.held letter whole formed));
    }

pub returns-clause-composed : goal.returns-clause-composed
returns-clause-composed c =
    let at = (goal.at.returns-clause-composed c).In_ok-made in
    composed_more c.args.self.now c.put.new.self c.args.node c.in_ok-made.made c.in_ok-put.ensures.put (is_made at)
    (composed_kept c.args.self.now c.in_ok-made.ensures.keeps (keeps_refl c.args.other.now) c.requires.composed)

pub returns-clause-made : goal.returns-clause-made
returns-clause-made c = is_made (goal.at.returns-clause-made c).In_ok-made
