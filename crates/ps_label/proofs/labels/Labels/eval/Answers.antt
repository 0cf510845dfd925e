use Rattle.std.proofs.Common.{List, Bool, length, ap, ◌∙◌, refl}
use Rattle.ps_label.specs.Expression.{expression}
use Rattle.ps_label.specs.Truth.{alias_truths, label_truth, truth}
use Rattle.ps_label.proofs.Tables.{whole_table}
use Rattle.ps_label.proofs.labels.Labels.eval.Goals as goal

pub loop-k-init : goal.loop-k-init
unfolding alias_truths
loop-k-init c =
    let items = c.deref-alias-items.ensures.value in
    rw (items, c.self.view_is) (record {
      room = c.requires.room;
      known = refl;
      ordered = (rw c.self.view_is at c.self.invariant);
    })

pub returns : goal.returns
unfolding label_truth
returns c =
    let items = ap length c.deref-alias-items.ensures.value in
    let whole = whole_table c.loop-k.scratch c.loop-k.k c.args.letter c.deref-alias-items.result.now _
    c.loop-k.invariant.room c.loop-k-test.false c.loop-k.invariant.known in
    c.truth_by.ensures ∙ ap (λ (known : List Bool). truth known c.args.letter (expression c.args.label.now)) whole
