use Rattle.std.proofs.Common.{Bool, true, not, ap, sym, ◌∙◌}
use Rattle.ps_hoa.specs.Files.{is_among}
use Rattle.ps_hoa.proofs.Soundness.NameSets.{among}
use Rattle.ps_mixing.specs.Inner.Merging.{is_by}
use Rattle.ps_mixing.proofs.order.is_wanted.Goals as goal

pub returns-then-wanted : goal.returns-then-wanted
returns-then-wanted c = c.contains-own.ensures.value ∙ among c.args.p c.args.controllable.now ∙
    ap (λ (b : Bool). is_by b (is_among c.args.p c.args.controllable.now)) (sym c.if-wanted.true)

pub returns-else-wanted : goal.returns-else-wanted
returns-else-wanted c = ap not (c.contains-own.ensures.value ∙ among c.args.p c.args.controllable.now) ∙
    ap (λ (b : Bool). is_by b (is_among c.args.p c.args.controllable.now)) (sym c.if-wanted.false)
