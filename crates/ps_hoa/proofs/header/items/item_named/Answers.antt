use Rattle.std.proofs.Common.{refl, sym, ◌∙◌}
use Rattle.ps_hoa.specs.Grammar.ItemNames.{item_named}
use Rattle.ps_hoa.proofs.Grammar.ItemRows.{found, passed, ended}
use Rattle.ps_hoa.proofs.header.items.item_named.Goals as goal

pub loop-spelled-init : goal.loop-spelled-init
unfolding item_named
loop-spelled-init c = refl

pub loop-spelled-preserved : goal.loop-spelled-preserved
loop-spelled-preserved c = c.loop-spelled.invariant ∙ passed _ c.loop-spelled.spelled-index c.args.name.now _
    c.loop-spelled-test.true (sym c.is_same.ensures ∙ c.if-is_same.false)

pub returns-then-is_same : goal.returns-then-is_same
returns-then-is_same c = sym (c.loop-spelled.invariant ∙ found _ c.loop-spelled.spelled-index c.args.name.now _
    c.loop-spelled-test.true (sym c.is_same.ensures ∙ c.if-is_same.true))

pub returns : goal.returns
returns c = sym (c.loop-spelled.invariant ∙ ended _ c.loop-spelled.spelled-index c.args.name.now
    c.loop-spelled-test.false)
