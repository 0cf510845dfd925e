use Rattle.std.proofs.Common.{◌≡◌, sym, ◌∙◌, ap}
use Rattle.ps_diagram.specs.Table.{Table, tree_in}
use Rattle.ps_diagram.proofs.NodeTables.Cells.{Interned, interned}
use Rattle.ps_diagram.proofs.store.Store.intern.Goals as goal

old : goal.In_ok-place → Table
old c = record { propositions = c.self.inside.propositions; cells = c.self.inside.cells }

new : goal.In_ok-place → Table
new c = record { propositions = c.self.inside.propositions; cells = c.place_of.new.self }

done : (c : goal.In_ok-place) → Interned (old c) (new c) c.args.cell c.in_ok-place.place
unfolding old new
done c =
    let was : c.args.self.now ≡ old c = sym c.self.view_is in
    interned c.in_ok-place.place c.self.invariant (rw was at c.requires.within)
    (rw was at c.requires.ordered) (rw was at c.requires.reduced) c.in_ok-place.ensures.adds
    c.in_ok-place.ensures.there

pub invariant_of-self-2 : goal.invariant_of-self-2
unfolding new
invariant_of-self-2 c = (done c).sound

pub returns : goal.returns
unfolding old new
returns c = record {
  keeps = rw c.self.view_is at (done c).keeps;
  held = (done c).held;
  leaf = (done c).tree ∙ ap (λ (t : Table). tree_in t.cells c.args.cell) c.self.view_is;
}
