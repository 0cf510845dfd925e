use Rattle.std.proofs.Common.{length, refl}
use Rattle.ps_diagram.specs.Inner.LeafTables.{place_in}
use Rattle.ps_diagram.specs.Inner.Numbered.{AreOf}
use Rattle.ps_diagram.proofs.ClassesOfLetters.Numbering.{nodes_few, placed_all}
use Rattle.ps_diagram.proofs.store.Store.classes_of_leaves.Goals as goal

pub listed-requires : goal.listed-requires
listed-requires c = rw c.as_slice.ensures
    (nodes_few c.args.self.now c.args.leaves.now refl c.nodes_are_few.ensures c.requires.nodes)

pub returns-clause-classes : goal.returns-clause-classes
returns-clause-classes c =
    let leaves = c.args.leaves.now in
    let listed : AreOf leaves (length leaves) c.in_ok-list.list.items = rw c.as_slice.ensures at c.in_ok-list.ensures in
    record {
      listed = listed;
      places = place_in leaves;
      found = placed_all c.requires.leaves listed;
      mapped = c.in_ok-places.ensures.leaf;
    }
