use Rattle.std.proofs.Common.{◌∙◌}
use Rattle.ps_diagram.specs.Table.{tree_of}
use Rattle.ps_diagram.proofs.ClassesOfLetters.Classing.{classes_of}
use Rattle.ps_diagram.proofs.ClassesOfLetters.Gathering.{are_leaves}
use Rattle.ps_diagram.proofs.NodeTables.KnownLemmas.{keeps_trans}
use Rattle.ps_diagram.proofs.ClassesOfLetters.Numbering.{leaves_differ, leaves_held}
use Rattle.ps_diagram.proofs.store.Store.classes_in_copy.Goals as goal

pub classes_of_leaves-requires-clause-leaves : goal.classes_of_leaves-requires-clause-leaves
classes_of_leaves-requires-clause-leaves c = leaves_differ (are_leaves c.in_ok-leaves.ensures)

pub classes_of_leaves-requires-clause-nodes : goal.classes_of_leaves-requires-clause-nodes
classes_of_leaves-requires-clause-nodes c =
    leaves_held c.args.split (tree_of c.args.other.now c.args.node) (are_leaves c.in_ok-leaves.ensures)
    c.in_ok-divided.ensures.leaf

pub returns-clause-keeps : goal.returns-clause-keeps
returns-clause-keeps c = keeps_trans c.rests.ensures.keeps c.classes_of_leaves.ensures.keeps

pub returns-clause-classes : goal.returns-clause-classes
returns-clause-classes c =
    let of = c.in_ok-classes.ensures.classes in
    classes_of c.classes_of_leaves.ensures.keeps c.table_is_sound.ensures.sound c.in_ok-classes.ensures.sound
    (c.classes_of_leaves.ensures.keeps.propositions ∙ c.rests.ensures.keeps.propositions ∙ c.requires.copy.propositions)
    c.args.split c.requires.held c.in_ok-divided.ensures.held c.in_ok-classes.ensures.held c.in_ok-divided.ensures.leaf
    (are_leaves c.in_ok-leaves.ensures) of.listed of.found of.mapped
