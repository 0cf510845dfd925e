use Rattle.std.proofs.Common.{◌≡◌, ◌≢◌, Some, rules}
use Rattle.std.proofs.lemmas.Iterator.{YieldsList-from_slice, first_from_find}
use Rattle.ps_diagram.specs.declared.classes.Class.{Class}
use Rattle.ps_machine.proofs.Machines.Diagrams.ClassRests.{any_class}
use Rattle.ps_machine.proofs.drawing.rest_of.Goals as goal

pub returns : goal.returns
returns c =
    let found = first_from_find c.find.new.self _ (Some c.in-Some.class)
    (λ (class : Class). class.letter ≡ c.args.letter) (λ class. class.letter ≢ c.args.letter) c.in-Some.ensures.ran
    (YieldsList-from_slice c.args.classes.now c.iter.ensures.rest) (λ x q k. search rules) (λ x q k. search rules) in
    any_class c.args.classes.now found.0 found.1 found.2 found.3
