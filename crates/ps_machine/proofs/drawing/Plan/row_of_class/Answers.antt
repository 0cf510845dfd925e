use Rattle.ps_machine.proofs.AutomatonGames.BoardMoves.{move_named}
use Rattle.ps_machine.proofs.Machines.Diagrams.SecondDrawing.{leaf_there, answered}
use Rattle.ps_machine.proofs.drawing.Plan.row_of_class.Goals as goal

pub letter_to-requires-clause-named : goal.letter_to-requires-clause-named
letter_to-requires-clause-named c =
    let are = rw (← c.deref.ensures.value) at c.in_ok-leaves.ensures in
    move_named c.requires.rest.1 c.requires.rest.2 are

pub letter_to-requires-clause-there : goal.letter_to-requires-clause-there
letter_to-requires-clause-there c =
    let are = rw (← c.deref.ensures.value) at c.in_ok-leaves.ensures in
    leaf_there c.reply-next.ensures.reply c.requires.rest.1 c.requires.rest.2 are

pub returns : goal.returns
returns c =
    let are = rw (← c.deref.ensures.value) at c.in_ok-leaves.ensures in
    answered c.reply-next.ensures.reply c.requires.rest.1 c.requires.rest.2 are c.letter_to.result
    c.memory_at.result c.requires.ready.class c.letter_to.ensures
    (λ v at. rw c.requires.ready.turn at (c.memory_at.ensures.stands v at))
