use Rattle.std.proofs.Common.{◌≡◌, ℕ, not, List, Vec, ap, ◌∙◌, rules}
use Rattle.std.specs.Global.{Global}
use Rattle.ps_machine.specs.BuiltBoards.{board_of}
use Rattle.ps_machine.proofs.Machines.Assembling.{same_names, plays_own, reads_others}
use Rattle.ps_machine.proofs.Machines.Listing.{listed_with, listed_without}
use Rattle.ps_machine.proofs.extracting.roles.Goals as goal
use Rattle.ps_machine.proofs.extracting.roles.Goals.{then-is_first-moves_first+in_ok-push}
use Rattle.ps_machine.proofs.extracting.roles.Goals.{else-is_first-moves_first+in_ok-push-2}

items_of : Vec ℕ Global → List ℕ
items_of v = v.items

pub loop-proposition-preserved : goal.loop-proposition-preserved
unfolding items_of
loop-proposition-preserved c =
    let board = board_of c.args.order c.args.automaton.now in
    let m = c.args.moves_first in
    let p = c.loop-proposition.proposition in
    let before = c.loop-proposition.invariant in
    let first : c.is_first.result ≡ board.is_first p = search rules in
    elim c.if-is_first-moves_first.branch [
      | then-is_first-moves_first+in_ok-push w ↦
          (let own = plays_own m board p c.is_first.result first w.if-is_first-moves_first.true in
          record {
            read = listed_without own (ap items_of w.inputs-is) before.read;
            played = listed_with (ap not own) (ap items_of w.outputs-is ∙ w.in_ok-push.ensures.items) before.played;
          })
      | else-is_first-moves_first+in_ok-push-2 w ↦
          (let others = reads_others m board p c.is_first.result first w.if-is_first-moves_first.false in
          record {
            read = listed_with others (ap items_of w.inputs-is ∙ w.in_ok-push-2.ensures.items) before.read;
            played = listed_without (ap not others) (ap items_of w.outputs-is) before.played;
          })
    ]

pub returns-clause-names : goal.returns-clause-names
returns-clause-names c = search (rules, same_names)
