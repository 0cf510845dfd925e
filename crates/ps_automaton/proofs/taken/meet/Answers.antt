use Rattle.std.proofs.Common.{refl, rules}
use Rattle.ps_automaton.proofs.EdgesAtLetters.Meeting.{guarded_meet}
use Rattle.ps_automaton.proofs.taken.meet.Goals as goal
use Rattle.ps_diagram.proofs.NodeTables.KnownLemmas.{keeps_trans}

pub returns-in-Err-Clash-clause-keeps : goal.returns-in-Err-Clash-clause-keeps
returns-in-Err-Clash-clause-keeps c = search (rules, keeps_trans)

pub returns-in-Err-Clash-clause-meet : goal.returns-in-Err-Clash-clause-meet
returns-in-Err-Clash-clause-meet c =
    let told = rw c.in-Err-Clash.field-0-is at c.in-Err-Clash.ensures.clash in (
      (λ _. guarded_meet c.in_ok-one.one told.0 c.guard.ensures.keeps c.guard-2.ensures.keeps c.requires.one
          c.requires.other c.in_ok-zero.ensures.held c.in_ok-zero.ensures.leaf c.in_ok-one.ensures.leaf told.1
          told.2 told.3),
      (λ _. refl),
    )
