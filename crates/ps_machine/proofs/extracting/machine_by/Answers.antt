use Rattle.std.proofs.Common.{rules, arith, refl, ◌∙◌}
use Rattle.ps_machine.proofs.Machines.Extracted.{made, some_vertices}
use Rattle.ps_machine.proofs.Lassos.LassosAreWon.{each_lasso_won}
use Rattle.ps_machine.proofs.Uniqueness.OneGame.{one_game_of}
use Rattle.ps_machine.proofs.extracting.machine_by.Goals as goal

pub winner-requires : goal.winner-requires
winner-requires c = omega (arith, some_vertices c.requires.plan.is_game, c.requires.plan.fits.entry_each)

pub of_number-player-requires : goal.of_number-player-requires
of_number-player-requires c =
    rw c.winner.ensures (c.requires.plan.fits.winners 0 (some_vertices c.requires.plan.is_game))

pub new-requires : goal.new-requires
new-requires c =
    let said = c.in_ok-propositions.ensures in
    let m = made c.requires.plan (c.of_number-player.ensures ∙ c.winner.ensures) c.in_ok-propositions.propositions
    c.in_ok-diagrams.diagrams said.few said.sound said.names said.roles
    c.in_ok-diagrams.ensures.letters c.in_ok-diagrams.ensures.drawn refl in
    m.is_machine

pub returns-clause-machine : goal.returns-clause-machine
returns-clause-machine c game is =
    let said = c.in_ok-propositions.ensures in
    let m = made c.requires.plan (c.of_number-player.ensures ∙ c.winner.ensures) c.in_ok-propositions.propositions
    c.in_ok-diagrams.diagrams said.few said.sound said.names said.roles c.in_ok-diagrams.ensures.letters
    c.in_ok-diagrams.ensures.drawn c.new.ensures in
    rw (one_game_of _ _ _ _ _ _ c.requires.plan.is_game is).1 at m.of

pub returns-clause-won : goal.returns-clause-won
returns-clause-won c file chain built =
    let said = c.in_ok-propositions.ensures in
    let m = made c.requires.plan (c.of_number-player.ensures ∙ c.winner.ensures) c.in_ok-propositions.propositions
    c.in_ok-diagrams.diagrams said.few said.sound said.names said.roles c.in_ok-diagrams.ensures.letters
    c.in_ok-diagrams.ensures.drawn c.new.ensures in
    search (rules, each_lasso_won)
