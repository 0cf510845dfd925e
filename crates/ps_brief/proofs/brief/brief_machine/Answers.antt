use Rattle.ps_machine.specs.BitMachines.{bit_behaviour}
use Rattle.ps_brief.proofs.DrawnMachines.BriefMachines.{both_ok, brief_is, certified_there}
use Rattle.ps_brief.proofs.brief.brief_machine.Goals as goal

pub machine_of_arena-requires-clause-certified : goal.machine_of_arena-requires-clause-certified
machine_of_arena-requires-clause-certified c = certified_there c.args.setting.now c.args.arena.now c.args.others.now
    c.args.certificate.now c.requires.arena c.requires.certificate_fits c.requires.certificate_valid
    c.requires.listing.fits.fit.whole

pub returns-clause-machine : goal.returns-clause-machine
returns-clause-machine c =
    let said = c.machine_of_arena.ensures in
    both_ok c.machine_of_arena.result _ _ _ (λ m by_rounds propositions. brief_is c.args.setting.now c.args.arena.now
    c.args.others.now c.args.certificate.now c.requires.arena c.requires.certificate_fits c.requires.certificate_valid
    c.least_counts_are_there.ensures c.args.listing.now c.requires.listing said.orders (bit_behaviour m) by_rounds
    propositions)
    said.machine said.propositions
