use Rattle.ps_brief.specs.Settings.{board_in}
use Rattle.ps_brief.proofs.ListedStates.LeastPlaces.{first_over, leads_there, least_pair}
use Rattle.ps_brief.proofs.steps.least_place.Goals as goal

pub behind-requires-clause-over : goal.behind-requires-clause-over
behind-requires-clause-over c =
    let setting = c.args.setting.now in
    let least = rw c.in-Some.is at c.in_ok-first.ensures in
    first_over (board_in setting) setting.first c.requires.fits.fit.is_mask c.in-Some.first
    (c.requires.answered c.in-Some.first least).first

pub unreachable-requires-in-None : goal.unreachable-requires-in-None
unreachable-requires-in-None c =
    let least = rw c.in-Some.is at c.in_ok-first.ensures in
    let none = rw c.in-None.is at c.in_ok-second.ensures in
    let found = c.requires.answered c.in-Some.first least in
    none found.letter (leads_there c.args.setting.now c.requires.fits c.behind.ensures.keeps c.args.making
    c.in-Some.first c.in_ok-answers.answers c.in_ok-answers.ensures.leaf found.letter found.answer)

pub returns-clause-place : goal.returns-clause-place
returns-clause-place c =
    let least = rw c.in-Some.is at c.in_ok-first.ensures in
    let second = rw c.in-Some-2.is at c.in_ok-second.ensures in
    least_pair c.args.setting.now c.requires.fits c.behind.ensures.keeps c.args.making c.in-Some.first
    c.in_ok-answers.answers c.in_ok-answers.ensures.leaf least second c.place_of.ensures
