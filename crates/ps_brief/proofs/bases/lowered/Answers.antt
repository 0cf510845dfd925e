use Rattle.std.proofs.Common.{ℕ, ◌+◌, Option, IsSome, subst}
use Rattle.ps_brief.proofs.BasesOfLetters.Excluding.{alike_kept, alike_on, alike_without}
use Rattle.ps_brief.proofs.BasesOfLetters.Lowering.{leads_kept, low_kept, target_at}
use Rattle.ps_brief.proofs.ListedStates.KeptTargets.{fits_kept, leaf_kept}
use Rattle.ps_brief.proofs.bases.lowered.Goals as goal

pub without-requires-clause-target : goal.without-requires-clause-target
without-requires-clause-target c = target_at c.args.setting.now c.args.targets.now c.requires.targets c.args.place
    c.requires.place c.index-target.result.now c.index-target.ensures

pub path_to-requires : goal.path_to-requires
path_to-requires c = record { held = c.in_ok-lower.ensures.low.held }

pub returns-in-Some-clause-some : goal.returns-in-Some-clause-some
returns-in-Some-clause-some c = let least = rw c.in-Some.is at c.in_ok-found.ensures in (c.in-Some._least, least.here)

pub returns-in-None-clause-low : goal.returns-in-None-clause-low
returns-in-None-clause-low c = low_kept c.args.setting.now c.args.targets.now.state c.args.low
    c.in_ok-lower.ensures.keeps c.requires.low

pub returns-in-None-clause-some : goal.returns-in-None-clause-some
returns-in-None-clause-some c = (
  c.requires.some.0,
  leads_kept c.args.low 1 c.requires.some.0 c.in_ok-lower.ensures.keeps c.requires.low.held c.requires.some.1,
)

pub returns-in-Some-clause-within : goal.returns-in-Some-clause-within
returns-in-Some-clause-within c = c.in_ok-lower.ensures.without.still

pub returns-in-Some-clause-alike : goal.returns-in-Some-clause-alike
returns-in-Some-clause-alike c = alike_without c.args.setting.now c.args.targets.now c.requires.targets c.args.place
    c.requires.place c.index-target.result.now c.index-target.ensures c.args.low c.requires.alike c.in_ok-lower.lower
    c.in_ok-lower.ensures.without

pub returns-in-None-clause-within : goal.returns-in-None-clause-within
returns-in-None-clause-within c = λ x some. subst (λ (o : Option ℕ). IsSome o)
    (leaf_kept c.args.low x c.in_ok-lower.ensures.keeps c.requires.low.held) some

pub returns-in-None-clause-alike : goal.returns-in-None-clause-alike
returns-in-None-clause-alike c =
    let keeps = c.in_ok-lower.ensures.keeps in
    alike_kept c.args.setting.now c.args.targets.now.state c.args.targets.now.list.items (c.args.place + 1) c.args.low
    keeps c.requires.low.held
    (alike_on c.args.setting.now c.args.targets.now c.requires.targets c.args.place c.requires.place
    c.index-target.result.now c.index-target.ensures c.args.low c.requires.alike c.in_ok-lower.lower
    (fits_kept c.args.setting.now keeps c.requires.fits) c.requires.low c.in_ok-lower.ensures.stays
    (rw c.in-None.is at c.in_ok-found.ensures))
