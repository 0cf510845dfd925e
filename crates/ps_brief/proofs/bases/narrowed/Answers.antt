use Rattle.std.proofs.Common.{ℕ, Option, IsSome, sym, subst, refl}
use Rattle.std.proofs.lemmas.Result.{IfOk-weaker}
use Rattle.ps_diagram.proofs.NodeTables.Cells.{keeps_refl}
use Rattle.ps_brief.proofs.BasesOfLetters.Excluding.{below_on, below_without}
use Rattle.ps_brief.proofs.BasesOfLetters.Lowering.{target_at}
use Rattle.ps_brief.proofs.bases.narrowed.Goals as goal

pub eval-requires : goal.eval-requires
eval-requires c =
    record {
      held = (target_at c.args.setting.now c.args.targets.now c.requires.targets c.args.place c.requires.place
          c.index-target.result.now c.index-target.ensures).held;
    }

pub returns-in-Some-clause-keeps : goal.returns-in-Some-clause-keeps
returns-in-Some-clause-keeps c = keeps_refl c.args.store.now

pub without-requires-clause-target : goal.without-requires-clause-target
without-requires-clause-target c = target_at c.args.setting.now c.args.targets.now c.requires.targets c.args.place
    c.requires.place c.index-target.result.now c.index-target.ensures

pub returns-in-None-clause-letter : goal.returns-in-None-clause-letter
returns-in-None-clause-letter c = IfOk-weaker c.without.result _ _ (λ made stays.
    stays c.args.letter 1 (sym c.in-None.ensures) c.requires.letter) c.without.ensures.stays

pub returns-in-Some-clause-below : goal.returns-in-Some-clause-below
returns-in-Some-clause-below c = below_on c.args.setting.now c.args.targets.now c.requires.targets c.args.place
    c.requires.place c.index-target.result.now c.index-target.ensures c.args.letter c.args.low c.requires.below
    c.requires.first (subst (λ (o : Option ℕ). IsSome o) c.in-Some.ensures refl)

pub returns-in-None-clause-below : goal.returns-in-None-clause-below
returns-in-None-clause-below c = IfOk-weaker c.without.result _ _ (λ made is.
    below_without c.args.setting.now c.args.targets.now c.requires.targets c.args.place c.requires.place
    c.index-target.result.now c.index-target.ensures c.args.letter c.args.low c.requires.below made is)
    c.without.ensures.without
