use Rattle.std.proofs.Common.{ℕ, Option, IsSome, sym, subst, refl}
use Rattle.ps_diagram.proofs.NodeTables.Cells.{keeps_refl}
use Rattle.ps_machine.proofs.AutomatonGames.GameKeys.Exploring.{both_ok}
use Rattle.ps_brief.proofs.BasesOfLetters.CoveredLetters.{covered_more, covered_on}
use Rattle.ps_brief.proofs.BasesOfLetters.Lowering.{not_both, target_at}
use Rattle.ps_brief.proofs.bases.covering.Goals as goal

pub eval-requires : goal.eval-requires
eval-requires c =
    record {
      held = (target_at c.args.setting.now c.args.targets.now c.requires.targets c.args.place c.requires.place
          c.index-target.result.now c.index-target.ensures).held;
    }

pub within-requires-clause-behind : goal.within-requires-clause-behind
within-requires-clause-behind c = (target_at c.args.setting.now c.args.targets.now c.requires.targets c.args.place
    c.requires.place c.index-target.result.now c.index-target.ensures).held

pub within-requires-clause-covered : goal.within-requires-clause-covered
within-requires-clause-covered c = c.requires.covered.held

pub returns-in-Some-clause-covered : goal.returns-in-Some-clause-covered
returns-in-Some-clause-covered c = both_ok _ _ _ c.within.result c.within.ensures.held c.within.ensures.leaf
    (λ made held leaf. covered_more c.args.setting.now c.args.targets.now c.requires.targets c.args.place
    c.requires.place c.args.letter c.args.covered c.requires.letter c.requires.covered c.index-target.result.now
    c.index-target.ensures made held
    (subst (λ (o : Option ℕ). IsSome o) c.in-Some.ensures refl) leaf)

pub returns-in-None-clause-keeps : goal.returns-in-None-clause-keeps
returns-in-None-clause-keeps c = keeps_refl c.args.store.now

pub returns-in-None-clause-covered : goal.returns-in-None-clause-covered
returns-in-None-clause-covered c = covered_on c.args.setting.now c.args.targets.now c.requires.targets c.args.place
    c.requires.place c.args.letter c.args.covered c.requires.letter c.requires.covered c.index-target.result.now
    c.index-target.ensures (not_both _ (sym c.in-None.ensures)) (keeps_refl c.args.store.now)
