-- Nodes keep their leaves when a store gets more nodes, so what is known of targets stays known.
use Rattle.std.specs.Prelude.{◌≡◌, ◌↔◌, ℕ, Option, IsSome}
use Rattle.std.proofs.Common.{ap, sym, ◌∙◌, subst}
use Rattle.ps_diagram.specs.Letters.{assignment}
use Rattle.ps_diagram.specs.Table.{Table, IsNode, Keeps, leaf_of}
use Rattle.ps_diagram.specs.Tree.{Tree, leaf_at}
use Rattle.ps_diagram.proofs.NodeTables.KnownLemmas.{keeps_trans}
use Rattle.ps_basis.specs.Bases.{CanGoTo}
use Rattle.ps_brief.specs.Settings.{Fits, board_in}
use Rattle.ps_brief.specs.Targets.{AreTargetsOf, IsTarget}
use Rattle.ps_brief.specs.declared.setting.Setting.{Setting}
use Rattle.ps_brief.specs.declared.steps.Target.{Target}
use Rattle.ps_brief.specs.declared.steps.Targets.{Targets}

pub leaf_kept : {s t : Table} (node x : ℕ) → Keeps s t → IsNode s node → leaf_of t node x ≡ leaf_of s node x
leaf_kept node x keeps held = ap (λ (tree : Tree). leaf_at tree (assignment x)) (keeps.same node held)

pub fits_kept : (setting : Setting) {s t : Table} → Keeps s t → Fits setting s → Fits setting t
fits_kept setting keeps fits = record {
  fit = record {
    whole = fits.fit.whole;
    sound = fits.fit.sound;
    keeps = keeps_trans fits.fit.keeps keeps;
    is_mask = fits.fit.is_mask;
  };
  second = fits.second;
}

pub target_kept : (setting : Setting) {s t : Table} (q : ℕ) {target : Target} → Keeps s t →
    IsTarget setting s q target → IsTarget setting t q target
target_kept setting q {target} keeps is = record {
  within = is.within;
  step = is.step;
  held = keeps.held target.behind is.held;
  others = λ u v off. leaf_kept target.behind u keeps is.held ∙ is.others u v off
      ∙ sym (leaf_kept target.behind v keeps is.held);
  is = λ x first.
      subst (λ (leaf : Option ℕ). IsSome leaf ↔ CanGoTo (board_in setting) q x target.state target.priority)
      (sym (leaf_kept target.behind x keeps is.held)) (is.is x first);
}

pub targets_kept : (setting : Setting) {s t : Table} {targets : Targets} → Keeps s t →
    AreTargetsOf setting s targets → AreTargetsOf setting t targets
targets_kept setting {targets} keeps are = record {
  state = are.state;
  each = λ k d within. target_kept setting targets.state keeps (are.each k d within);
  listed = are.listed;
}
