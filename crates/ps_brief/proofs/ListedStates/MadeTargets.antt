-- The target that is made of a leaf.
-- - `made_some`, `made_answered`: what finding its place requires
-- - `made_target`, `made_place`: it is a target, and its place is that of its least letters
use Rattle.std.specs.Prelude.{◌≡◌, ℕ, ◌^◌, ◌<◌, ◌≤◌, List, length, Option, IsSomeAnd, MatchOption}
use Rattle.std.proofs.Common.{ap, sym, ◌∙◌, subst, get_or}
use Rattle.ps_diagram.specs.Hidden.{HasNoLeafBehind, IsLeafBehind, IsProjection, one_for}
use Rattle.ps_diagram.specs.Letters.{IsLeastLetter}
use Rattle.ps_diagram.specs.Reached.{AreLeaves, LeadsToLeaf}
use Rattle.ps_diagram.specs.Table.{Table, IsNode, Keeps, leaf_of}
use Rattle.ps_automaton.specs.Automata.{node_of, pair_of}
use Rattle.ps_automaton.specs.declared.step.Step.{Step}
use Rattle.ps_brief.specs.Inner.Placing.{IsAnswered, IsLeastPair, IsPlaced, MakesStep}
use Rattle.ps_brief.specs.Settings.{Fits, board_in}
use Rattle.ps_brief.specs.Targets.{IsTarget}
use Rattle.ps_brief.specs.declared.setting.Setting.{Setting}
use Rattle.ps_brief.proofs.ListedStates.KeptTargets.{leaf_kept}
use Rattle.ps_brief.proofs.ListedStates.StepLeaves.{can_go, has_answer, leaf_behind, least_step}

projection_kept : {s t u : Table} (node mask made : ℕ) → IsProjection s t node mask made → Keeps t u →
    IsNode t made → IsProjection s u node mask made
projection_kept {s} node mask made projects keeps held = record {
  others = λ x y off. leaf_kept made x keeps held ∙ projects.others x y off ∙ sym (leaf_kept made y keeps held);
  leaf = λ x is_clear.
      subst (λ (o : Option ℕ). MatchOption o (HasNoLeafBehind s node mask x) (IsLeafBehind s node mask x))
      (sym (leaf_kept made x keeps held)) (projects.leaf x is_clear);
}

-- the leaf to which a letter leads is the index of a step
pub named_leaf : (setting : Setting) {s : Table} → Fits setting s → (q leaf z : ℕ) →
    q ≤ setting.automaton.now.states → MakesStep setting q leaf z → leaf < length setting.automaton.now.steps
named_leaf setting fits q leaf z in_states makes =
    subst (λ (o : Option ℕ). IsSomeAnd o (λ k. k < length setting.automaton.now.steps)) makes.leads
    (fits.fit.whole.leaves q z in_states)

-- each leaf of a state's diagram is the leaf of a step
pub leaf_makes : (setting : Setting) {s : Table} → Fits setting s → (q : ℕ) → q ≤ setting.automaton.now.states →
    (leaves : List (ℕ × ℕ)) → AreLeaves s (node_of setting.automaton.now q) leaves → (k : ℕ) → k < length leaves →
    MakesStep setting q (get_or leaves k (0, 0)).0 (get_or leaves k (0, 0)).1
leaf_makes setting {s} fits q in_states leaves found k within =
    let here : LeadsToLeaf s (node_of setting.automaton.now q) (get_or leaves k (0, 0)).0 (get_or leaves k (0, 0)).1 =
    (found.least k (0, 0) within).here in
    record {
      within = subst (λ (n : ℕ). (get_or leaves k (0, 0)).1 < 2 ^ n)
          (fits.fit.keeps.propositions ∙ fits.fit.whole.letters) here.0;
      leads = sym (leaf_kept (node_of setting.automaton.now q) (get_or leaves k (0, 0)).1 fits.fit.keeps
          (fits.fit.whole.held q in_states)) ∙ here.1;
    }

module _ (setting : Setting) {s t u : Table} (fits : Fits setting s) (q : ℕ)
    (in_states : q ≤ setting.automaton.now.states) (leaf z : ℕ) (makes : MakesStep setting q leaf z)
    (node : ℕ) (is_node : node ≡ node_of setting.automaton.now q) (step : Step)
    (is_step : step ≡ pair_of setting.automaton.now leaf) (making behind : ℕ) (first : Keeps s t)
    (second : Keeps t u) (making_held : IsNode t making)
    (selected : (x : ℕ) → leaf_of t making x ≡ one_for leaf (leaf_of s node x))
    (projects : IsProjection t u making setting.second behind) where
  named : leaf < length setting.automaton.now.steps
  named = named_leaf setting fits q leaf z in_states makes

  pair_is : pair_of setting.automaton.now leaf ≡ step
  pair_is = sym is_step

  selects : (x : ℕ) → leaf_of t making x ≡ one_for leaf (leaf_of s (node_of setting.automaton.now q) x)
  selects x = selected x ∙ ap (λ (n : ℕ). one_for leaf (leaf_of s n x)) is_node

  size : u.propositions ≡ (board_in setting).propositions
  size = second.propositions ∙ first.propositions ∙ fits.fit.keeps.propositions ∙ fits.fit.whole.letters

  still : (x : ℕ) → leaf_of u making x ≡ one_for leaf (leaf_of s (node_of setting.automaton.now q) x)
  still x = leaf_kept making x second making_held ∙ selects x

  pub made_some : (x : ℕ) × LeadsToLeaf u behind 1 x
  made_some =
      leaf_behind setting fits q in_states leaf named step pair_is making behind first selects projects size z makes

  pub made_answered : (x : ℕ) → IsLeastLetter (LeadsToLeaf u behind 1) x → IsAnswered (board_in setting) u making x
  made_answered x least = has_answer setting fits q in_states leaf named step pair_is making behind first selects
      projects x size least still

  pub made_place : (place : ℕ) → IsLeastPair (board_in setting) u making behind place → IsPlaced (board_in setting) q
      (record { leaf = leaf; state = step.state; priority = step.priority; behind = behind; place = place })
  made_place place pair = record {
    x = pair.x;
    y = pair.y;
    least = least_step setting fits q in_states leaf named step pair_is making behind first selects projects pair.x size
        pair.least still pair.y pair.answer;
    place = pair.is;
  }

  pub made_target : {v : Table} → Keeps u v → IsNode u behind → (place : ℕ) → IsTarget setting v q
      (record { leaf = leaf; state = step.state; priority = step.priority; behind = behind; place = place })
  made_target {v} third behind_held place =
      let now : IsProjection t v making setting.second behind =
      projection_kept making setting.second behind projects third behind_held in
      record {
        within = named;
        step = pair_is;
        held = third.held behind behind_held;
        others = now.others;
        is = λ x is_first.
            can_go setting fits q in_states leaf named step pair_is making behind first selects now x is_first;
      }
