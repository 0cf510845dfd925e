-- What the functions that make drafts need of a plan.
-- - `ready_kept`: a plan is ready for each store that keeps the nodes
-- - `joined_is`: the moves that are joined from two others
use Rattle.std.specs.Prelude.{◌≡◌, ℕ, Option}
use Rattle.std.proofs.Common.{◌∙◌, ap, ap₂}
use Rattle.ps_diagram.specs.Leaves.{chosen}
use Rattle.ps_diagram.specs.Table.{Table, IsNode, Keeps, leaf_of}
use Rattle.ps_diagram.proofs.TreeOperations.Hiding.{first_chosen}
use Rattle.ps_brief.specs.Inner.Drafts.{IsJoined, IsReady}
use Rattle.ps_brief.specs.declared.drafts.Moves.{Moves}
use Rattle.ps_brief.specs.declared.drafts.Plan.{Plan}
use Rattle.ps_brief.proofs.ListedStates.KeptTargets.{fits_kept, leaf_kept}

pub ready_kept : (plan : Plan) {s t : Table} → Keeps s t → IsReady plan s → IsReady plan t
ready_kept plan keeps ready = record {
  fits = fits_kept plan.setting.now keeps ready.fits;
  playable = ready.playable;
  states = ready.states;
  leaves = ready.leaves;
}

-- the moves that are joined from two others, with the steps first
pub joined_is : {s m t : Table} (first second : Moves) (steps making : ℕ) → Keeps s m → Keeps m t →
    IsNode s first.steps → IsNode s first.making → IsNode s second.making → IsNode m steps → IsNode t making →
    ((x : ℕ) → leaf_of m steps x
    ≡ chosen (leaf_of s first.steps x) (leaf_of s first.steps x) (leaf_of s second.steps x)) →
    ((x : ℕ) → leaf_of t making x
    ≡ chosen (leaf_of m first.steps x) (leaf_of m first.making x) (leaf_of m second.making x)) →
    IsJoined s t first second (record { steps = steps; making = making })
joined_is {s} {m} {t} first second steps making to_m to_t first_held one_held other_held steps_held making_held step
    make =
    record {
      steps_held = to_t.held steps steps_held;
      making_held = making_held;
      steps = λ x. leaf_kept steps x to_t steps_held ∙ step x
          ∙ first_chosen (leaf_of s first.steps x) (leaf_of s second.steps x);
      making = λ x. make x
          ∙ ap (λ (o : Option ℕ). chosen o (leaf_of m first.making x) (leaf_of m second.making x))
          (leaf_kept first.steps x to_m first_held)
          ∙ ap₂ (λ (o p : Option ℕ). chosen (leaf_of s first.steps x) o p) (leaf_kept first.making x to_m one_held)
          (leaf_kept second.making x to_m other_held);
    }
