-- The memory states of the machine stand for the least places of the keys that the winner's moves can reach.
use Rattle.std.specs.Prelude.{◌≡◌, ℕ, ◌<◌, ◌≤◌, List, length, Some, slice_get}
use Rattle.std.specs.List.{All, Contains}
use Rattle.std.proofs.Common.{◌∙◌, subst, ap, inl, inr, arith, get_or}
use Rattle.std.proofs.lemmas.Bool.{cases_lt}
use Rattle.std.proofs.lemmas.List.{get_or_default}
use Rattle.std.proofs.lemmas.Option.{slice_get_within}
use Rattle.ps_machine.specs.Inner.Drawing.{anchor_of}
use Rattle.ps_machine.specs.Numbering.{StandsAt}
use Rattle.ps_machine.specs.declared.key.Key.TheVariants.{First}
use Rattle.ps_machine.proofs.Machines.KeptMemories.{anchor_shares, shares_anchor}
use Rattle.ps_basis.specs.Memories.{IsFirstReached}
use Rattle.ps_basis.proofs.ArenaKeys.{index_once}
use Rattle.ps_brief.specs.Inner.Drafts.{play_of}
use Rattle.ps_brief.specs.Inner.Reaching.{IsFound, IsReached, Reaches}
use Rattle.ps_brief.specs.Inner.Parts.{HasMemories}
use Rattle.ps_brief.specs.declared.drafts.Plan.{Plan}
use Rattle.ps_brief.specs.declared.memories.Memories.{Memories}
use Rattle.ps_brief.specs.declared.reach.Reached.{Reached}
use Rattle.ps_brief.proofs.DraftedMoves.Drafting.{some_same}
use Rattle.ps_brief.proofs.DrawnMachines.VisitedKeys.{found_at}
use Rattle.ps_diagram.specs.Table.{Table}

module _ (plan : Plan) {t : Table} (reached : Reached) (is : IsReached plan t reached) (memories : Memories)
    (m : HasMemories plan reached memories) where
  abbrev kept : List ℕ
  kept = memories.kept.items

  -- a key at a found place can be reached
  pub found_reaches : (v q p : ℕ) → Contains reached.places.keys v → StandsAt (play_of plan).keys v (First q p) →
      Reaches plan v q p
  found_reaches v q p (i, within, at) stands =
      found_at plan v q p (subst (λ (w : ℕ). IsFound plan w) at (is.each i v within)) stands

  kept_at : (memory : ℕ) → memory < length kept → IsFirstReached (play_of plan) plan.moves_first (get_or kept memory 0)
  kept_at memory within =
      let here = m.each memory within in
      record {
        state = here.state;
        priority = here.priority;
        here = found_reaches (get_or kept memory 0) here.state here.priority here.is_used here.stands;
        least = λ w r p less there shares.
            let h = m.found w r p (is.found w r p there) there.stands in
            let anchor : anchor_of plan.moves_first (get_or kept memory 0) here.state
            ≡ anchor_of plan.moves_first w r =
            shares_anchor plan.moves_first (get_or kept memory 0) here.state w r shares in
            let same : h.memory ≡ memory = index_once memories.anchors.keys (anchor_of plan.moves_first w r) h.memory
            memory m.different h.is_anchored (here.anchor ∙ ap (λ (x : ℕ). Some x) anchor) in
            let behind : get_or kept memory 0 ≤ w = subst (λ (i : ℕ). get_or kept i 0 ≤ w) same h.behind in
            omega (arith, less, behind);
      }

  pub all_kept : All (IsFirstReached (play_of plan) plan.moves_first) kept
  all_kept memory d within = subst (λ (v : ℕ). IsFirstReached (play_of plan) plan.moves_first v)
      (get_or_default kept memory 0 d within) (kept_at memory within)

  pub each_kept : (v : ℕ) → IsFirstReached (play_of plan) plan.moves_first v → Contains kept v
  each_kept v first =
      let h =
      m.found v first.state first.priority (is.found v first.state first.priority first.here) first.here.stands in
      let within : h.memory < length kept =
      omega (
        arith,
        slice_get_within memories.anchors.keys h.memory
            (anchor_of plan.moves_first v first.state) h.is_anchored,
        m.many,
      ) in
      let at = m.each h.memory within in
      let anchor : anchor_of plan.moves_first v first.state ≡ anchor_of plan.moves_first (get_or kept h.memory 0)
      at.state =
      some_same (slice_get memories.anchors.keys h.memory) (anchor_of plan.moves_first v first.state)
      (anchor_of plan.moves_first (get_or kept h.memory 0) at.state) h.is_anchored at.anchor in
      let same : get_or kept h.memory 0 ≡ v = elim (cases_lt (get_or kept h.memory 0) v) [
        | inl less ↦ absurd (first.least (get_or kept h.memory 0) at.state at.priority less
            (found_reaches (get_or kept h.memory 0) at.state at.priority at.is_used at.stands)
            (anchor_shares plan.moves_first v first.state (get_or kept h.memory 0) at.state anchor))
        | inr more ↦ omega (arith, more, h.behind)
      ] in
      (h.memory, within, get_or_default kept h.memory v 0 within ∙ same)
