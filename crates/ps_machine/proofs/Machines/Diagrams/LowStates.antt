-- The vertex of a memory state stands for a state of the automaton, or for the sink.
use Rattle.std.proofs.Common.{◌≡◌, ◌∙◌, ℕ, ◌+◌, ◌-◌, ◌≤◌, Bool, List, length, get_or, ap, sym, inl, inr, arith}
use Rattle.std.specs.List.{Contains}
use Rattle.std.proofs.lemmas.Bool.{cases_eq, cases_lt}
use Rattle.std.proofs.lemmas.List.{get_or_past}
use Rattle.ps_game.specs.Games.{HasEdge, ParityGame}
use Rattle.ps_certificate.specs.Certificates.{CertificateData}
use Rattle.ps_automaton.specs.Automata.{AutomatonData, IsWhole, pair_of, step_of}
use Rattle.ps_machine.specs.Extracting.{IsUsed}
use Rattle.ps_machine.specs.Inner.Drawing.{IsPlan}
use Rattle.ps_machine.specs.Numbering.{StandsAt}
use Rattle.ps_machine.specs.declared.key.Key.{Key}
use Rattle.ps_machine.specs.declared.key.Key.TheVariants.{First, Second}
use Rattle.ps_machine.specs.declared.key.Order.{Order}
use Rattle.ps_machine.proofs.AutomatonGames.DecidedMoves.{same_states}
use Rattle.ps_machine.proofs.Machines.Diagrams.DrawingLemmas.{class_at, kept_used, move_to, not_both, setting}
use Rattle.ps_machine.proofs.AutomatonGames.GameKeys.Standing.{same_some}

-- each step leads to a state of the automaton, or to the sink
step_low : (a : AutomatonData) (q letter : ℕ) → IsWhole a → (step_of a q letter).state ≤ a.states
step_low a q letter whole = grind (arith, pair_low)
  where
    pair_low : (leaf : ℕ) → (pair_of a leaf).state ≤ a.states
    pair_low leaf = elim (cases_lt leaf (length a.steps)) [
      | inl within ↦ whole.targets leaf within
      | inr past ↦ rw (get_or_past a.steps leaf (record { state = a.states; priority = 1 }) past) (omega arith)
    ]

module _ {order : Order} {a : AutomatonData} {keys : List Key} {game : ParityGame} {certificate : CertificateData}
    {is_first : Bool} {kept anchors : List ℕ} (plan : IsPlan order a keys game certificate is_first kept anchors)
  where
    state_behind : (w v : ℕ) {q p : ℕ} (k : Key) → IsWhole a → StandsAt keys w k → HasEdge game w v →
        StandsAt keys v (First q p) → q ≤ a.states
    state_behind w v {q} {p} (First r o) whole at edge there =
        let c = class_at (setting plan) w at edge in
        absurd (not_both (same_some (sym c.stands ∙ there)))
    state_behind w v {q} {p} (Second r x) whole at edge there =
        let m = move_to (setting plan) w at edge in
        rw (same_states (same_some (sym there ∙ m.goes.stands))) (step_low a r (x + m.letter) whole)

    -- a reachable vertex of the first player stands for a state of the automaton, or for the sink
    state_low : {v q p : ℕ} → IsWhole a → IsUsed game certificate v → StandsAt keys v (First q p) → q ≤ a.states
    state_low {v} {q} {p} whole used at = elim (cases_eq (length used.path) 1) [
      | inl one ↦
          let start : v ≡ 0 = sym used.ends ∙ ap (λ k. get_or used.path (k - 1) 0) one ∙ used.begins in
          let s = setting plan in
          let same : q ≡ a.start = same_states (same_some (sym (rw start at at) ∙ s.by_keys.begins)) in
          let low = whole.start in
          omega (arith, same, low)
      | inr more ↦
          let some = used.is_path.begins in
          let k = length used.path - 1 - 1 in
          let next : k + 1 ≡ length used.path - 1 = omega (arith, some, more) in
          let edge = used.is_path.edges k (omega (arith, some, more)) in
          let w = get_or used.path k 0 in
          let to : get_or used.path (k + 1) 0 ≡ v = ap (λ i. get_or used.path i 0) next ∙ used.ends in
          let s = setting plan in
          let vertex = s.by_keys.vertices w (used.is_path.vertices k (omega (arith, some, more))) in
          state_behind w v vertex.key whole vertex.stands (rw to at edge) at
    ]

    pub kept_low : {v q p : ℕ} → IsWhole a → Contains kept v → StandsAt keys v (First q p) → q ≤ a.states
    kept_low whole is_kept at = state_low whole (kept_used plan is_kept) at
