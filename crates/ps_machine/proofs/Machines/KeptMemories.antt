-- Each reachable vertex shares its memory state with the vertex that the machine keeps for that memory state.
use Rattle.std.proofs.Common.{◌≡◌, ◌≢◌, inl, inr, ℕ, ◌<◌, ◌≤◌, Bool, List, length, get_or, Some, ap, ◌∙◌, arith, rules}
use Rattle.std.specs.Prelude.{slice_get}
use Rattle.std.specs.List.{All, AllPairs, Contains}
use Rattle.std.proofs.lemmas.Bool.{cases_lt}
use Rattle.std.proofs.lemmas.List.{get_or_default}
use Rattle.std.proofs.lemmas.Option.{slice_get_within, slice_get-get_or}
use Rattle.ps_diagram.proofs.NodeTables.KnownLemmas.{some_nat}
use Rattle.ps_game.specs.Games.{ParityGame}
use Rattle.ps_certificate.specs.Certificates.{CertificateData}
use Rattle.ps_machine.specs.Inner.Drawing.{AreUsed, AreMemories, anchor_of}
use Rattle.ps_machine.specs.Extracting.{IsRepresentative, Shares, StandsFor}
use Rattle.ps_machine.specs.Numbering.{StandsAt}
use Rattle.ps_machine.specs.declared.key.Key.{Key}
use Rattle.ps_machine.specs.declared.key.Key.TheVariants.{First}
use Rattle.ps_machine.proofs.Machines.Diagrams.DrawingLemmas.{stands_for}
use Rattle.ps_machine.proofs.Lassos.Rounds.{one_place}

-- If the machine's player moves first, only equal vertices share a memory state; if the player moves second, exactly
-- the vertices with the same automaton state do.
pub shares_anchor : (is_first : Bool) (v q w r : ℕ) → Shares is_first v q w r →
    anchor_of is_first v q ≡ anchor_of is_first w r
shares_anchor is_first v q w r h = search rules

pub anchor_shares : (is_first : Bool) (v q w r : ℕ) → anchor_of is_first v q ≡ anchor_of is_first w r →
    Shares is_first v q w r
anchor_shares is_first v q w r h = search rules

module _ {is_first : Bool} {keys : List Key} {used kept anchors : List ℕ}
    (m : AreMemories is_first keys used kept anchors)
  where
    -- different memory states have different anchors (an anchor is what a memory state remembers)
    one_memory : {i j x : ℕ} → slice_get anchors i ≡ Some x → slice_get anchors j ≡ Some x → i ≡ j
    one_memory {i} {j} at there = one_place anchors m.different i j at there

    -- each reachable vertex at which the first player moves has a memory state
    pub memory_of : {w r : ℕ} (p : ℕ) → AllPairs (λ x y. x ≢ y) keys → Contains used w → StandsAt keys w (First r p) →
        (memory : ℕ) × (memory < length kept) × StandsFor is_first keys kept memory w r
    memory_of {w} {r} p differ is_used stands =
        let h = m.found w r p is_used stands in grind (
          arith,
          slice_get_within anchors h.memory (anchor_of is_first w r) h.is_anchored,
          stands_for w p differ m stands h.is_anchored stands,
        )

    -- the vertex that is kept for memory state 0 is vertex 0
    pub first_kept : (p q : ℕ) → StandsAt keys 0 (First q p) → Contains used 0 → slice_get kept 0 ≡ Some 0
    first_kept p q stands is_used =
        let h = m.found 0 q p is_used stands in
        let within : h.memory < length kept =
        omega (arith, slice_get_within anchors h.memory (anchor_of is_first 0 q) h.is_anchored, m.many) in
        let least : get_or kept 0 0 ≡ 0 = search (rules, cases_lt) in
        slice_get-get_or kept 0 0 (omega arith) ∙ ap (λ n. Some n) least

    pub some_kept : (p q : ℕ) → StandsAt keys 0 (First q p) → Contains used 0 → 0 < length kept
    some_kept p q stands is_used = slice_get_within kept 0 0 (first_kept p q stands is_used)

    module _ {game : ParityGame} {certificate : CertificateData} (are_used : AreUsed game certificate used) where
      -- of the reachable vertices that share a memory state, the machine keeps the smallest
      kept_at : (memory : ℕ) → memory < length kept →
          IsRepresentative is_first keys game certificate (get_or kept memory 0)
      kept_at memory within =
          let here = m.each memory within in
          record {
            state = here.state;
            priority = here.priority;
            here = record { used = (are_used (get_or kept memory 0)).0 here.is_used; stands = here.stands };
            least = λ w r p less there shares. (let h = m.found w r p ((are_used w).1 there.used) there.stands in
                let same : h.memory ≡ memory = search (rules, one_memory, shares_anchor) in
                let behind : get_or kept memory 0 ≤ w = rw same at h.behind in
                omega arith);
          }

      pub all_kept : All (IsRepresentative is_first keys game certificate) kept
      all_kept memory d within = rw (get_or_default kept memory 0 d within) at (kept_at memory within)

      -- if v is the smallest of the reachable vertices that share a memory state, v is one of the vertices that the
      -- machine keeps
      pub each_kept : (v : ℕ) → IsRepresentative is_first keys game certificate v → Contains kept v
      each_kept v k =
          let h = m.found v k.state k.priority ((are_used v).1 k.here.used) k.here.stands in
          let within : h.memory < length kept = grind (arith, slice_get_within) in
          let at = m.each h.memory within in
          let same : anchor_of is_first v k.state ≡ anchor_of is_first (get_or kept h.memory 0) at.state =
          search (rules, some_nat) in
          let is : get_or kept h.memory 0 ≡ v = elim (cases_lt (get_or kept h.memory 0) v) [
            | inl less ↦ absurd (k.least (get_or kept h.memory 0) at.state at.priority less (grind arith)
                (anchor_shares is_first v k.state (get_or kept h.memory 0) at.state same))
            | inr not_less ↦ omega (arith, not_less, h.behind)
          ] in
          (h.memory, within, get_or_default kept h.memory v 0 within ∙ is)
