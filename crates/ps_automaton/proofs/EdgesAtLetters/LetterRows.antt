-- If the edges of a state have implicit labels, each edge is taken at exactly one letter.
use Rattle.std.proofs.Common.{◌≡◌, ℕ, ◌+◌, ◌%◌, ◌^◌, ◌<◌, List, [], ◌∷◌, ◌++◌, length, get_or, Some}
use Rattle.std.proofs.Common.{refl, ap, ◌∙◌, arith}
use Rattle.std.specs.List.{slice_get}
use Rattle.std.proofs.lemmas.Bool.{cases_lt}
use Rattle.std.proofs.lemmas.Option.{slice_get_within, slice_get-get_or}
use Rattle.std.proofs.Math.Nat.{mod-eq_of_lt}
use Rattle.ps_text.proofs.Combinators.Simple.{same_some}
use Rattle.ps_hoa.specs.Edges.{IsEnabled}
use Rattle.ps_hoa.specs.Files.{EdgeData, RowData, FileData, of_state, at_letter}
use Rattle.ps_hoa.specs.Sound.{IsSoundRow}
use Rattle.ps_hoa.proofs.Soundness.SoundLaws.{sound_edge}
use Rattle.ps_automaton.specs.Inner.Drafts.{AreJoined, AreTargets, IsByLetters, IsTargetAt}
use Rattle.ps_automaton.specs.Inner.Targets.{IsTargetOf}
use Rattle.ps_automaton.specs.declared.targets.Target.{Target}
use Rattle.ps_automaton.proofs.StepsByState.DistinctEntries.{at_end, at_left}
use Rattle.ps_automaton.proofs.EdgesAtLetters.Fitting.{by_letter}

-- ## Targets, one by one

-- the first `count` entries of `targets` are the targets of the first `count` edges
abbrev pub HaveTargets : RowData → ℕ → List Target → Type 0
HaveTargets row count targets =
    (k : ℕ) (edge : EdgeData) → k < count → slice_get row.edges k ≡ Some edge → IsTargetAt row edge targets k

pub targets_more : {row : RowData} (targets : List Target) {more : List Target} {count : ℕ} {edge : EdgeData}
    {target : Target} → length targets ≡ count → more ≡ targets ++ target ∷ [] → slice_get row.edges count ≡ Some edge →
    IsTargetOf row edge target → HaveTargets row count targets → HaveTargets row (count + 1) more
targets_more {row} targets {more} {count} {edge} {target} size is at is_target have k e within there =
    grind (arith, cases_lt, at_left, same_some, at_end)

-- the edge at an index
edge_at_place : (edges : List EdgeData) (place : ℕ) → place < length edges →
    (edge : EdgeData) × (slice_get edges place ≡ Some edge)
edge_at_place edges place within =
    let d : EdgeData = record { guard = of_state; target = 0; marks = [] } in
    (get_or edges place d, slice_get-get_or edges place d within)

-- each target leads to a state of the file
pub states_within : {file : FileData} {row : RowData} → IsSoundRow file row → {targets : List Target} →
    AreTargets row targets → (place : ℕ) (target : Target) → slice_get targets place ≡ Some target →
    target.state < file.states
states_within {file} {row} row_sound {targets} a place target e =
    let size = a.one_each in
    let low = slice_get_within targets place target e in
    let edge = edge_at_place row.edges place (omega (arith, low, size)) in
    grind (arith, same_some, sound_edge)

-- ## The row

module _ {file : FileData} {row : RowData} (row_sound : IsSoundRow file row) (by : IsByLetters file row) where
  guard_at : (place : ℕ) {edge : EdgeData} → slice_get row.edges place ≡ Some edge → edge.guard ≡ at_letter place
  guard_at place at = by_letter 0 row.edges by.0 place at ∙ ap at_letter (omega arith)

  letter_of_place : (place : ℕ) {letter : ℕ} {edge : EdgeData} → slice_get row.edges place ≡ Some edge →
      IsEnabled file.aliases row.label edge.guard letter → letter ≡ place
  letter_of_place place at open_at = rw (guard_at place at) at open_at

  open_at_place : (place : ℕ) {edge : EdgeData} → slice_get row.edges place ≡ Some edge →
      IsEnabled file.aliases row.label edge.guard place
  open_at_place place at = rw (guard_at place at) refl

  -- each index less than the number of edges has an edge
  edge_there : (place : ℕ) → place < length row.edges → (edge : EdgeData) × (slice_get row.edges place ≡ Some edge)
  edge_there place within =
      let d : EdgeData = record { guard = of_state; target = 0; marks = [] } in
      (get_or row.edges place d, slice_get-get_or row.edges place d within)

  pub joined_by_letters : {targets : List Target} → AreTargets row targets →
      AreJoined file row (length row.edges) targets (λ letter. Some (letter % 2 ^ length file.names))
  joined_by_letters {targets} a = record {
    there = grind (arith, letter_of_place, mod-eq_of_lt);
    from = λ letter place small _.
        let size = by.1 in
        let edge = edge_at_place row.edges letter (omega (arith, small, size)) in
        grind (arith, open_at_place);
    within = states_within row_sound a;
  }
