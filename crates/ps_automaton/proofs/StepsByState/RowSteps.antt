-- In the joined diagram of a state's edges, each leaf is the index of a target. The code replaces the index of each
-- target by the index of the step to the target.
use Rattle.std.proofs.Common.{◌≡◌, ℕ, suc, ◌^◌, ◌<◌, ◌⊎◌, inl, inr, Bool, List, [], ◌∷◌, length, get_or, Option, rules}
use Rattle.std.proofs.Common.{Some, None, refl, sym, ap, subst, ◌∙◌, arith}
use Rattle.std.specs.List.{slice_get}
use Rattle.std.specs.Option.{option_map, unwrap_or, IsSomeAnd, IfSome}
use Rattle.std.specs.Prelude.{slice_index}
use Rattle.std.proofs.lemmas.Bool.{cases_lt}
use Rattle.std.proofs.lemmas.Option.{slice_get_within, slice_get-get_or}
use Rattle.std.proofs.lemmas.List.{get_or_past}
use Rattle.ps_text.proofs.Combinators.Simple.{same_some}
use Rattle.ps_diagram.specs.Table.{Table, IsNode, leaf_of}
use Rattle.ps_hoa.specs.Edges.{Goes, is_marked, row_of}
use Rattle.ps_hoa.specs.Files.{RowData, FileData}
use Rattle.ps_hoa.specs.Sound.{IsSoundFile, IsSoundRow}
use Rattle.ps_automaton.specs.Answers.{AreClashing}
use Rattle.ps_automaton.specs.Chains.{Chain, ChainLink, level, level_by}
use Rattle.ps_automaton.specs.Inner.Drafts.{AreJoined, ArePlaces, AreSteps, IsStepsOf, IsTargetAt, IsUnion, Moves}
use Rattle.ps_automaton.specs.Inner.Drafts.{Names}
use Rattle.ps_automaton.specs.Inner.Drafts.{Stops, TakenEdge, step_of_target}
use Rattle.ps_automaton.specs.Inner.Numbering.{AreSetsBelow}
use Rattle.ps_automaton.specs.declared.step.Step.{Step}
use Rattle.ps_automaton.specs.declared.targets.Target.{Target}
use Rattle.ps_automaton.proofs.EdgesAtLetters.TakenEdges.{edge_of, goes_of}
use Rattle.ps_automaton.proofs.EdgesAtLetters.EdgeUnions.{at_leaf, union_clear}

-- if all sets in a chain's links have numbers less than 64, the priority of an edge depends only on those of its sets
-- whose numbers are less than 64
level_by_same : (base : Bool) (links : List ChainLink) (f g : ℕ → Bool) → AreSetsBelow 64 links →
    ((set : ℕ) → set < 64 → f set ≡ g set) → level_by base links f ≡ level_by base links g
level_by_same base [] f g few same = refl
level_by_same base (link ∷ links) f g few same = cc (
  same link.colour (few 0 link (omega arith)),
  level_by_same base links f g (λ k d l. few (suc k) d (omega arith)) same,
)

-- each leaf of the joined diagram of a state's edges is the index of a target
pub leaf_within : {file : FileData} {row : RowData} {count : ℕ} {targets : List Target} {t : Table} {node : ℕ} →
    IsUnion file row count targets t node → (letter : ℕ) → letter < 2 ^ length file.names →
    IfSome (leaf_of t node letter) (λ k. k < length targets)
leaf_within {row} {targets} {t} {node} union letter small = by_leaf (leaf_of t node letter) refl
  where
    by_leaf : (o : Option ℕ) → leaf_of t node letter ≡ o → IfSome o (λ k. k < length targets)
    by_leaf None e = tt
    by_leaf (Some k) e =
        let there : IsTargetAt row (union.joined.from letter k small e).edge targets k = at_leaf
        (IsTargetAt row (union.joined.from letter k small e).edge targets) (leaf_of t node letter) e (grind arith) in
        slice_get_within targets k there.0 there.1

-- the joined diagram of all edges of a state: its leaf at a letter is the index of the taken edge's target, and it has
-- no leaf if no edge is taken
module _ {file : FileData} (sound : IsSoundFile file) {row : RowData} (row_sound : IsSoundRow file row) {chain : Chain}
    (few : AreSetsBelow 64 chain.links) {targets : List Target} {place_at : ℕ → Option ℕ}
    (joined : AreJoined file row (length row.edges) targets place_at) {steps : List Step}
    (all_steps : AreSteps file.states steps) {places : List ℕ} (are_places : ArePlaces chain targets steps places) where
  -- the index of the step for a leaf of the joined diagram; without a leaf, the index 0 of the step to the sink
  abbrev pub made_of : Option ℕ → ℕ
  made_of o = unwrap_or (option_map (λ k. slice_index places k) o) 0

  sink_within : 0 < length steps
  sink_within = slice_get_within steps 0 (record { state = file.states; priority = 1 }) all_steps.sink

  place_within : (k : ℕ) → get_or places k 0 < length steps
  place_within k = elim (cases_lt k (length places)) [
    | inl low ↦ (
        let d : Target = record { state = 0; sets = 0 } in
        let at : slice_get places k ≡ Some (get_or places k 0) = slice_get-get_or places k 0 low in
        let size = are_places.one_each in
        let target : slice_get targets k ≡ Some (get_or targets k d) = search (rules, slice_get-get_or) in
        slice_get_within steps (get_or places k 0) (step_of_target chain (get_or targets k d)) (grind arith))
    | inr high ↦ (search (rules, get_or_past, sink_within))
  ]

  pub made_within : (o : Option ℕ) → made_of o < length steps
  made_within o = search (rules, sink_within, place_within)

  -- the step of an edge that is taken has the edge's target, and the priority that the chain gives to the edge's sets
  edge_step : {letter : ℕ} (e : TakenEdge file row (length row.edges) letter) (o : Option ℕ) →
      IsSomeAnd o (IsTargetAt row e.edge targets) → (sets : ℕ → Bool) →
      ((set : ℕ) → sets set ≡ is_marked row e.edge set) →
      slice_get steps (made_of o) ≡ Some (record { state = e.edge.target; priority = level chain sets })
  edge_step e None h sets marked = absurd h
  edge_step e (Some k) h sets marked =
      let within : k < length targets = slice_get_within targets k h.0 h.1 in
      let size = are_places.one_each in
      let at : slice_get places k ≡ Some (get_or places k 0) = search (rules, slice_get-get_or) in
      let named = are_places.each k (get_or places k 0) h.0 h.1 at in
      grind (arith, level_by_same)

  module _ (q : ℕ) (of_state : row_of file q ≡ Some row) (after : Table) {made : ℕ} (held : IsNode after made)
      (leaf : (letter : ℕ) → leaf_of after made letter ≡ Some (made_of (place_at letter))) where
    names_at : (letter : ℕ) {step : Step} → slice_get steps (made_of (place_at letter)) ≡ Some step →
        Names steps (leaf_of after made letter) step
    names_at letter e = rw (leaf letter) e

    by_edge_of : (letter : ℕ) (sets : ℕ → Bool) (next : ℕ) → Goes file q letter sets next →
        Names steps (leaf_of after made letter) (record { state = next; priority = level chain sets })
    by_edge_of letter sets next g =
        let e = edge_of of_state g in
        grind (arith, edge_step e.0 (place_at letter) (joined.there letter g.is_letter e.0) sets e.1)

    moves_or_stops : (letter : ℕ) → letter < 2 ^ length file.names →
        Moves file chain q letter steps (leaf_of after made letter) ⊎
        Stops file q letter steps (leaf_of after made letter)
    moves_or_stops letter small = by_leaf (place_at letter) refl
      where
        by_leaf : (o : Option ℕ) → place_at letter ≡ o → Moves file chain q letter steps (leaf_of after made letter) ⊎
            Stops file q letter steps (leaf_of after made letter)
        by_leaf None e = inr (record {
          none = λ sets next g.
              let taken = edge_of of_state g in
              rw e at (joined.there letter small taken.0);
          named = names_at letter (ap (λ o. slice_get steps (made_of o)) e ∙ all_steps.sink);
        })
        by_leaf (Some k) e =
            let taken = joined.from letter k small e in
            let goes = goes_of of_state small taken in
            grind (arith, by_edge_of letter (is_marked row taken.edge) taken.edge.target goes)

    pub steps_of_row : IsStepsOf file chain q steps after made
    steps_of_row = record {
      held = held;
      leaves = λ letter. rw (leaf letter) (made_within (place_at letter));
      steps_of = moves_or_stops;
      by_edge = by_edge_of;
      clear = λ first second k.
          let same : k.row ≡ row = same_some k.row row (sym k.of_state ∙ of_state) in
          let clashing = subst (λ r. AreClashing file r first second) same k.clashing in
          search (rules, union_clear, slice_get_within);
    }
