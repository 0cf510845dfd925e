-- An admitted file has a deterministic automaton: its step from a state at a letter is the edge that is taken, or leads
-- to the sink if no edge is taken.
use Rattle.std.proofs.Common.{◌≡◌, ◌∙◌, ℕ, ◌^◌, ◌<◌, ◌⊎◌, inl, inr, Bool, length, Some, slice_get, rules}
use Rattle.std.proofs.Common.{refl, sym, suc, arith}
use Rattle.std.proofs.lemmas.Bool.{cases_order}
use Rattle.std.proofs.lemmas.Option.{slice_get_within}
use Rattle.ps_hoa.specs.Files.{EdgeData, RowData, FileData}
use Rattle.ps_hoa.specs.Edges.{row_of, is_marked, IsTaken, Goes}
use Rattle.ps_hoa.specs.Sound.{IsSoundFile}
use Rattle.ps_automaton.specs.Inner.Drafts.{TakenEdge}
use Rattle.ps_hoa.proofs.Soundness.SoundLaws.{row_of_state, sound_edge}
use Rattle.ps_text.proofs.Combinators.Simple.{same_some}
use Rattle.ps_automaton.specs.Answers.{AreAlike, IsDeterministic, IsAdmitted}
use Rattle.ps_automaton.specs.Autos.{Auto, IsAutoOf}
use Rattle.ps_automaton.specs.Chains.{Chain, chain_of, level}
use Rattle.ps_text.proofs.ParsedAnswers.Decisions.{Decided, decide_as, decide_below, decide_both}
use Rattle.ps_automaton.proofs.AdmittedFiles.Deciding.{some_or_none, open_or_not, alike_or_not, decide_some}
use Rattle.ps_automaton.proofs.EdgesAtLetters.TakenEdges.{clash_of, edge_of, goes_of}

taken_or_not : (file : FileData) (row : RowData) (letter : ℕ) → Decided (TakenEdge file row (length row.edges) letter)
taken_or_not file row letter = decide_as (λ h. grind (arith, slice_get_within row.edges h.0 h.1.0 h.1.1))
    (λ e. (e.place, (e.edge, e.at_place, e.taken)))
    (some_or_none (λ place. (edge : EdgeData) × (slice_get row.edges place ≡ Some edge) × IsTaken file row edge letter)
    (λ place. decide_some (slice_get row.edges place) (λ edge. IsTaken file row edge letter)
    (λ edge. grind (arith, open_or_not))) (length row.edges) (λ place h. slice_get_within row.edges place h.0 h.1))

module _ (file : FileData) (sound : IsSoundFile file) (chain : Chain) (deterministic : IsDeterministic file) where
  -- two edges of a state that are taken at the same letter have the same target and the same acceptance sets
  alike_before : (q : ℕ) {letter : ℕ} {row : RowData} → row_of file q ≡ Some row → letter < 2 ^ length file.names →
      (s t : TakenEdge file row (length row.edges) letter) → s.place < t.place → AreAlike row s.edge t.edge
  alike_before q {letter} {row} of_state small s t less = elim (alike_or_not row s.edge t.edge) [
    | inl alike ↦ alike
    | inr differ ↦ absurd (deterministic q s.place t.place (search
        (rules, clash_of, s.at_place, t.at_place, s.taken, t.taken)))
  ]

  all_alike : (q : ℕ) {letter : ℕ} {row : RowData} → row_of file q ≡ Some row → letter < 2 ^ length file.names →
      (s t : TakenEdge file row (length row.edges) letter) → AreAlike row s.edge t.edge
  all_alike q {letter} {row} of_state small s t = elim (cases_order s.place t.place) [
    | inl same ↦ (search (rules, same_some, s.edge, t.edge, s.at_place, row.edges, t.at_place))
    | inr (inl less) ↦ alike_before q of_state small s t less
    | inr (inr more) ↦ (let alike = alike_before q of_state small t s more in (sym alike.0, λ set. sym (alike.1 set)))
  ]

  goes_alike : {q letter to next : ℕ} {sets others : ℕ → Bool} → Goes file q letter sets to →
      Goes file q letter others next → (to ≡ next) × (level chain sets ≡ level chain others)
  goes_alike {q} g h =
      let s = edge_of g.of_state g in
      let t = edge_of g.of_state h in
      grind (arith, all_alike q g.of_state g.is_letter s.0 t.0)

  goes_or_not : (q letter : ℕ) → Decided ((sets : ℕ → Bool) × (next : ℕ) × Goes file q letter sets next)
  goes_or_not q letter = decide_as (λ h. (is_marked h.1.0 h.1.2.edge, h.1.2.edge.target, goes_of h.1.1 h.0 h.1.2))
      (λ g. (g.2.is_letter, (g.2.row, g.2.of_state, (edge_of g.2.of_state g.2).0)))
      (decide_both (decide_below (suc letter) (2 ^ length file.names)) (decide_some (row_of file q)
      (λ row. TakenEdge file row (length row.edges) letter) (λ row. taken_or_not file row letter)))

  -- the next state and the priority are those of an edge that is taken, or those of the step to the sink if no edge is
  -- taken
  abbrev IsStep : ℕ → ℕ → ℕ → ℕ → Type 0
  IsStep q letter next priority =
      ((sets : ℕ → Bool) × Goes file q letter sets next × (priority ≡ level chain sets)) ⊎
      (((sets : ℕ → Bool) (to : ℕ) → Goes file q letter sets to → ⊥) × (next ≡ file.states) × (priority ≡ 1))

  choice : (q letter : ℕ) → (next : ℕ) × (priority : ℕ) × IsStep q letter next priority
  choice q letter = elim (goes_or_not q letter) [
    | inl g ↦ (g.1, level chain g.0, inl (g.0, g.2, refl))
    | inr none ↦ (file.states, 1, inr ((λ sets to g. none (sets, to, g)), refl, refl))
  ]

  auto : Auto
  auto =
      record { start = file.start; next = λ q letter. (choice q letter).0; priority = λ q letter. (choice q letter).1 }

  target_within : {q letter next : ℕ} {sets : ℕ → Bool} → Goes file q letter sets next → next < file.states
  target_within {q} g = search (rules, sound_edge, row_of_state)

  -- the sink is not a state of the file, so no edge of the file leaves it
  from_sink : {letter : ℕ} {sets : ℕ → Bool} {to : ℕ} → Goes file file.states letter sets to → ⊥
  from_sink g = let r = row_of_state file sound file.states g.row g.of_state in omega arith

  is_auto : IsAutoOf file chain auto
  unfolding auto
  is_auto = record {
    start = refl;
    start_within = omega arith;
    within = λ q letter le lt. elim (choice q letter).2 [
      | inl e ↦ (let below = target_within e.1 in omega arith)
      | inr n ↦ omega (arith, n.1)
    ];
    steps = search (rules, choice);
    by_edge = λ q letter sets to g. elim (choice q letter).2 [
      | inl e ↦ (let alike = goes_alike e.1 g in (alike.0, e.2 ∙ alike.1))
      | inr n ↦ absurd (n.0 sets to g)
    ];
    sink_stays = λ letter lt. elim (choice file.states letter).2 [
      | inl e ↦ absurd (from_sink e.1)
      | inr n ↦ (n.1, n.2)
    ];
  }

pub auto_there : (file : FileData) → IsSoundFile file → IsAdmitted file →
    (chain : Chain) × (auto : Auto) × (chain_of file.condition ≡ Some chain) × IsAutoOf file chain auto
auto_there file sound admitted = (
  admitted.chain,
  auto file sound admitted.chain admitted.deterministic,
  admitted.is_chain,
  is_auto file sound admitted.chain admitted.deterministic,
)
