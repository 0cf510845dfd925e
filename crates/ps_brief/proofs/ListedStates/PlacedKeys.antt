-- The places of keys in a listing.
use Rattle.std.specs.Prelude.{◌≡◌, ℕ, true, List, MatchOption, None, Option, Some, is_some, option_map, slice_get}
use Rattle.std.specs.List.{Contains, list_any, position}
use Rattle.std.proofs.Common.{sym, ◌∙◌, subst, ap, get_or}
use Rattle.std.proofs.lemmas.List.Folds.{list_any_at}
use Rattle.std.proofs.lemmas.Option.{get_or_from_slice_get, slice_get-map, slice_get_within}
use Rattle.ps_automaton.specs.contracts.step.StepPartialEq.TheImpl as step_eq
use Rattle.ps_automaton.specs.declared.step.Step.{Step}
use Rattle.ps_diagram.proofs.NodeTables.Cells.{true_is_not_false}
use Rattle.ps_machine.specs.Numbering.{StandsAt}
use Rattle.ps_machine.specs.declared.key.Key.TheVariants.{First}
use Rattle.ps_machine.proofs.AutomatonGames.BoardSteps.{same_pair}
use Rattle.ps_machine.proofs.Machines.Diagrams.DrawingLemmas.{at_position}
use Rattle.ps_basis.proofs.ArenaKeys.{from_map, stands_there}
use Rattle.ps_brief.specs.Listings.{keys_of}
use Rattle.ps_brief.proofs.DraftedMoves.Drafting.{first_priorities, first_states}
use Rattle.ps_brief.proofs.ListedStates.EnteredKeys.{key_of_step}
use Rattle.ps_brief.proofs.ListedStates.StepTests.{passes_itself, same_by_test}

pub listed_at : (steps : List Step) (i : ℕ) (step : Step) → slice_get steps i ≡ Some step →
    StandsAt (keys_of steps) i (First step.state step.priority)
listed_at steps i step at = slice_get-map key_of_step steps i ∙ ap (λ (o : Option Step). option_map key_of_step o) at

pub place_found : (steps : List Step) (o : Option ℕ) (s : Step) → o ≡ position ((step_eq.eq-value).it s) steps →
    is_some o ≡ list_any ((step_eq.eq-value).it s) steps →
    MatchOption o (Contains (keys_of steps) (First s.state s.priority) → ⊥)
    (λ i. StandsAt (keys_of steps) i (First s.state s.priority))
place_found steps None s e found = λ inside.
    let (x, listed, is_key) = from_map key_of_step steps s (First s.state s.priority) inside in
    let same : s ≡ x = same_pair (first_states is_key) (first_priorities is_key) in
    let (k, at) = stands_there steps x listed in
    let passes : (step_eq.eq-value).it s (get_or steps k s) ≡ true =
    subst (λ (y : Step). (step_eq.eq-value).it s y ≡ true) (same ∙ sym (get_or_from_slice_get steps k x s at))
    (passes_itself s) in
    let any : list_any ((step_eq.eq-value).it s) steps ≡ true =
    list_any_at ((step_eq.eq-value).it s) steps k s (slice_get_within steps k x at) passes in
    true_is_not_false (sym any ∙ sym found)
place_found steps (Some i) s e found =
    let (x, at, passes) = at_position ((step_eq.eq-value).it s) steps s (sym e) in
    let same : s ≡ x = same_by_test s x passes in
    subst (λ (y : Step). StandsAt (keys_of steps) i (First y.state y.priority)) (sym same) (listed_at steps i x at)
