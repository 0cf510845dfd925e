-- The places of listed keys.
-- - `index_stands`: the key of a step stands at the step's place
-- - `place_there`, `place_stands`: a search finds the step of a listed key, at the key's place
use Rattle.std.specs.Prelude.{◌≡◌, ℕ, ◌<◌, Bool, true, List, length, Some, position}
use Rattle.std.specs.Prelude.{option_map}
use Rattle.std.specs.List.{Contains, list_any}
use Rattle.std.proofs.Common.{ap, sym, ◌∙◌, subst, refl, arith, get_or}
use Rattle.std.proofs.lemmas.List.{get_or-map, get_or_default, length-map}
use Rattle.std.proofs.lemmas.List.Folds.{list_any_at}
use Rattle.std.proofs.lemmas.Option.{slice_get-map, slice_get_read}
use Rattle.ps_automaton.specs.declared.step.Step.{Step}
use Rattle.ps_machine.specs.Numbering.{StandsAt}
use Rattle.ps_machine.specs.declared.key.Key.TheVariants.{First}
use Rattle.ps_machine.proofs.Machines.Diagrams.DrawingLemmas.{at_position}
use Rattle.ps_basis.proofs.ArenaKeys.{from_map}
use Rattle.ps_brief.specs.Listings.{keys_of}
use Rattle.ps_brief.proofs.ListedStates.EnteredKeys.{key_of_step, same_step_key}

step_stands : (steps : List Step) (n : ℕ) (step : Step) → n < length steps → step ≡ get_or steps n step →
    StandsAt (keys_of steps) n (First step.state step.priority)
step_stands steps n step within is = slice_get_read (keys_of steps) (length (keys_of steps)) n (key_of_step step) refl
    (omega (arith, within, length-map steps key_of_step))
    (ap key_of_step is ∙ sym (get_or-map key_of_step steps n step (key_of_step step) within))

pub index_stands : (steps items : List Step) (n : ℕ) (d : Step) → items ≡ steps → n < length items →
    StandsAt (keys_of steps) n (First (get_or items n d).state (get_or items n d).priority)
index_stands steps items n d same within = subst (λ (xs : List Step).
    StandsAt (keys_of xs) n (First (get_or items n d).state (get_or items n d).priority)) same
    (step_stands items n (get_or items n d) within (sym (get_or_default items n (get_or items n d) d within)))

module _ (eq : Step → Step → Bool) (steps : List Step) (step : Step) where
  pub place_there : ((a : Step) → eq a a ≡ true) → Contains (keys_of steps) (First step.state step.priority) →
      list_any (eq step) steps ≡ true
  place_there itself inside =
      let (one, there, same) = from_map key_of_step steps step (key_of_step step) inside in
      let (k, within, at) = subst (λ (s : Step). Contains steps s) (sym (same_step_key step one same)) there in
      list_any_at (eq step) steps k step within (ap (eq step) at ∙ itself step)

  pub place_stands : ((a b : Step) → eq a b ≡ true → a ≡ b) → (i : ℕ) → position (eq step) steps ≡ Some i →
      StandsAt (keys_of steps) i (First step.state step.priority)
  place_stands sound i found =
      let (one, at, passes) = at_position (eq step) steps step found in
      slice_get-map key_of_step steps i ∙ ap (option_map key_of_step) at
      ∙ ap (λ (s : Step). Some (key_of_step s)) (sym (sound step one passes))
