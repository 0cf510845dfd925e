use Rattle.std.proofs.Common.{◌≡◌, Option, Some, None, refl, sym, true, ◌∙◌, ℕ}
use Rattle.std.specs.Prelude.{IsSome, is_some}
use Rattle.ps_automaton.specs.contracts.step.StepPartialEq.TheImpl as step_eq
use Rattle.ps_brief.proofs.ListedStates.ListedPlaces.{place_stands, place_there}
use Rattle.ps_brief.proofs.ListedStates.StepTests.{passes_itself, same_by_test}
use Rattle.ps_brief.proofs.listing.Listing.place.Goals as goal

some_if : (o : Option ℕ) → is_some o ≡ true → IsSome o
some_if None e = absurd (cc)
some_if (Some x) e = refl

pub unwrap-requires : goal.unwrap-requires
unwrap-requires c = some_if c.get_index_of.result (c.get_index_of.ensures.found
    ∙ place_there (step_eq.eq-value).it c.args.self.now.entered.keys c.args.step passes_itself c.requires)

pub returns : goal.returns
returns c = place_stands (step_eq.eq-value).it c.args.self.now.entered.keys c.args.step same_by_test c.unwrap.result
    (sym c.get_index_of.ensures.index ∙ c.unwrap.ensures)
