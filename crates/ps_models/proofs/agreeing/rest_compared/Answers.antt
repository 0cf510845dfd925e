use Rattle.ps_models.specs.Sentences.{named_formula}
use Rattle.ps_models.proofs.ComparedAutomata.Halves.{built_places}
use Rattle.ps_models.proofs.ComparedAutomata.NameReadings.{places_propositions}
use Rattle.ps_models.proofs.agreeing.rest_compared.Goals as goal

pub returns-in-Some : goal.returns-in-Some
returns-in-Some c = λ file chain built none. rw c.in-Some.is at (c.in_ok-lasso.ensures file chain built)

pub returns-in-None : goal.returns-in-None
returns-in-None c = λ file chain built none.
    let other = rw c.in-None.is at (c.in_ok-lasso.ensures file chain built) in
    let are = built_places file chain c.args.plan.automaton.now (named_formula c.args.sentence) c.args.plan.places.now
    built c.requires.places in
    record {
      propositions = places_propositions are;
      agree = λ stem lap over. (none stem lap over, other stem lap over);
    }
