use Rattle.ps_models.specs.Inner.Comparing.{ArePlacesUpTo}
use Rattle.ps_models.specs.Sentences.{named_formula}
use Rattle.ps_models.proofs.agreeing.places_of.Given as goal

abbrev pub invariant-loop-k : goal.invariant-loop-k
invariant-loop-k l = ArePlacesUpTo l.automaton.names l.automaton.controllable (named_formula l.sentence) l.places.items
    l.k
