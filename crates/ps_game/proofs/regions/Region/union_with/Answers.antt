use Rattle.std.proofs.Common.{rules}
use Rattle.std.specs.Prelude.{◌||◌}
use Rattle.std.specs.Vec.{with_items}
use Rattle.std.proofs.lemmas.List.{with_items_is}
use Rattle.ps_game.proofs.StoredGames.WordSets.{IsMade, same_words, union_made}
use Rattle.ps_game.proofs.regions.Region.union_with.Goals as goal
use Rattle.ps_game.proofs.regions.Region.union_with.Goals.{After-unite}

-- the words that `unite` computes represent the union of the two sets
made : (c : After-unite) →
    IsMade c.self.inside.places (with_items c.self.inside.words c.unite.new.words).items c.args.self.now
    c.args.other.now (λ a b. a || b)
made c = rw (with_items_is c.self.inside.words c.unite.new.words
    (search (rules, c.unite.auto.words, c.deref_mut.ensures.len))) (search (rules, union_made))

pub unite-requires : goal.unite-requires
unite-requires c = search (rules, same_words)

pub invariant_of-self : goal.invariant_of-self
invariant_of-self c = (made (goal.at.invariant_of-self c).After-unite).packed

pub returns-clause-places : goal.returns-clause-places
returns-clause-places c = (made (goal.at.returns-clause-places c).After-unite).as_many

pub returns-clause-union : goal.returns-clause-union
returns-clause-union c = (made (goal.at.returns-clause-union c).After-unite).rules
