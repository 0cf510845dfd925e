use Rattle.std.proofs.Common.{◌&&◌, not, rules}
use Rattle.std.specs.Vec.{with_items}
use Rattle.std.proofs.lemmas.List.{with_items_is}
use Rattle.ps_game.proofs.StoredGames.WordSets.{IsMade, same_words, difference_made}
use Rattle.ps_game.proofs.regions.Region.difference_with.Goals as goal
use Rattle.ps_game.proofs.regions.Region.difference_with.Goals.{After-subtract}

-- the words that `subtract` computes represent the difference of the two sets
made : (c : After-subtract) →
    IsMade c.self.inside.places (with_items c.self.inside.words c.subtract.new.words).items c.args.self.now
    c.args.other.now (λ a b. a && not b)
made c = rw (with_items_is c.self.inside.words c.subtract.new.words
    (search (rules, c.subtract.auto.words, c.deref_mut.ensures.len)))
    (search (rules, difference_made, c.self.invariant, c.self.view_is, c.other.invariant, c.other.view_is, c.requires))

pub subtract-requires : goal.subtract-requires
subtract-requires c = search (rules, same_words)

pub invariant_of-self : goal.invariant_of-self
invariant_of-self c = (made (goal.at.invariant_of-self c).After-subtract).packed

pub returns-clause-places : goal.returns-clause-places
returns-clause-places c = (made (goal.at.returns-clause-places c).After-subtract).as_many

pub returns-clause-difference : goal.returns-clause-difference
returns-clause-difference c = (made (goal.at.returns-clause-difference c).After-subtract).rules
