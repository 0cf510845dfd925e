use Rattle.std.proofs.Common.{arith, ◌%◌, ◌^◌, ◌<◌, ℕ, length}
use Rattle.std.proofs.lemmas.Nat.{pow_pos}
use Rattle.ps_automaton.proofs.EdgesAtLetters.FirstEdges.{leaf_at}
use Rattle.ps_automaton.proofs.draft.node_of_edges.Goals as goal

pub returns-clause-leaf : goal.returns-clause-leaf
returns-clause-leaf c =
    let places = c.in_ok-places.places.items in
    let edges = c.args.edges.now in
    let n = c.args.pairs.now.store.propositions in
    let within : (letter : ℕ) → letter % 2 ^ n < length edges = grind (arith, pow_pos n) in (
      places,
      c.in_ok-places.ensures.places,
      λ letter. grind (arith, leaf_at places edges (letter % 2 ^ n) (within letter)),
    )
