use Rattle.std.proofs.Common.{◌≡◌, ◌++◌, ◌∷◌, [], inl, arith, refl, sym, ◌∙◌}
use Rattle.ps_automaton.proofs.StepsByState.DistinctEntries.{at_end}
use Rattle.ps_automaton.proofs.StepsByState.PlaceTables.{distinct_by_table, table_push, table_same}
use Rattle.ps_automaton.proofs.places.Places.place_of.Goals as goal

pub returns-in-Some-clause-placed : goal.returns-in-Some-clause-placed
returns-in-Some-clause-placed c = record {
  list = inl refl;
  stored = rw c.self.view_is at (c.self.invariant.sound c.args.target c.in-Some.place (grind arith));
}

pub returns-in-Some-clause-distinct : goal.returns-in-Some-clause-distinct
returns-in-Some-clause-distinct c = rw c.self.view_is at (distinct_by_table c.self.invariant)

pub invariant_of-self-2 : goal.invariant_of-self-2
invariant_of-self-2 c =
    let t = c.args.target in
    let old = c.self.inside.list.items in
    let pushed : c.push.new.self.items ≡ old ++ t ∷ [] = grind arith in
    let puts = c.in_ok-insert.ensures.updates.0 in
    table_same pushed (table_push _ t c.self.invariant (omega (arith, c.len-place.ensures, c.self.inside.list.ok.0))
    (sym c.get.ensures.value ∙ sym c.copied.ensures ∙ c.in_default.is) (λ state sets. puts (state, sets)))

pub returns-clause-placed : goal.returns-clause-placed
returns-clause-placed c = grind (arith, at_end)

pub returns-clause-distinct : goal.returns-clause-distinct
returns-clause-distinct c = distinct_by_table (invariant_of-self-2 c)
