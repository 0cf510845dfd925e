use Rattle.std.proofs.Common.{◌≡◌, ◌++◌, ◌∷◌, [], ℕ, arith, inr, get_or, ap, ◌∙◌, List}
use Rattle.ps_automaton.proofs.StepsByState.DistinctEntries.{at_end}
use Rattle.ps_automaton.proofs.StepsByState.StepTables.{table_pushed}
use Rattle.ps_automaton.proofs.step_list.StepList.place_of.Goals as goal

pub invariant_of-self-2 : goal.invariant_of-self-2
invariant_of-self-2 c =
    let t = c.args.step in
    let inside = c.self.inside in
    let pushed : c.push.new.self.items ≡ inside.list.items ++ t ∷ [] = grind arith in
    let chained : c.push-2.new.self.items ≡ inside.previous.items ++ c.count_at-count.result ∷ [] = grind arith in
    let count : c.count_at-count.result ≡ get_or inside.last.items t.state 0 =
    c.count_at-count.ensures ∙ ap (λ (xs : List ℕ). get_or xs t.state 0) c.deref.ensures.value in
    table_pushed _ t c.self.invariant c.in_ok-cover.ensures.same c.in_ok-cover.ensures.within
    (λ place h. c.in_default.ensures.none place (rw c.deref-2.ensures.value h)) count
    (omega (arith, c.len-place.ensures, inside.list.ok.0)) pushed chained

pub returns : goal.returns
returns c =
    let t = c.args.step in
    let pushed : c.push.new.self.items ≡ c.self.inside.list.items ++ t ∷ [] = grind arith in
    record {
      list = inr (rw (← c.self.view_is) pushed);
      stored = grind (arith, at_end);
    }
