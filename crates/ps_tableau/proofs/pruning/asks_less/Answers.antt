use Rattle.std.proofs.Common.{List, ℕ, subst}
use Rattle.ps_formula.specs.NormalForms.{normal_formula_at}
use Rattle.ps_tableau.proofs.CoversOfSets.JoinLemmas.{map_within}
use Rattle.ps_tableau.specs.Inner.SetSteps.{IsWithin}
use Rattle.ps_tableau.specs.Sets.{indices_in}
use Rattle.ps_tableau.proofs.pruning.asks_less.Goals as goal

pub returns-then-is_within : goal.returns-then-is_within
returns-then-is_within c other_too =
    let b = c.args.board.now in
    let edge = c.args.edge in
    let other = c.args.other in
    let f = normal_formula_at b.formulas in
    let next = subst (λ (sets : List (ℕ × ℕ)). IsWithin sets edge.next other.next) c.sets-sets.ensures
    (c.is_within.ensures c.if-is_within.true) in
    let postponed = subst (λ (sets : List (ℕ × ℕ)). IsWithin sets edge.postponed other.postponed) c.sets-sets.ensures
    (c.is_within-then-is_within.ensures other_too) in
    record {
      next = map_within f (indices_in b.sets edge.next) (indices_in b.sets other.next) next;
      postponed = map_within f (indices_in b.sets edge.postponed) (indices_in b.sets other.postponed) postponed;
    }
