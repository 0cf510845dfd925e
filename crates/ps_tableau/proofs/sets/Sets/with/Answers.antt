use Rattle.std.proofs.Common.{◌≡◌, ◌≤◌, ◌&&◌, ℕ, length, true, nat_eq, rules}
use Rattle.std.proofs.lemmas.Bool.{eqb-true}
use Rattle.ps_diagram.proofs.NodeTables.Keys.{and_both}
use Rattle.ps_tableau.proofs.SetLemmas.{IsWithPair, fails_sets, set_with, with_pair}
use Rattle.ps_tableau.proofs.sets.Sets.with.Goals as goal
use Rattle.ps_tableau.proofs.sets.Sets.with.Goals.{After-keys_are_few}

same_pair : (x y : ℕ × ℕ) → (nat_eq x.0 y.0 && nat_eq x.1 y.1) ≡ true → x ≡ y
same_pair (x, y) (a, b) e = search (rules, and_both, eqb-true)

added : (c : After-keys_are_few) →
    IsWithPair c.args.self.now (c.args.index, c.args.rest) c.place_of.new.self c.in_ok-place.place
added c =
    let below : c.args.rest ≤ length c.self.inside.pairs = rw c.self.view_is c.requires in
    rw (← c.self.view_is) (with_pair _ same_pair c.self.invariant below c.in_ok-place.ensures.0)

pub returns-in_err-add : goal.returns-in_err-add
returns-in_err-add c =
    let is = added (goal.at.returns-in_err-add c).After-keys_are_few in
    fails_sets _ c.from_residual-in_err-add.result is.extends is.sets c.from_residual-in_err-add.ensures.1

pub returns : goal.returns
returns c =
    let is = added (goal.at.returns c).After-keys_are_few in
    record { extends = is.extends; sets = is.sets; set = set_with c.requires is }
