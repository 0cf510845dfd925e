-- An id is in a list of ids if and only if the Boolean test that compares it with each entry succeeds.
use Rattle.std.proofs.Common.{◌≡◌, ◌<◌, ℕ, true, false, eqb, List, length, take, get_or, sym, ◌∙◌, rules}
use Rattle.std.proofs.lemmas.Bool.{eqb-true, eq-eqb}
use Rattle.std.proofs.lemmas.Bool.Decides.{nat_tests}
use Rattle.std.proofs.lemmas.List.{get_or-take, get_or_default}
use Rattle.std.proofs.Math.Seq.{length-take-le}
use Rattle.std.proofs.lemmas.Map.Views.{list_any-from_Contains, Contains-from_any}
use Rattle.std.specs.Cmp.{IsEquivalence}
use Rattle.std.specs.List.{list_any, Contains}
use Rattle.ps_ids.specs.Ids.{AreDistinct}

eqb-equivalence : IsEquivalence eqb
eqb-equivalence = search (rules, eq-eqb, nat_tests, eqb-true)

-- if an id is in the list, the test that compares the id with each entry is true
pub any-from_Contains : (id : ℕ) (ids : List ℕ) → Contains ids id → list_any (eqb id) ids ≡ true
any-from_Contains q ids h = list_any-from_Contains eqb-equivalence q ids h

-- if the test that compares a number with each entry of the list is true, the number is in the list
pub Contains-any : (id : ℕ) (ids : List ℕ) → list_any (eqb id) ids ≡ true → Contains ids id
Contains-any q ids h = Contains-from_any eqb-true q ids h

pub Contains-none : (q : ℕ) (ids : List ℕ) → list_any (eqb q) ids ≡ false → Contains ids q → ⊥
Contains-none q ids none h = let e : true ≡ false = sym (any-from_Contains q ids h) ∙ none in cc

-- in a list of distinct ids, an id does not occur before its index
pub absent_before : (ids : List ℕ) (place : ℕ) → AreDistinct ids → place < length ids →
    Contains (take place ids) (get_or ids place 0) → ⊥
absent_before ids place distinct l (k, within, e) = search (rules, length-take-le, get_or-take, get_or_default)
