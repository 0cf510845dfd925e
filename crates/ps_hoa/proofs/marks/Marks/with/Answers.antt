use Rattle.std.proofs.Common.{◌≡◌, ℕ, cond, List, [], ◌∷◌, ◌++◌, sym, ap, ◌∙◌, Bool, arith}
use Rattle.std.specs.List.{list_any}
use Rattle.std.proofs.Math.Dec.{eqb}
use Rattle.ps_hoa.specs.Files.{once}
use Rattle.ps_hoa.specs.Marks.{mark_list}
use Rattle.ps_hoa.proofs.Soundness.NameSets.{among}
use Rattle.ps_hoa.proofs.marks.Marks.with.Goals as goal
use Rattle.ps_hoa.proofs.marks.Marks.with.Goals.{After-contains}

-- if the code's test of whether a number is in a list has the result b, the list is extended unless b is true
once_is : (ms : List ℕ) (n : ℕ) {b : Bool} → list_any (λ m. eqb m n) ms ≡ b → cond b ms (ms ++ n ∷ []) ≡ once ms n
once_is ms n e = ap (λ (b : Bool). cond b ms (ms ++ n ∷ [])) (sym e ∙ among n ms)

-- what the test of the code says
tested : (c : After-contains) → list_any (λ m. eqb m c.args.set) (mark_list c.args.self) ≡ c.contains.result
tested c = ap (list_any (λ m. eqb m c.args.set)) (sym c.as_slice.ensures) ∙ sym c.contains.ensures.value

pub returns-then-contains : goal.returns-then-contains
returns-then-contains c =
    once_is (mark_list c.args.self) c.args.set (tested (goal.at.returns-then-contains c).After-contains
    ∙ c.if-contains.true)

pub returns-in-List : goal.returns-in-List
returns-in-List c = grind (arith, once_is, tested)
