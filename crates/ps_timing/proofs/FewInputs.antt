-- A circuit whose inputs are named by different propositions has at most as many inputs as there are propositions.
use Rattle.std.proofs.Common.{◌≡◌, ℕ, ◌<◌, ◌≤◌, List, length, get_or, nat_eq, sym, ◌∙◌, arith}
use Rattle.std.proofs.lemmas.Bool.{eqb-true, ne_eqb}
use Rattle.std.proofs.lemmas.List.{get_or_default}
use Rattle.std.proofs.lemmas.List.Folds.{Any-from_list_any}
use Rattle.std.proofs.lemmas.Map.Keys.{IsDistinct-from_apart}
use Rattle.std.proofs.lemmas.Map.Steps.{length-le_from_distinct_below}
use Rattle.ps_circuit.specs.Circuits.{CircuitData, IsCircuit}
use Rattle.ps_product.specs.Groups.{AreDifferent}
use Rattle.ps_product.specs.Roles.{AreRoles}
use Rattle.ps_product.specs.declared.roles.Roles.{Roles}

pub few_different : (list : List ℕ) (n : ℕ) → AreDifferent list → ((k : ℕ) → k < length list → get_or list k 0 < n) →
    length list ≤ n
few_different list n differ below = length-le_from_distinct_below list n
    (IsDistinct-from_apart nat_eq list (λ i j d less lt. ne_eqb _ _ (λ e.
    let same = differ i j (omega (arith, less, lt)) lt (get_or_default list i 0 d (omega (arith, less, lt)) ∙ e
    ∙ get_or_default list j d 0 lt) in
    omega (arith, less, same))))
    (λ q any.
    let at = Any-from_list_any (nat_eq q) list any in
    let is : q ≡ get_or list at.0 0 = eqb-true q at.1 at.4 ∙ sym at.3 ∙ get_or_default list at.0 at.1 0 at.2 in
    omega (arith, below at.0 at.2, is))

pub few_inputs : {names : List (List ℕ)} {c : CircuitData} {roles : Roles} → IsCircuit c → AreRoles names c roles →
    length c.inputs ≤ 64
few_inputs {names} {c} {roles} is r =
    let few = few_different roles.inputs.items (length names) r.inputs_differ (λ k lt.
    let x = r.inputs_are k lt in x.within) in
    omega (arith, few, r.few, r.inputs_each, is.draft.inputs_named)
