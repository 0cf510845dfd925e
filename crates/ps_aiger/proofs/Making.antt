-- At each of its exits (the points where it returns), a function that builds the gates of a literal satisfies the
-- contract `MakesLiteral`.
-- - `fails`: the function returns because an earlier call failed; if that call reports too many variables, the literal
--   needs too many variables, too
-- - `gives`: the function returns a literal whose gates exist already, so that no gate is added
-- - `as-made`, `by-choice`: the function returns the result of its last call, which builds exactly the wanted literal
--   (`as-made`), or a choice between two literals, a multiplexer (`by-choice`)
-- - `entry_of`: the entry of a tested proposition, in the table of the inputs' literals
-- - `test-split`, `test-chosen`: if a diagram node tests an input, its literal is a choice by this input between the
--   literals of the node's two children
use Rattle.std.proofs.Common.{◌≡◌, ◌∙◌, ◌<◌, ℕ, Bool, Err, IsErrAnd, List, Ok, Option, Result, Some, get_or, subst, sym}
use Rattle.std.proofs.Common.{rules}
use Rattle.std.proofs.lemmas.Result.{IfOk-weaker}
use Rattle.ps_circuit.specs.declared.encode_fault.EncodeFault.{EncodeFault}
use Rattle.ps_circuit.specs.declared.encode_fault.EncodeFault.TheVariants.{CircuitTooLarge}
use Rattle.ps_circuit.specs.Building.{Drafted, Extends, HasTooMany, IsHeld}
use Rattle.ps_circuit.specs.Gates.{Made, MakesGates, mux_of}
use Rattle.ps_diagram.specs.Table.{Table}
use Rattle.ps_diagram.specs.Views.{SeesTest}
use Rattle.ps_machine.specs.Behaviours.{IsMachine}
use Rattle.ps_aiger.specs.declared.stored.Stored.{Stored}
use Rattle.ps_aiger.specs.declared.stored.Wanted.{Wanted}
use Rattle.ps_aiger.specs.Inner.Functions.{AreInputLiterals, IsInputLiteral, MakesLiteral, behaviour_of}
use Rattle.ps_aiger.specs.Inner.Functions.{node_made, store_of}
use Rattle.ps_circuit.proofs.GatesAndLinks.GateLemmas.{extends-refl, extends-trans, passed_on}
use Rattle.ps_aiger.proofs.OverLemmas.{choice_made, made-test}
use Rattle.ps_aiger.proofs.WiredLemmas.{choice-made}

pub fails : {X : Type 0} {old new : Drafted} {call : Result X EncodeFault} {result : Result ℕ EncodeFault}
    {fault : EncodeFault} {all : Made} → Extends old new → call ≡ Err fault → IsErrAnd result (λ given. given ≡ fault) →
    (call ≡ Err CircuitTooLarge → HasTooMany all.draft) → MakesLiteral old new result all
fails x was is above = record {
  extends = x;
  held = search rules;
  made = search rules;
  too_large = λ e. above (passed_on was is e);
}

pub gives : {d : Drafted} {literal : ℕ} {all : Made} → IsHeld d literal →
    all ≡ record { draft = d; literal = literal } →
    MakesLiteral d d (Ok literal) all
gives {d} held made = record { extends = extends-refl d; held = held; made = made; too_large = search rules }

-- If a function returns the result of its last call, and its earlier calls only add gates, the contract `MakesLiteral`
-- of the last call is the function's own contract.
pub as-made : {old mid new : Drafted} {result : Result ℕ EncodeFault} {whole all : Made} → whole ≡ all →
    Extends old mid → MakesLiteral mid new result all → MakesLiteral old new result whole
as-made {old} {mid} {new} {result} {whole} {all} is x m = record {
  extends = extends-trans old mid new x m.extends;
  held = m.held;
  made = IfOk-weaker result _ _ (λ literal made. is ∙ made) m.made;
  too_large = λ e. subst (λ (n : Made). HasTooMany n.draft) (sym is) (m.too_large e);
}

pub by-choice : {old new : Drafted} {result : Result ℕ EncodeFault} {all : Made} {value : (ℕ → Bool) → Bool} →
    MakesGates old new result all value → MakesLiteral old new result all
by-choice m = record { extends = m.extends; held = m.held; made = m.made; too_large = m.above }

-- the entry of a tested proposition, in the table of the inputs' literals
pub entry_of : (m : Stored) (node p low high : ℕ) {s : Table} {literals : List (Option ℕ)} → s ≡ store_of m →
    SeesTest s node p low high → AreInputLiterals m literals → (d : Option ℕ) {found : Option ℕ} →
    get_or literals p d ≡ found → IsInputLiteral (behaviour_of m).inputs p found
entry_of m node p low high store sees are d is = subst (IsInputLiteral (behaviour_of m).inputs p) is
    (are.each p d (subst (λ (t : Table). p < t.propositions) store sees.named))

-- the literal of a node that tests an input is the choice, by this input, between the literals of the node's two
-- children
module _ (m : Stored) (w : Wanted) (node p low high : ℕ) (d : Drafted) (machine : IsMachine (behaviour_of m))
    {s : Table} (store : s ≡ store_of m) (sees : SeesTest s node p low high) {literals : List (Option ℕ)}
    (are : AreInputLiterals m literals) (e : Option ℕ) {input : ℕ} (is : get_or literals p e ≡ Some input) where
  pub test-split : node_made m w node d ≡ choice_made m w input high low d
  test-split =
      let reads : IsInputLiteral (behaviour_of m).inputs p (Some input) =
      entry_of m node p low high store sees are e is in
      subst (λ x. node_made m w node d ≡ choice_made m w x high low d) (sym reads.2)
      (made-test m w node p low high reads.0 d machine (subst (λ t. SeesTest t node p low high) store sees) reads.1)

  pub test-chosen : {a b : Drafted} {t f : ℕ} → node_made m w high d ≡ record { draft = a; literal = t } →
      node_made m w low a ≡ record { draft = b; literal = f } → node_made m w node d ≡ mux_of b input t f
  test-chosen {a} {b} {t} {f} high_made low_made =
      choice-made _ _ (node_made m w low) a b _ t f test-split high_made low_made
