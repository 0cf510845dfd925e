-- Lemmas for the private functions of the AIGER parser.
use Rattle.std.proofs.Common.{◌≡◌, ◌≢◌, ℕ, ◌+◌, ◌^◌, ◌<◌, ◌≤◌, List, [], ◌∷◌, ◌++◌, Bool, true, map, length, take}
use Rattle.std.proofs.Common.{get_or, set, sym, subst, arith, Some, Option, All, rules, AllPairs, Contains, Vec}
use Rattle.std.proofs.lemmas.List.{length-map, get_or-map, map-set, take_more, take_all, take-append-drop}
use Rattle.std.proofs.lemmas.Option.{slice_get_within, slice_get-get_or}
use Rattle.std.proofs.Math.Seq.{drop-cons}
use Rattle.std.proofs.lemmas.List.Elements.{All-push, All-set, Contains-get_or}
use Rattle.std.proofs.lemmas.List.Quantifiers.{all_pairs_push}
use Rattle.std.specs.Global.{Global}
use Rattle.ps_circuit.specs.declared.parts.Gate.{Gate}
use Rattle.ps_components.specs.Graphs.{Way}
use Rattle.ps_circuit.specs.Circuits.{CircuitData, definitions, readings, IsDefinition, IsSymbolName, IsDraft}
use Rattle.ps_circuit.specs.Circuits.{ReadsGate}
use Rattle.ps_circuit.specs.Literals.{variable}
use Rattle.ps_circuit.specs.Drafts.{name_bytes}
use Rattle.ps_components.specs.Orders.{IsFirstOnCycle}
use Rattle.ps_circuit.specs.Causes.{AigFault}
use Rattle.ps_text.specs.declared.faults.Fault.TheVariants.{Text}
use Rattle.ps_circuit.specs.declared.fault.AigCause.TheVariants.{Cyclic}
use Rattle.ps_text.specs.Faults.{found_of}
use Rattle.ps_circuit.specs.Texts.{IsDefined, IsFirstUndefined}
use Rattle.ps_circuit.specs.Inner.Reading.{AddsVariable, Defines, IsKnownIn, TellsCyclic}
use Rattle.ps_circuit.specs.declared.number.Number.{Number}
use Rattle.std.specs.Bool.{OnTrue}

-- appending a variable that is not in the list of defined variables defines one new variable
pub adds_variable : {old new : List ℕ} {v : ℕ} → new ≡ old ++ v ∷ [] → (Contains old v → ⊥) → AddsVariable old v new
adds_variable {old} e none = search (rules, Contains-get_or)

pub defines_one : {most : ℕ} (literal : ℕ) {old new : List ℕ} → IsDefinition most literal →
    AddsVariable old (variable literal) new → Defines most old (literal ∷ []) new
defines_one {most} literal {old} fits adds = record {
  variables = adds.behind;
  each = grind arith;
  apart = λ h. subst (λ ks. AllPairs (λ v w. v ≢ w) ks) (sym adds.behind)
      (all_pairs_push (λ v w. v ≢ w) old (variable literal) h adds.fresh);
}

pub way_within : (gates : List Gate) {i j : ℕ} → Way (ReadsGate gates) i j → i < length gates
way_within gates h = search (rules, slice_get_within)

apart_of : (literals : List ℕ) → AllPairs (λ v w. v ≢ w) (map variable literals) →
    AllPairs (λ l m. variable l ≢ variable m) literals
apart_of literals h i j d lt within e =
    h i j (variable d) lt (omega (arith, length-map literals variable)) (grind (arith, get_or-map))

-- if all used literals are defined, the lines that were read form a circuit, except that a gate may depend on itself
pub draft_of : {c : CircuitData} {defined : List ℕ} → c.most < 2 ^ 31 → Defines c.most [] (definitions c) defined →
    All (IsKnownIn defined) (readings c) → length c.input_names ≡ length c.inputs →
    length c.latch_names ≡ length c.latches → length c.output_names ≡ length c.outputs →
    All IsSymbolName c.input_names →
    All IsSymbolName c.latch_names → All IsSymbolName c.output_names → IsDraft c
draft_of {c} limit d known n1 n2 n3 a1 a2 a3 = search (rules, apart_of)

pub at_true : (b : Bool) (P : Type 0) → b ≡ true → OnTrue b P → P
at_true b P h k = search rules

pub known_more : (variables : List ℕ) (fields : List Number) (i : ℕ) (d : Number) → i < length fields →
    All (λ f. IsKnownIn variables f.value) (take i fields) → IsKnownIn variables (get_or fields i d).value →
    All (λ f. IsKnownIn variables f.value) (take (i + 1) fields)
known_more variables fields i d lt h k =
    subst (λ fs. All (λ f. IsKnownIn variables f.value) fs) (sym (take_more fields i d lt))
    (All-push (λ f. IsKnownIn variables f.value) (take i fields) (get_or fields i d) h k)

pub known_all : (variables : List ℕ) (fields : List Number) (i : ℕ) → length fields ≤ i →
    All (λ f. IsKnownIn variables f.value) (take i fields) → All (λ f. IsKnownIn variables f.value) fields
known_all variables fields i le h = subst (λ fs. All (λ f. IsKnownIn variables f.value) fs) (take_all i fields le) h

-- the used literals before index i are defined, and the literal at i is not: it is the first used literal whose
-- variable is not defined
pub first_undefined : {variables : List ℕ} {readings : List Number} (i : ℕ) (d : Number) → i < length readings →
    All (IsDefined variables) (take i readings) → (IsDefined variables (get_or readings i d) → ⊥) →
    IsFirstUndefined variables readings (get_or readings i d)
first_undefined {readings} i d l h n = grind (arith, take-append-drop i readings, drop-cons readings i d l)

pub cyclic_tells : (gates : List Gate) (starts : List ℕ) {i : ℕ} {f e : AigFault} → IsFirstOnCycle (ReadsGate gates) i →
    i < length starts → f ≡ Text Cyclic (get_or starts i 0) → f ≡ e → TellsCyclic gates starts (found_of e)
cyclic_tells gates starts {i} first l is same = search (rules, slice_get-get_or)

-- a name that was parsed is a valid name
pub name_set : (names : List (Option (Vec ℕ Global))) (i : ℕ) {name : List ℕ} (v : Vec ℕ Global) →
    All IsSymbolName (map name_bytes names) → v.items ≡ name → 0 < length name → All (λ b. b ≢ 10) name →
    All IsSymbolName (map name_bytes (set names i (Some v)))
name_set names i v h e full plain = search (rules, map-set, All-set)
