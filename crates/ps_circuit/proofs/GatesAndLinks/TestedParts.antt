-- The tests of a circuit's parts succeed if and only if the parts meet the conditions.
use Rattle.std.proofs.Common.{◌≡◌, ◌≢◌, ◌==◌, ◌^◌, ℕ, ◌+◌, ◌<◌, Bool, true, false, not, ◌&&◌, ◌||◌, List, [], ◌∷◌, ◌++◌}
use Rattle.std.proofs.Common.{map, length, take}
use Rattle.std.proofs.Common.{get_or, refl, sym, ◌∙◌, subst, arith, rules, All, AllPairs, Contains, Option, None, Some}
use Rattle.std.proofs.Common.{Vec, ap, ap₂, inl, inr}
use Rattle.std.specs.List.{flat_map, list_all, list_any}
use Rattle.std.specs.Cmp.Derive.{both_true}
use Rattle.std.proofs.lemmas.Bool.{and_parts, eqb-true, eq-eqb, not-true}
use Rattle.std.proofs.lemmas.List.Concat.{flat_map-cons}
use Rattle.std.proofs.lemmas.List.Elements.{All-push, Contains-get_or}
use Rattle.std.proofs.lemmas.List.Quantifiers.{all_pairs_push}
use Rattle.std.proofs.lemmas.List.Folds.{list_all-append, list_all-map, list_any_none}
use Rattle.std.proofs.lemmas.List.Sums.{AllPass-from_list_all, list_all-from_AllPass}
use Rattle.std.proofs.lemmas.List.{length-map, get_or-map, map-append, take-map, take_more}
use Rattle.ps_ids.specs.Ids.{AreDistinct}
use Rattle.ps_ids.proofs.Members.{Contains-any, Contains-none, any-from_Contains, absent_before}
use Rattle.std.specs.Global.{Global}
use Rattle.std.proofs.Math.Bool.{or-true}
use Rattle.ps_circuit.specs.declared.parts.Gate.{Gate}
use Rattle.ps_circuit.specs.declared.parts.Latch.{Latch}
use Rattle.ps_circuit.specs.Drafts.{name_bytes}
use Rattle.ps_circuit.specs.Circuits.{CircuitData, IsDefinition, IsDraft, IsSymbolName, definitions, readings}
use Rattle.ps_circuit.specs.Literals.{variable}
use Rattle.ps_circuit.specs.Inner.Reading.{Defines, IsKnownIn}
use Rattle.ps_circuit.specs.Inner.Soundness.{CanDefine, are_known, are_named, are_names_for, is_known, is_symbol_name}
use Rattle.ps_circuit.proofs.ReadCircuits.ReadingLemmas.{adds_variable, draft_of}

-- ## Used literals

known-true : (variables : List ℕ) (l : ℕ) → is_known variables l ≡ true → IsKnownIn variables l
known-true variables l e = search (rules, eqb-true, Contains-any)

known-test : (variables : List ℕ) (l : ℕ) → IsKnownIn variables l → is_known variables l ≡ true
known-test variables l (inl e) =
    ap (λ b. b || list_any (λ other. variable l == other) variables) (eq-eqb (variable l) 0 e)
known-test variables l (inr there) =
    ap (λ b. variable l == 0 || b) (any-from_Contains (variable l) variables there) ∙ or-true (variable l == 0)

sides_tested : (p : ℕ → Bool) (gates : List Gate) → list_all (λ g. p g.first && p g.second) gates ≡
    list_all p (flat_map (λ g. g.first ∷ g.second ∷ []) gates)
sides_tested p [] = refl
sides_tested p (g ∷ gates) = search (rules, flat_map-cons, list_all-append, sides_tested p gates)

readings_tested : (variables : List ℕ) (c : CircuitData) →
    are_known variables c ≡ list_all (is_known variables) (readings c)
readings_tested variables c =
    let p : ℕ → Bool = is_known variables in
    let nexts = map (λ (l : Latch). l.next) c.latches in
    let sides = flat_map (λ (g : Gate). g.first ∷ g.second ∷ []) c.gates in
    sym (list_all-append p (nexts ++ c.outputs) sides ∙ ap₂ (λ a b. a && b) (list_all-append p nexts c.outputs
    ∙ ap (λ a. a && list_all p c.outputs) (list_all-map p (λ (l : Latch). l.next) c.latches))
    (sym (sides_tested p c.gates)))

known_readings : (variables : List ℕ) (c : CircuitData) → are_known variables c ≡ true →
    All (IsKnownIn variables) (readings c)
known_readings variables c e k d lt = known-true variables (get_or (readings c) k d)
    (AllPass-from_list_all (is_known variables) (readings c) (sym (readings_tested variables c) ∙ e) k d lt)

tested_readings : (variables : List ℕ) (c : CircuitData) → All (IsKnownIn variables) (readings c) →
    are_known variables c ≡ true
tested_readings variables c h = readings_tested variables c ∙ list_all-from_AllPass (is_known variables) (readings c)
    (λ k d lt. known-test variables (get_or (readings c) k d) (h k d lt))

-- ## Names

not-test : (b : Bool) → b ≡ false → not b ≡ true
not-test b e = search rules

unequal : (m n : ℕ) → m ≢ n → (m == n) ≡ false
unequal m n other = go (m == n) refl
  where
    go : (b : Bool) → (m == n) ≡ b → (m == n) ≡ false
    go true e = absurd (other (eqb-true m n e))
    go false e = e

name-true : (name : Option (List ℕ)) → is_symbol_name name ≡ true → IsSymbolName name
name-true None e = tt
name-true (Some bytes) e =
    let parts = and_parts (not (length bytes == 0)) (not (list_any (λ b. 10 == b) bytes)) e in (
      grind (arith, parts.0),
      λ k d lt is. Contains-none 10 bytes (not-true (list_any (λ b. 10 == b) bytes) parts.1)
          (subst (λ b. Contains bytes b) is (Contains-get_or bytes k d lt)),
    )

name-test : (name : Option (List ℕ)) → IsSymbolName name → is_symbol_name name ≡ true
name-test None h = refl
name-test (Some bytes) h = both_true
    (not-test (length bytes == 0) (unequal (length bytes) 0 (λ none. grind (arith, h.0, none))))
    (not-test (list_any (λ b. 10 == b) bytes) (list_any_none (λ b. 10 == b) bytes
    (λ k d lt. unequal 10 (get_or bytes k d) (λ e. h.1 k d lt (sym e)))))

record AreNamesFor (count : ℕ) (names : List (Option (List ℕ))) : Type 0 where
  each : length names ≡ count
  valid : All IsSymbolName names

names-true : (count : ℕ) (names : List (Option (List ℕ))) → are_names_for count names ≡ true → AreNamesFor count names
names-true count names e = record {
  each = eqb-true (length names) count (and_parts _ _ e).0;
  valid =
      λ k d lt. name-true (get_or names k d) (AllPass-from_list_all is_symbol_name names (and_parts _ _ e).1 k d lt);
}

names-test : (count : ℕ) (names : List (Option (List ℕ))) → length names ≡ count → All IsSymbolName names →
    are_names_for count names ≡ true
names-test count names each valid = both_true (eq-eqb (length names) count each)
    (list_all-from_AllPass is_symbol_name names (λ k d lt. name-test (get_or names k d) (valid k d lt)))

pub named-draft : (c : CircuitData) → IsDraft c → are_named c ≡ true
named-draft c d = both_true (both_true
    (names-test (length c.inputs) c.input_names d.inputs_named d.input_names)
    (names-test (length c.latches) c.latch_names d.latches_named d.latch_names))
    (names-test (length c.outputs) c.output_names d.outputs_named d.output_names)

pub names_for : (count : ℕ) (names : List (Option (Vec ℕ Global))) (all : Bool) → length names ≡ count →
    all ≡ list_all (λ name. is_symbol_name (name_bytes name)) names → all ≡ are_names_for count (map name_bytes names)
names_for count names all each e = e ∙ sym (list_all-map is_symbol_name name_bytes names)
    ∙ sym (ap (λ b. b && list_all is_symbol_name (map name_bytes names))
    (eq-eqb (length (map name_bytes names)) count (length-map names name_bytes ∙ each)))

-- ## Definitions

pub defines_more : {most : ℕ} (literals : List ℕ) (k d : ℕ) {old new : List ℕ} → k < length literals →
    Defines most [] (take k literals) old → IsDefinition most (get_or literals k d) →
    new ≡ old ++ variable (get_or literals k d) ∷ [] →
    (Contains old (variable (get_or literals k d)) → ⊥) → Defines most [] (take (k + 1) literals) new
defines_more {most} literals k d {old} {new} lt before fits e fresh =
    let more = take_more literals k d lt in
    let adds = adds_variable e fresh in
    record {
      variables = grind (arith, more, map-append, before.variables, e);
      each = subst (All (IsDefinition most)) (sym more)
          (All-push (IsDefinition most) (take k literals) (get_or literals k d) before.each fits);
      apart = λ h. subst (AllPairs (λ v w. v ≢ w)) (sym e)
          (all_pairs_push (λ v w. v ≢ w) old (variable (get_or literals k d)) (before.apart h) adds.fresh);
    }

pub fresh_before : {most : ℕ} (literals : List ℕ) (k d : ℕ) {old : List ℕ} → k < length literals →
    Defines most [] (take k literals) old → CanDefine most literals →
    Contains old (variable (get_or literals k d)) → ⊥
fresh_before literals k d lt before can there =
    let many = length-map literals variable in
    let at : (i a b : ℕ) → i < length literals →
    get_or (map variable literals) i b ≡ variable (get_or literals i a) = λ i a b l.
    get_or-map variable literals i a b l in
    let apart : AreDistinct (map variable literals) = λ i j b less l e.
    can.once i j 0 less (omega (arith, many)) (sym (at i 0 b (omega (arith, many))) ∙ e
    ∙ at j 0 b (omega (arith, many))) in
    absent_before (map variable literals) k apart (omega (arith, many))
    (subst (Contains (take k (map variable literals))) (sym (at k d 0 lt))
    (subst (λ vs. Contains vs (variable (get_or literals k d)))
    (before.variables ∙ sym (take-map variable k literals)) there))

-- ## All conditions

pub draft-true : {c : CircuitData} {variables : List ℕ} → c.most < 2 ^ 31 → are_named c ≡ true →
    Defines c.most [] (definitions c) variables → are_known variables c ≡ true → IsDraft c
draft-true {c} {variables} limit named defines known =
    let parts = and_parts _ _ named in
    let first = and_parts _ _ parts.0 in
    let inputs = names-true (length c.inputs) c.input_names first.0 in
    let latches = names-true (length c.latches) c.latch_names first.1 in
    let outputs = names-true (length c.outputs) c.output_names parts.1 in
    draft_of limit defines (known_readings variables c known) inputs.each latches.each outputs.each inputs.valid
    latches.valid outputs.valid

pub draft-test : {c : CircuitData} {variables : List ℕ} → Defines c.most [] (definitions c) variables → IsDraft c →
    are_known variables c ≡ true
draft-test {c} {variables} defines draft = tested_readings variables c
    (subst (λ vs. All (IsKnownIn vs) (readings c)) (sym defines.variables) draft.known)

pub draft-defines : {c : CircuitData} → IsDraft c → CanDefine c.most (definitions c)
draft-defines d = record { each = d.defined; once = d.once }
