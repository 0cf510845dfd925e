-- The names of propositions as AIGER symbols, and bounds on the number of propositions.
use Rattle.std.proofs.Common.{rules}
use Rattle.std.proofs.Common.{◌≡◌, ◌≢◌, ◌∙◌, ℕ, zero, suc, ◌+◌, ◌<◌, ◌≤◌, ◌||◌, Bool, true, false, cond}
use Rattle.std.proofs.Common.{List, [], ◌∷◌, ◌++◌, map, length, get_or, Option, Some, sym, ap}
use Rattle.std.proofs.Common.{arith, inl, inr, All, take, Vec}
use Rattle.std.specs.Prelude.{slice_index_or}
use Rattle.std.specs.Global.{Global}
use Rattle.std.proofs.lemmas.List.{length-map, get_or-map, map-append, take_more}
use Rattle.std.proofs.lemmas.List.Elements.{All-map}
use Rattle.ps_hoa.specs.Grammar.Header.{has_control, is_control, is_empty}
use Rattle.ps_hoa.specs.Memory.{bytes_of}
use Rattle.ps_hoa.specs.Sound.{AreNames}
use Rattle.ps_machine.specs.Behaviours.{Behaviour, IsMachine}
use Rattle.ps_machine.proofs.Machines.Listing.{get_among}
use Rattle.ps_circuit.specs.Circuits.{IsSymbolName}
use Rattle.ps_circuit.specs.Drafts.{name_bytes}
use Rattle.ps_aiger.specs.Encoded.{symbols_of}
use Rattle.ps_aiger.proofs.LetterLemmas.{few_rise}
use Rattle.ps_circuit.proofs.GatesAndLinks.GateLemmas.{bool_cases, true_is_not_false}

no_control : (b : ℕ) (rest : Bool) → cond (is_control b) true rest ≡ false → (is_control b ≡ false) × (rest ≡ false)
no_control b rest h = grind (arith, bool_cases (is_control b))

no_newline : (bs : List ℕ) → has_control bs ≡ false → All (λ b. b ≢ 10) bs
no_newline [] h k e lt = absurd (omega arith)
no_newline (b ∷ bs) h zero e lt = grind (arith, true_is_not_false, no_control)
no_newline (b ∷ bs) h (suc k) e lt = no_newline bs (no_control b (has_control bs) h).1 k e (omega arith)

name_is : (name : List ℕ) → (is_empty name || has_control name) ≡ false → IsSymbolName (Some name)
name_is name h = grind (arith, true_is_not_false, no_newline)

name_ok : (names : List (List ℕ)) → AreNames names → (p : ℕ) → p < length names →
    IsSymbolName (Some (slice_index_or names p []))
name_ok [] are p lt = absurd (omega arith)
name_ok (name ∷ names) are zero lt = name_is name are.0
name_ok (name ∷ names) are (suc p) lt = name_ok names are.2 p (omega arith)

-- the inputs and outputs of a machine are propositions with names, and there are at most 64 inputs
pub inputs_within : (m : Behaviour) → IsMachine m → All (λ p. p < length m.names) m.inputs
inputs_within m machine k e lt = (machine.each (get_or m.inputs k e)).1 (inl (get_among m.inputs k e lt))

pub outputs_within : (m : Behaviour) → IsMachine m → All (λ p. p < length m.names) m.outputs
outputs_within m machine k e lt = (machine.each (get_or m.outputs k e)).1 (inr (get_among m.outputs k e lt))

pub few_inputs : (m : Behaviour) → IsMachine m → length m.inputs ≤ 64
few_inputs m machine =
    let few : length m.inputs + 0 ≤ 64 = grind (arith, few_rise, inputs_within) in
    omega arith

pub named : (m : Behaviour) → IsMachine m → (ps : List ℕ) → All (λ p. p < length m.names) ps →
    All IsSymbolName (symbols_of m.names ps)
named m machine ps below = search (rules, All-map, name_ok)

pub symbol_more : (all : List (List ℕ)) (names : List (Vec ℕ Global)) (ps : List ℕ) (i : ℕ)
    (old new : List (Option (Vec ℕ Global))) (r name : Vec ℕ Global) → map bytes_of names ≡ all → i < length ps →
    get_or ps i 0 < length all →
    r ≡ get_or names (get_or ps i 0) r → name.items ≡ r.items → new ≡ old ++ Some name ∷ [] →
    map name_bytes old ≡ symbols_of all (take i ps) → map name_bytes new ≡ symbols_of all (take (i + 1) ps)
symbol_more all names ps i old new r name names_are lt known is same added before =
    let p = get_or ps i 0 in
    let within : p < length names = grind (arith, length-map names bytes_of) in
    let here : name.items ≡ get_or all p [] = search (rules, get_or-map) in
    ap (map name_bytes) added ∙ map-append name_bytes old (Some name ∷ []) ∙ ap (λ xs. xs ++ Some name.items ∷ [])
    before ∙ ap (λ b. symbols_of all (take i ps) ++ Some b ∷ []) here ∙ sym (ap (symbols_of all)
    (take_more ps i 0 lt) ∙ map-append (λ q. Some (slice_index_or all q [])) (take i ps) (p ∷ []))
