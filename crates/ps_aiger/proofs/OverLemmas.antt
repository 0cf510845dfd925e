-- The literals of Boolean functions: building a literal a second time adds no gate, and the gates built from a decision
-- diagram's nodes are those built for the function of the diagram.
use Rattle.std.proofs.Common.{rules}
use Rattle.std.proofs.Common.{◌≡◌, ◌∙◌, ℕ, zero, suc, ◌+◌, ◌*◌, ◌<◌, Bool, true, false, cond, if◌then◌else◌, List, []}
use Rattle.std.proofs.Common.{◌∷◌, length, get_or, slice_get, Some, None, refl, sym, ap, subst, arith, inl, inr}
use Rattle.std.specs.List.{range_with_len}
use Rattle.std.proofs.lemmas.Bool.{cases_eq, cases_lt, eq-eqb}
use Rattle.std.proofs.lemmas.List.FromFn.{length-range_with_len, get_or-range_with_len}
use Rattle.std.proofs.lemmas.Option.{slice_get_within, get_or_from_slice_get}
use Rattle.ps_label.specs.Truth.{is_in}
use Rattle.ps_hoa.specs.Files.{is_among}
use Rattle.ps_diagram.specs.Table.{leaf_of}
use Rattle.ps_diagram.specs.Views.{SeesTest, HeedsBehind}
use Rattle.ps_machine.specs.Behaviours.{IsMachine}
use Rattle.ps_aiger.specs.declared.stored.Stored.{Stored}
use Rattle.ps_aiger.specs.declared.stored.Wanted.{Wanted}
use Rattle.ps_circuit.specs.Building.{Drafted, Extends}
use Rattle.ps_aiger.specs.Encoded.{letter_over}
use Rattle.ps_aiger.specs.Inner.Functions.{behaviour_of, bit_at, node_made, store_of}
use Rattle.ps_circuit.specs.Gates.{Made, mux_of}
use Rattle.ps_aiger.specs.Wires.{over_variables}
use Rattle.ps_machine.specs.BitMachines.{bit_for}
use Rattle.ps_machine.proofs.Machines.BitLetters.{AreFrom, bit_for-at, bit_for-none, from_least}
use Rattle.ps_aiger.proofs.LetterLemmas.{letter_bit, no_test}
use Rattle.ps_aiger.proofs.FunctionLemmas.{by_cond, nothing_at}
use Rattle.ps_circuit.proofs.GatesAndLinks.GateLemmas.{extends-refl, extends-trans}
use Rattle.ps_circuit.proofs.GatesAndLinks.MadeLemmas.{IsThere, mux-extends, mux-again, mux-same}

-- ## Functions of some variables

abbrev onto : Bool → (List Bool → Bool) → List Bool → Bool
onto b f bits = f (b ∷ bits)

abbrev pub choose : ℕ → Made → Made → Made
choose s high low = mux_of low.draft s high.literal low.literal

-- the functions f and g have the same value at each list of n bits
abbrev AreSame : ℕ → (List Bool → Bool) → (List Bool → Bool) → Type 0
AreSame n f g = (bits : List Bool) → length bits ≡ n → f bits ≡ g bits

pub over-extends : (vs : List ℕ) (f : List Bool → Bool) (d : Drafted) → Extends d (over_variables vs f d).draft
unfolding over_variables
over-extends [] f d = extends-refl d
over-extends (v ∷ vs) f d =
    let high = over_variables vs (onto true f) d in
    search (
      rules,
      extends-trans,
      mux-extends,
      over-extends vs (onto true f) d,
      over-extends vs (onto false f) high.draft,
    )

pub over-again : (vs : List ℕ) (f : List Bool → Bool) (d e : Drafted) → Extends (over_variables vs f d).draft e →
    IsThere (over_variables vs f d) (over_variables vs f) e
unfolding over_variables
over-again [] f d e x = refl
over-again (v ∷ vs) f d e x =
    let high = over_variables vs (onto true f) d in
    let low = over_variables vs (onto false f) high.draft in
    let xl : Extends low.draft e = search (rules, extends-trans, mux-extends) in
    let xh : Extends high.draft e =
    extends-trans high.draft low.draft e (over-extends vs (onto false f) high.draft) xl in
    search (rules, mux-again, over-again vs (onto true f) d e xh, over-again vs (onto false f) high.draft e xl)

pub over-same : (vs : List ℕ) (f g : List Bool → Bool) (d : Drafted) → AreSame (length vs) f g →
    over_variables vs f d ≡ over_variables vs g d
unfolding over_variables
over-same [] f g d h = ap (λ b. record { draft = d; literal = cond b 1 0 }) (h [] refl)
over-same (v ∷ vs) f g d h = ap (λ m. choose (2 * v) m (over_variables vs (onto false f) m.draft))
    (over-same vs (onto true f) (onto true g) d (λ bits e. h (true ∷ bits) (ap suc e)))
    ∙ ap (choose (2 * v) (over_variables vs (onto true g) d)) (over-same vs (onto false f) (onto false g)
    (over_variables vs (onto true g) d).draft (λ bits e. h (false ∷ bits) (ap suc e)))

-- a choice by a variable on which the function does not depend needs no gate
pub over-skip : (v : ℕ) (vs : List ℕ) (f : List Bool → Bool) (d : Drafted) →
    AreSame (length vs) (onto true f) (onto false f) → over_variables (v ∷ vs) f d ≡ over_variables vs (onto true f) d
unfolding over_variables
over-skip v vs f d h =
    let high = over_variables vs (onto true f) d in
    ap (choose (2 * v) high) (over-same vs (onto false f) (onto true f) high.draft (λ bits e. sym (h bits e))
    ∙ over-again vs (onto true f) d high.draft (extends-refl high.draft)) ∙ mux-same high.draft (2 * v) high.literal

pub over-constant : (b : Bool) (vs : List ℕ) (f : List Bool → Bool) (d : Drafted) → AreSame (length vs) f (λ bits. b) →
    over_variables vs f d ≡ record { draft = d; literal = if b then 1 else 0 }
unfolding over_variables
over-constant b [] f d h = ap (λ t. record { draft = d; literal = cond t 1 0 }) (h [] refl)
over-constant b (v ∷ vs) f d h = over-skip v vs f d (λ bits e. grind arith)
    ∙ over-constant b vs (onto true f) d (λ bits e. h (true ∷ bits) (ap suc e))

-- the value of f at a list of n bits depends only on the bits whose indices are greater than k
abbrev IsBehind : ℕ → ℕ → (List Bool → Bool) → Type 0
IsBehind n k f = (a b : List Bool) → length a ≡ n → length b ≡ n →
    ((j : ℕ) → k < j → get_or a j false ≡ get_or b j false) → f a ≡ f b

abbrev choice_over : List ℕ → ℕ → (List Bool → Bool) → (List Bool → Bool) → Drafted → Made
choice_over vs s h l d = choose s (over_variables vs h d) (over_variables vs l (over_variables vs h d).draft)

heads_differ : (bits : List Bool) (k j : ℕ) → k < j → get_or (true ∷ bits) j false ≡ get_or (false ∷ bits) j false
heads_differ bits k j lt = grind arith

heads_same : (a b : List Bool) (x : Bool) (k : ℕ) → ((j : ℕ) → k < j → get_or a j false ≡ get_or b j false) → (j : ℕ) →
    suc k < j → get_or (x ∷ a) j false ≡ get_or (x ∷ b) j false
heads_same a b x k h j lt = grind arith

behind-head : (n k : ℕ) (f : List Bool → Bool) → IsBehind (suc n) k f → AreSame n (onto true f) (onto false f)
behind-head n k f h bits e = h (true ∷ bits) (false ∷ bits) (ap suc e) (ap suc e) (λ j lt. heads_differ bits k j lt)

behind-tail : (n k : ℕ) (f : List Bool → Bool) → IsBehind (suc n) (suc k) f → IsBehind n k (onto true f)
behind-tail n k f h a b ea eb same = grind arith

pub over-test : (k : ℕ) (vs : List ℕ) (f h l : List Bool → Bool) (d : Drafted) → k < length vs →
    AreSame (length vs) f (λ bits. cond (get_or bits k false) (h bits) (l bits)) → IsBehind (length vs) k h →
    IsBehind (length vs) k l → over_variables vs f d ≡ choice_over vs (2 * get_or vs k 0) h l d
unfolding over_variables
over-test k [] f h l d lt test hb lb = absurd (omega arith)
over-test zero (v ∷ vs) f h l d lt test hb lb =
    let n = length vs in
    let above = over_variables vs (onto true h) d in
    let high : over_variables (v ∷ vs) h d ≡ above = over-skip v vs h d (behind-head n 0 h hb) in
    let low : over_variables (v ∷ vs) l above.draft ≡ over_variables vs (onto false l) above.draft = over-skip v vs l
    above.draft (behind-head n 0 l lb) ∙ over-same vs (onto true l) (onto false l) above.draft (behind-head n 0 l lb) in
    ap (λ m. choose (2 * v) m (over_variables vs (onto false f) m.draft))
    (over-same vs (onto true f) (onto true h) d (λ bits e. test (true ∷ bits) (ap suc e))) ∙ ap (choose (2 * v) above)
    (over-same vs (onto false f) (onto false l) above.draft (λ bits e. test (false ∷ bits) (ap suc e)))
    ∙ sym (ap (λ m. choose (2 * v) m (over_variables (v ∷ vs) l m.draft)) high ∙ ap (choose (2 * v) above) low)
over-test (suc k) (v ∷ vs) f h l d lt test hb lb =
    let n = length vs in
    let s = 2 * get_or vs k 0 in
    let above = over_variables vs (onto true h) d in
    let high : over_variables (v ∷ vs) h d ≡ above = over-skip v vs h d (behind-head n (suc k) h hb) in
    let low : over_variables (v ∷ vs) l above.draft ≡ over_variables vs (onto true l) above.draft =
    over-skip v vs l above.draft (behind-head n (suc k) l lb) in
    over-skip v vs f d (λ bits e. test (true ∷ bits) (ap suc e)
    ∙ ap (λ b. cond (get_or bits k false) b (l (true ∷ bits))) (behind-head n (suc k) h hb bits e)
    ∙ ap (cond (get_or bits k false) (h (false ∷ bits))) (behind-head n (suc k) l lb bits e)
    ∙ sym (test (false ∷ bits) (ap suc e)))
    ∙ over-test k vs (onto true f) (onto true h) (onto true l) d (omega arith) (λ bits e. test (true ∷ bits) (ap suc e))
    (behind-tail n k h hb) (behind-tail n k l lb)
    ∙ sym (ap (λ m. choose s m (over_variables (v ∷ vs) l m.draft)) high ∙ ap (choose s above) low)

-- ## Nodes

pub inputs-extends : (m : Stored) (w : Wanted) (node : ℕ) (d : Drafted) → Extends d (node_made m w node d).draft
unfolding node_made
inputs-extends m w node d = over-extends (range_with_len 1 (length (behaviour_of m).inputs)) _ d

pub inputs-again : (m : Stored) (w : Wanted) (node : ℕ) (d e : Drafted) → Extends (node_made m w node d).draft e →
    IsThere (node_made m w node d) (node_made m w node) e
unfolding node_made
inputs-again m w node d e x = over-again (range_with_len 1 (length (behaviour_of m).inputs)) _ d e x

pub made-nothing : (m : Stored) (w : Wanted) (node : ℕ) (d : Drafted) →
    ((letter : ℕ) → leaf_of (store_of m) node letter ≡ None) → node_made m w node d ≡ record { draft = d; literal = 0 }
unfolding node_made
made-nothing m w node d h = over-constant false (range_with_len 1 (length (behaviour_of m).inputs)) _ d
    (λ bits e. ap (bit_at m w) (h (letter_over (behaviour_of m).inputs bits)) ∙ nothing_at m w)

pub made-leaf : (m : Stored) (w : Wanted) (node leaf literal : ℕ) (d : Drafted) →
    ((letter : ℕ) → leaf_of (store_of m) node letter ≡ Some leaf) →
    literal ≡ (if bit_at m w (Some leaf) then 1 else 0)
    → node_made m w node d ≡ record { draft = d; literal = literal }
unfolding node_made
made-leaf m w node leaf literal d h e = grind (arith, over-constant)

rising : (m : Stored) → IsMachine (behaviour_of m) → AreFrom 0 (behaviour_of m).inputs
rising m machine = from_least (behaviour_of m).inputs machine.inputs_rise

pub made-low : (m : Stored) (w : Wanted) (node p low high : ℕ) (d : Drafted) → IsMachine (behaviour_of m) →
    SeesTest (store_of m) node p low high → is_among p (behaviour_of m).inputs ≡ false →
    node_made m w node d ≡ node_made m w low d
unfolding node_made
made-low m w node p low high d machine sees none = over-same (range_with_len 1 (length (behaviour_of m).inputs)) _ _ d
    (λ bits e. grind (
      arith,
      letter_bit 0 (behaviour_of m).inputs bits p (rising m machine),
      bit_for-none (behaviour_of m).inputs bits p none,
    ))

-- in the letter with given bits at the propositions `ps`, the bit of the proposition q depends only on the bit given
-- for q
settled : (ps : List ℕ) (a b : List Bool) (q : ℕ) → length a ≡ length ps → length b ≡ length ps →
    ((j : ℕ) → j < length ps → get_or ps j 0 ≡ q → get_or a j false ≡ get_or b j false) →
    bit_for ps a q ≡ bit_for ps b q
settled [] a b q ea eb h = refl
settled (p ∷ ps) [] b q ea eb h = absurd (omega arith)
settled (p ∷ ps) (x ∷ a) [] q ea eb h = absurd (omega arith)
settled (p ∷ ps) (x ∷ a) (y ∷ b) q ea eb h = elim (cases_eq p q) [
  | inl e ↦ ap (λ t. cond t x (bit_for ps a q)) (eq-eqb p q e) ∙ h 0 (omega arith) e ∙ sym (grind (arith, eq-eqb))
  | inr ne ↦ ap (λ t. cond t x (bit_for ps a q)) (no_test p q ne)
      ∙ settled ps a b q (omega arith) (omega arith) (λ j lt e. h (suc j) (omega arith) e)
      ∙ sym (ap (λ t. cond t y (bit_for ps b q)) (no_test p q ne))
]

-- let p be the proposition of the input with the index `place`; if a diagram node depends only on propositions after p,
-- its row depends only on inputs after this input
node_behind : (m : Stored) (w : Wanted) (node p place : ℕ) → IsMachine (behaviour_of m) →
    slice_get (behaviour_of m).inputs place ≡ Some p → HeedsBehind (store_of m) node p → (n : ℕ) →
    n ≡ length (behaviour_of m).inputs →
    IsBehind n place (λ bits. bit_at m w (leaf_of (store_of m) node (letter_over (behaviour_of m).inputs bits)))
node_behind m w node p place machine at heeds n is a b ea eb same = ap (bit_at m w)
    (heeds (letter_over (behaviour_of m).inputs a) (letter_over (behaviour_of m).inputs b)
    (λ q lt. letter_bit 0 (behaviour_of m).inputs a q (rising m machine)
    ∙ settled (behaviour_of m).inputs a b q (grind arith) (eb ∙ is) (λ j within e. grind (arith, later q j lt within e))
    ∙ sym (letter_bit 0 (behaviour_of m).inputs b q (rising m machine))))
  where
    own : get_or (behaviour_of m).inputs place 0 ≡ p
    own = get_or_from_slice_get (behaviour_of m).inputs place p 0 at

    later : (q j : ℕ) → p < q → j < length (behaviour_of m).inputs → get_or (behaviour_of m).inputs j 0 ≡ q → place < j
    later q j lt within e = grind (arith, cases_lt, cases_eq, own, slice_get_within)

abbrev pub choice_made : Stored → Wanted → ℕ → ℕ → ℕ → Drafted → Made
choice_made m w s high low d = choose s (node_made m w high d) (node_made m w low (node_made m w high d).draft)

pub made-test : (m : Stored) (w : Wanted) (node p low high place : ℕ) (d : Drafted) → IsMachine (behaviour_of m) →
    SeesTest (store_of m) node p low high → slice_get (behaviour_of m).inputs place ≡ Some p →
    node_made m w node d ≡ choice_made m w (2 * (place + 1)) high low d
unfolding node_made
made-test m w node p low high place d machine sees at =
    let vs = range_with_len 1 (length (behaviour_of m).inputs) in
    let many : length vs ≡ length (behaviour_of m).inputs = length-range_with_len 1 (length (behaviour_of m).inputs) in
    let within : place < length (behaviour_of m).inputs = slice_get_within (behaviour_of m).inputs place p at in
    let s : 2 * get_or vs place 0 ≡ 2 * (place + 1) =
    omega (arith, get_or-range_with_len 1 (length (behaviour_of m).inputs) place 0 within) in
    let fh : List Bool → Bool =
    λ bits. bit_at m w (leaf_of (store_of m) high (letter_over (behaviour_of m).inputs bits)) in
    let fl : List Bool → Bool =
    λ bits. bit_at m w (leaf_of (store_of m) low (letter_over (behaviour_of m).inputs bits)) in
    over-test place vs (λ bits. bit_at m w (leaf_of (store_of m) node (letter_over (behaviour_of m).inputs bits))) fh fl
    d
    (subst (λ n. place < n) (sym many) within) (λ bits e. (let x = letter_over (behaviour_of m).inputs bits in
    let isin : is_in p x ≡ get_or bits place false = letter_bit 0 (behaviour_of m).inputs bits p (rising m machine)
    ∙ bit_for-at 0 (behaviour_of m).inputs bits place p (rising m machine) at
    (subst (λ n. place < n) (sym (e ∙ many)) within) in
    ap (bit_at m w) (sees.leaf x ∙ ap (λ b. cond b (leaf_of (store_of m) high x) (leaf_of (store_of m) low x)) isin)
    ∙ sym (by_cond (bit_at m w) (get_or bits place false) (leaf_of (store_of m) high x) (leaf_of (store_of m) low x))))
    (node_behind m w high p place machine at sees.high_behind (length vs) many)
    (node_behind m w low p place machine at sees.low_behind (length vs) many) ∙ ap (λ t. choice_over vs t fh fl d) s
