-- Lemmas about the latches and gates of a circuit as readers, and about elements chosen from lists.
use Rattle.std.proofs.Common.{◌≡◌, ◌≢◌, ◌⊎◌, ℕ, zero, suc, ◌+◌, ◌<◌, List, [], ◌∷◌, ◌++◌, Some, None, Option}
use Rattle.std.proofs.Common.{length, map, get_or, refl, ap, sym, ◌∙◌, arith, AllPairs, take, append_assoc, inl}
use Rattle.std.proofs.Common.{inr}
use Rattle.std.proofs.Common.{length-append}
use Rattle.std.specs.List.{Contains, cons_option, filter_map, slice_get}
use Rattle.std.proofs.lemmas.List.{get_or-append-add, get_or-map, length-map, map-append, take_more}
use Rattle.std.proofs.lemmas.List.Elements.{filter_map-append}
use Rattle.std.proofs.lemmas.Option.{slice_get_within, get_or_from_slice_get}
use Rattle.std.proofs.lemmas.Option.{slice_get-get_or}
use Rattle.ps_circuit.specs.Circuits.{CircuitData, IsCircuit, definitions}
use Rattle.ps_circuit.specs.Literals.{variable}
use Rattle.ps_circuit.specs.declared.parts.Gate.{Gate}
use Rattle.ps_circuit.specs.declared.parts.Latch.{Latch}
use Rattle.ps_cone.specs.Cones.{reader_of, readers}

-- ## Lists

pub map_more : {X Y : Type 0} (f : X → Y) (xs : List X) (i : ℕ) (x : X) → slice_get xs i ≡ Some x →
    map f (take (i + 1) xs) ≡ map f (take i xs) ++ f x ∷ []
map_more f xs i x at =
    ap (map f) (take_more xs i x (slice_get_within xs i x at)
    ∙ ap (λ y. take i xs ++ y ∷ []) (get_or_from_slice_get xs i x x at))
    ∙ map-append f (take i xs) (x ∷ [])

-- ## The variables of the readers

latch_literals : (latches : List Latch) →
    map (λ (l : Latch). l.literal) latches ≡ map (λ (g : Gate). g.literal) (map reader_of latches)
latch_literals [] = refl
latch_literals (l ∷ ls) = ap (λ (xs : List ℕ). l.literal ∷ xs) (latch_literals ls)

pub definitions_are : (c : CircuitData) → definitions c ≡ c.inputs ++ map (λ (g : Gate). g.literal) (readers c)
definitions_are c =
    let literal = λ (g : Gate). g.literal in
    append_assoc c.inputs (map (λ (l : Latch). l.literal) c.latches) (map literal c.gates)
    ∙ ap (λ (l : List ℕ). c.inputs ++ l) (ap (λ (l : List ℕ). l ++ map literal c.gates) (latch_literals c.latches)
    ∙ sym (map-append literal (map reader_of c.latches) c.gates))

pub readers_once : {c : CircuitData} → IsCircuit c →
    AllPairs (λ g h. variable g.literal ≢ variable h.literal) (readers c)
readers_once {c} is i j d less lt e =
    let literal = λ (g : Gate). g.literal in
    let at = λ (k : ℕ) (lt : k < length (readers c)).
    let there : get_or (definitions c) (length c.inputs + k) 0 ≡ (get_or (readers c) k d).literal =
    ap (λ (l : List ℕ). get_or l (length c.inputs + k) 0) (definitions_are c)
    ∙ get_or-append-add c.inputs (map literal (readers c)) k 0 ∙ get_or-map literal (readers c) k d 0 lt in there in
    let size : length (definitions c) ≡ length c.inputs + length (readers c) =
    ap length (definitions_are c) ∙ length-append c.inputs (map literal (readers c))
    ∙ ap (λ n. length c.inputs + n) (length-map (readers c) literal) in
    let below : i < length (readers c) = omega (arith, less, lt) in
    is.draft.once (length c.inputs + i) (length c.inputs + j) 0 (omega (arith, less)) (omega (arith, lt, size))
    (ap variable (at i below) ∙ e ∙ ap variable (sym (at j lt)))

-- ## Elements of chosen lists

pub some_same : {X : Type 0} (x y : X) → Some x ≡ Some y → x ≡ y
some_same x y e = cc

pub chosen_more : {X Y : Type 0} (h : X → Option Y) (xs : List X) (i : ℕ) (x : X) → i < length xs →
    x ≡ get_or xs i x →
    filter_map h (take (i + 1) xs) ≡ filter_map h (take i xs) ++ cons_option (h x) []
chosen_more h xs i x lt is =
    ap (filter_map h) (take_more xs i x lt ∙ ap (λ y. take i xs ++ y ∷ []) (sym is))
    ∙ filter_map-append h (take i xs) (x ∷ [])

came : {Y : Type 0} (o : Option Y) (ys : List Y) (k : ℕ) (y : Y) → slice_get (cons_option o ys) k ≡ Some y →
    (o ≡ Some y) ⊎ ((j : ℕ) × (slice_get ys j ≡ Some y))
came None ys k y at = inr (k, at)
came (Some z) ys zero y at = inl at
came (Some z) ys (suc k) y at = inr (k, at)

-- each chosen element comes from one of the list
pub chosen_from : {X Y : Type 0} (h : X → Option Y) (xs : List X) (k : ℕ) (y : Y) →
    slice_get (filter_map h xs) k ≡ Some y → (x : X) × Contains xs x × (h x ≡ Some y)
chosen_from h [] k y at = absurd (cc)
chosen_from h (x ∷ xs) k y at = elim (came (h x) (filter_map h xs) k y at) [
  | inl here ↦ (x, (0, omega arith, refl), here)
  | inr later ↦
      let r = chosen_from h xs later.0 y later.1 in
      (r.0, (suc r.1.0, omega (arith, r.1.1), r.1.2), r.2)
]

front : {Y : Type 0} (o : Option Y) (ys : List Y) (y : Y) → o ≡ Some y →
    (k : ℕ) × (slice_get (cons_option o ys) k ≡ Some y)
front None ys y e = absurd (cc)
front (Some z) ys y e = (0, e)

behind : {Y : Type 0} (o : Option Y) (ys : List Y) (k : ℕ) (y : Y) → slice_get ys k ≡ Some y →
    (j : ℕ) × (slice_get (cons_option o ys) j ≡ Some y)
behind None ys k y at = (k, at)
behind (Some z) ys k y at = (suc k, at)

-- what is chosen of an element is in the chosen list
pub chosen_there : {X Y : Type 0} (h : X → Option Y) (xs : List X) (k : ℕ) (x : X) (y : Y) →
    slice_get xs k ≡ Some x → h x ≡ Some y → (j : ℕ) × (slice_get (filter_map h xs) j ≡ Some y)
chosen_there h [] k x y at e = absurd (cc)
chosen_there h (z ∷ xs) zero x y at e =
    let same : z ≡ x = some_same z x at in
    front (h z) (filter_map h xs) y (ap h same ∙ e)
chosen_there h (z ∷ xs) (suc k) x y at e =
    let r = chosen_there h xs k x y at e in
    behind (h z) (filter_map h xs) r.0 y r.1

pub slot_of : {X : Type 0} (xs : List X) (x : X) (there : Contains xs x) → slice_get xs there.0 ≡ Some x
slot_of xs x there = slice_get-get_or xs there.0 x there.1 ∙ ap (λ y. Some y) there.2
