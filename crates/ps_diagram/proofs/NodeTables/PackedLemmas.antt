-- Cells in 12 bytes: a cell is packed and unpacked, and a packed cell is looked up in a list.
use Rattle.std.proofs.Common.{◌≡◌, ℕ, ◌+◌, ◌<◌, false, List, [], ◌∷◌, ◌++◌, length, get_or}
use Rattle.std.proofs.Common.{◌==◌, ◌∙◌, map, ap, arith, refl, sym, inl, inr, Some}
use Rattle.std.proofs.lemmas.Bool.Decides.{nat_tests}
use Rattle.std.proofs.lemmas.List.{get_or-map, get_or_append_left, get_or_push, length-append, length-map, map_push}
use Rattle.std.proofs.lemmas.Option.{slice_get-get_or, slice_get_within, get_or_from_slice_get}
use Rattle.std.specs.List.{slice_get}
use Rattle.ps_keys.proofs.TableLemmas.{old_or_new}
use Rattle.ps_keys.specs.Keys.{IsPlacedKey, LacksFrom}
use Rattle.ps_diagram.proofs.NodeTables.Cells.{true_is_not_false}
use Rattle.ps_diagram.specs.declared.packed.Packed.{Packed}
use Rattle.ps_diagram.specs.declared.view.View.{View}
use Rattle.ps_diagram.specs.declared.view.View.TheVariants.{Nothing, Leaf, Test}
use Rattle.ps_diagram.specs.contracts.packed.PackedPartialEq.TheImpl as packed_eq
use Rattle.ps_diagram.specs.Inner.Packed.{packed, view_of, ArePacked, CanPack}
use Rattle.ps_diagram.specs.Inner.Placed.{AddsCell}
use Rattle.ps_diagram.proofs.NodeTables.Keys.{packed_same, same_packed}

-- the packed form of a cell stands for this cell
pub unpacked : (cell : View) → CanPack cell → view_of (packed cell) ≡ cell
unpacked Nothing can = refl
unpacked (Leaf k) can = ap Leaf (omega arith)
unpacked (Test p low high) can =
    let first : (p == 65) ≡ false = grind (arith, nat_tests) in
    let second : (p == 64) ≡ false = grind (arith, nat_tests) in
    rw (first, second) refl

-- the list stays right if the packed form of a cell is appended
still_packed : (list : List Packed) (cell : View) → CanPack cell → ArePacked list → ArePacked (list ++ packed cell ∷ [])
still_packed list cell can are k d less =
    let most : k < length list + 1 = omega (arith, less, length-append list (packed cell ∷ [])) in
    elim (old_or_new k (length list) most) [
      | inl old ↦ rw (get_or_append_left list (packed cell ∷ []) d k old) (are k d old)
      | inr new ↦ rw (get_or_push list (packed cell) d k (sym new)) (ap packed (unpacked cell can))
    ]

-- if a list lacks a packed cell, it lacks the cell
is_new : (old : List Packed) (cell : View) → ArePacked old →
    LacksFrom (packed_eq.eq-value).it old 0 (packed cell) → (k : ℕ) → slice_get (map view_of old) k ≡ Some cell → ⊥
is_new old cell are lacks k at =
    let c = packed cell in
    let inside : k < length old = omega (arith, slice_get_within (map view_of old) k cell at, length-map old view_of) in
    let here : view_of (get_or old k c) ≡ cell =
    sym (get_or-map view_of old k c cell inside) ∙ get_or_from_slice_get (map view_of old) k cell cell at in
    let same : get_or old k c ≡ c = sym (are k c inside) ∙ ap packed here in
    let other : (packed_eq.eq-value).it (get_or old k c) c ≡ false = lacks k c (omega arith) inside in
    let not : (packed_eq.eq-value).it c c ≡ false = rw same at other in
    true_is_not_false (sym (packed_same c) ∙ not)

-- looking up a packed cell looks up the cell
pub looked_up : {old new : List Packed} (cell : View) {place : ℕ} → CanPack cell → ArePacked old →
    IsPlacedKey (packed_eq.eq-value).it old new (packed cell) place →
    ArePacked new × AddsCell (map view_of old) cell (map view_of new) × (slice_get (map view_of new) place ≡ Some cell)
looked_up {old} {new} cell {place} can are placed =
    let cells = map view_of old in
    let size : length cells ≡ length old = length-map old view_of in
    elim placed [
      | inl known ↦ (
        rw known.0 are,
        inl (ap (map view_of) known.0),
        (let here : get_or cells place cell ≡ cell = get_or-map view_of old place (packed cell) cell known.1
            ∙ ap view_of (same_packed (get_or old place (packed cell)) (packed cell) (known.2 (packed cell)))
            ∙ unpacked cell can in
            rw known.0 (slice_get-get_or cells place cell (omega (arith, size, known.1)) ∙ ap Some here)),
      )
      | inr more ↦ (
          let longer : map view_of new ≡ cells ++ cell ∷ [] = ap (map view_of) more.0
          ∙ map_push view_of old (packed cell) ∙ ap (λ c. cells ++ c ∷ []) (unpacked cell can) in (
            rw more.0 (still_packed old cell can are),
            inr (longer, is_new old cell are more.2),
            (let inside : place < length (cells ++ cell ∷ []) =
                omega (arith, more.1, size, length-append cells (cell ∷ [])) in
                rw longer (slice_get-get_or (cells ++ cell ∷ []) place cell inside
                ∙ ap Some (get_or_push cells cell cell place (size ∙ sym more.1)))),
          )
          )
    ]
