-- The nonzero counts of a row that is stored as a chain of cells: the chain has exactly these counts, by falling index.
use Rattle.std.proofs.Common.{◌≡◌, ◌≢◌, ℕ, zero, suc, ◌+◌, ◌-◌, ◌<◌, ◌≤◌, ◌∙◌, ◌++◌, ◌∷◌, [], List, length, map}
use Rattle.std.proofs.Common.{max, inl, inr, refl, ap, arith, Some, None}
use Rattle.std.specs.Prelude.{slice_get}
use Rattle.std.specs.List.{range_with_len}
use Rattle.std.proofs.lemmas.Bool.{ne_eqb, eq-eqb}
use Rattle.std.proofs.lemmas.List.{append-nil}
use Rattle.std.proofs.lemmas.Option.{slice_get_cases}
use Rattle.ps_measure.specs.declared.table.CountCell.{CountCell}
use Rattle.ps_game.specs.declared.nonzero.NonzeroCount.{NonzeroCount}
use Rattle.ps_game.specs.Nonzero.{nonzero_from}
use Rattle.ps_measure.specs.Tables.{count_here, count_from, row_from, AreChained}
use Rattle.ps_measure.proofs.CountRows.CountCells.{from_none, no_fuel, from_cell, cell_at, there}
use Rattle.ps_measure.proofs.CountRows.CountCells.{place_below, here_and_behind}

-- ## The nonzero values of a function

-- the nonzero values of a function at the `n` numbers from `k` on
abbrev pub values : (ℕ → ℕ) → ℕ → ℕ → List NonzeroCount
values f k n = nonzero_from k (map f (range_with_len k n))

values_more : (f : ℕ → ℕ) (k n m : ℕ) → values f k (n + m) ≡ values f k n ++ values f (k + n) m
values_more f k zero m = let same : k + 0 ≡ k = omega arith in grind arith
values_more f k (suc n) m = let many : suc n + m ≡ suc (n + m) = omega arith in
    let next : k + 1 + n ≡ k + suc n = omega arith in
    grind (arith, values_more f (k + 1) n m)

values_same : (f g : ℕ → ℕ) (k n : ℕ) → ((j : ℕ) → k ≤ j → j < k + n → f j ≡ g j) → values f k n ≡ values g k n
values_same f g k zero same = refl
values_same f g k (suc n) same = grind (
  arith,
  same k (omega arith) (omega arith),
  values_same f g (k + 1) n (λ j late within. same j (omega (arith, late)) (omega (arith, within))),
)

values_none : (f : ℕ → ℕ) (k n : ℕ) → ((j : ℕ) → k ≤ j → f j ≡ 0) → values f k n ≡ []
values_none f k zero none = refl
values_none f k (suc n) none = grind (
  arith,
  none k (omega arith),
  values_none f (k + 1) n (λ j late. none j (omega (arith, late))),
)

values_split : (f : ℕ → ℕ) (p rest : ℕ) → values f 0 (p + suc rest) ≡ values f 0 p ++ values f p (suc rest)
values_split f p rest =
    let at : 0 + p ≡ p = omega arith in
    values_more f 0 p (suc rest) ∙ ap (λ j. values f 0 p ++ values f j (suc rest)) at

-- if two functions agree before `p`, and the first has a value at `p`, and both are 0 from there on, then this value is
-- the last nonzero value of the first function, and the others are those of the second
values_last : (f g : ℕ → ℕ) (p rest : ℕ) → ((j : ℕ) → j < p → f j ≡ g j) → f p ≢ 0 → ((j : ℕ) → p < j → f j ≡ 0) →
    ((j : ℕ) → p ≤ j → g j ≡ 0) →
    values f 0 (p + suc rest) ≡ values g 0 (p + suc rest) ++ record { place = p; count = f p } ∷ []
values_last f g p rest same some none none_too = grind (
  arith,
  values_split f p rest,
  values_split g p rest,
  values_same f g 0 p (λ j _ less. same j (omega (arith, less))),
  values_none f (p + 1) rest (λ j late. none j (omega (arith, late))),
  values_none g p (suc rest) none_too,
  append-nil (values g 0 p),
)

-- ## Chains

module _ {width : ℕ} {cells : List CountCell} (chained : AreChained width cells) where
  -- the cell with a number, if there is one, has a `place` less than `k`
  abbrev IsBelow : ℕ → ℕ → Type 0
  IsBelow n k = (j : ℕ) (cell : CountCell) → n ≡ j + 1 → slice_get cells j ≡ Some cell → cell.place < k

  none_from : (fuel n k : ℕ) → IsBelow n k → (j : ℕ) → k ≤ j → count_from cells fuel n j ≡ 0
  none_from fuel zero k below j late = from_none cells fuel j
  none_from zero (suc i) k below j late = no_fuel cells (suc i) j
  none_from (suc fuel) (suc i) k below j late = elim (slice_get_cases cells i).1 [
    | inr gone ↦ grind (arith, from_cell cells fuel i j None gone.1, from_none cells fuel j)
    | inl found ↦
        let cell = found.0 in
        let before : cell.place < k = below i cell (omega arith) found.2 in
        let behind : count_from cells fuel cell.next j ≡ 0 =
        none_from fuel cell.next cell.place (λ i' other next at. chained.lower i i' cell other found.2 at next) j
        (omega (arith, before, late)) in
        grind (arith, from_cell cells fuel i j (Some cell) found.2, ne_eqb cell.place j (omega (arith, before, late)))
  ]

  module _ {n : ℕ} (some : 0 < n) (first : n ≤ length cells) where
    abbrev here : CountCell
    here = cell_at cells n

    at : slice_get cells (n - 1) ≡ Some here
    at = there chained some first

    abbrev counts : ℕ → ℕ
    counts = count_from cells n n

    abbrev behind : ℕ → ℕ
    behind = count_from cells here.next here.next

    joined : (k : ℕ) → counts k ≡ max (count_here (Some here) k) (behind k)
    joined = here_and_behind chained some first

    none_behind : (j : ℕ) → here.place ≤ j → behind j ≡ 0
    none_behind = none_from here.next here.next here.place
        (λ i other next at_other. chained.lower (n - 1) i here other at at_other next)

    apart : (j : ℕ) → j ≢ here.place → counts j ≡ behind j
    apart j other = grind (arith, joined j, ne_eqb here.place j)

    at_place : counts here.place ≡ here.count
    at_place = grind (arith, joined here.place, none_behind here.place, eq-eqb here.place here.place)

    pub nonzero_step : nonzero_from 0 (row_from width cells n) ≡
        nonzero_from 0 (row_from width cells here.next) ++ record { place = here.place; count = here.count } ∷ []
    nonzero_step =
        let rest = width - (here.place + 1) in
        let whole : here.place + suc rest ≡ width = omega (arith, place_below chained some first) in
        let last = values_last counts behind here.place rest (λ j less. apart j (omega (arith, less)))
        (omega (arith, at_place, chained.some (n - 1) here at))
        (λ j late. apart j (omega (arith, late)) ∙ none_behind j (omega (arith, late))) none_behind in
        rw (whole, at_place) at last

  pub nonzero_none : nonzero_from 0 (row_from width cells 0) ≡ []
  nonzero_none = values_none (count_from cells 0 0) 0 width (λ j _. from_none cells 0 j)
