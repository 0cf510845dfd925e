-- A table of decision-diagram nodes (cells) to which one more cell is added.
use Rattle.std.proofs.Common.{◌≡◌, ℕ, ◌+◌, ◌-◌, ◌^◌, ◌<◌, ◌≤◌, Bool, true, false, List, [], ◌∷◌, ◌++◌, length, get_or}
use Rattle.std.proofs.Common.{refl, Result, Ok, Err}
use Rattle.std.proofs.Common.{ap, sym, ◌∙◌, arith, length-append, inl, inr, ◌⊎◌, fold, Some, rules}
use Rattle.std.proofs.lemmas.List.{get_or_append_left, get_or_push}
use Rattle.std.proofs.lemmas.List.Sums.{fold_push}
use Rattle.std.proofs.lemmas.Option.{slice_get_within, get_or_from_slice_get, slice_get-get_or}
use Rattle.std.proofs.lemmas.Bool.{cases_Bool, cases_lt}
use Rattle.std.specs.List.{slice_get}
use Rattle.ps_diagram.specs.declared.view.View.{View}
use Rattle.ps_diagram.specs.declared.view.View.TheVariants.{Leaf, Nothing}
use Rattle.ps_diagram.specs.Tree.{Tree, IsFrom, IsReduced}
use Rattle.ps_keys.proofs.TableLemmas.{old_or_new}
use Rattle.ps_diagram.specs.Inner.Parts.{IsPart}
use Rattle.ps_diagram.specs.Inner.Placed.{AddsCell, ArePlacesOfLeaves, PlacesCell}
use Rattle.ps_diagram.specs.Table.{Table, tree_by, trees_of, tree_at, tree_in, tree_of, IsNode, IsCellWithin}
use Rattle.ps_diagram.specs.Table.{IsSoundTable}
use Rattle.ps_diagram.specs.Table.{Keeps}

-- the table of nodes with one more cell at its end
abbrev pub more : Table → View → Table
more t cell = record { propositions = t.propositions; cells = t.cells ++ cell ∷ [] }

trees_push : (cells : List View) (cell : View) → trees_of (cells ++ cell ∷ []) ≡ trees_of cells ++
    tree_by (trees_of cells) cell ∷ []
unfolding trees_of
trees_push cells cell = fold_push (λ known c. known ++ tree_by known c ∷ []) [] cells cell

length_from : (known : List Tree) (cells : List View) → length (fold (λ k c. k ++ tree_by k c ∷ []) known cells) ≡
    length known + length cells
length_from known [] = omega arith
length_from known (c ∷ cs) =
    let t = tree_by known c in
    omega (arith, length_from (known ++ t ∷ []) cs, length-append known (t ∷ []))

pub length_trees : (cells : List View) → length (trees_of cells) ≡ length cells
unfolding trees_of
length_trees cells = omega (arith, length_from [] cells)

pub tree_at-old : (cells : List View) (cell : View) (k : ℕ) → k < length cells →
    tree_at (cells ++ cell ∷ []) k ≡ tree_at cells k
tree_at-old cells cell k h = grind (arith, trees_push, get_or_append_left, length_trees)

pub tree_at-new : (cells : List View) (cell : View) → tree_at (cells ++ cell ∷ []) (length cells) ≡ tree_in cells cell
tree_at-new cells cell = search (rules, trees_push, get_or_push, length_trees)

-- adding a cell to the table does not change the tree of any cell whose children are in the table
pub tree_in-old : (cells : List View) (cell c : View) → IsCellWithin (length cells) c →
    tree_in (cells ++ cell ∷ []) c ≡ tree_in cells c
tree_in-old cells cell c h = search (rules, tree_at-old)

pub within-weaker : {a : ℕ} (b : ℕ) (c : View) → a ≤ b → IsCellWithin a c → IsCellWithin b c
within-weaker b c h k = search rules

-- in a sound table, cells with equal trees are equal
pub same_cell : (t : Table) → IsSoundTable t → (a b : View) → IsCellWithin (length t.cells) a →
    IsCellWithin (length t.cells) b → tree_in t.cells a ≡ tree_in t.cells b → a ≡ b
unfolding tree_of
same_cell t h a b k m n = search rules

-- a truth value is true or false
pub bool_cases : (b : Bool) → (b ≡ true) ⊎ (b ≡ false)
bool_cases b = cases_Bool b

-- true is not false
pub true_is_not_false : true ≡ false → ⊥
true_is_not_false e = cc

-- keeping nodes is reflexive: t keeps the nodes of t
pub keeps_refl : (t : Table) → Keeps t t
keeps_refl t = record { propositions = refl; held = λ node h. h; same = λ node h. refl }

-- a number less than n + 1 is less than n, or is n
-- if each entry of a list has a property at its index, and an appended entry has the property too, each entry of the
-- longer list has the property
pub push_each : {X : Type 0} (P : ℕ → X → Type 0) (d : X) (xs : List X) {more : List X} (x : X) {count : ℕ} →
    length xs ≡ count → more ≡ xs ++ x ∷ [] → ((i : ℕ) → i < count → P i (get_or xs i d)) → P count x → (i : ℕ) →
    i < count + 1 → P i (get_or more i d)
push_each P d xs x {count} size is each last i lt = search (rules, cases_lt, get_or_append_left, get_or_push)

pub keeps_more : (t : Table) (cell : View) → Keeps t (more t cell)
unfolding tree_of
keeps_more t cell = grind (arith, length-append, tree_at-old)

-- if all old cells with their trees have a property, and the added cell has the property too, all cells of the new
-- table have the property
each_cell : (P : ℕ → View → Tree → Type 0) (cells : List View) (cell : View) →
    ((k : ℕ) → k < length cells → P k (get_or cells k Nothing) (tree_at cells k)) →
    P (length cells) cell (tree_in cells cell) → (k : ℕ) → k < length (cells ++ cell ∷ []) →
    P k (get_or (cells ++ cell ∷ []) k Nothing) (tree_at (cells ++ cell ∷ []) k)
each_cell P cells cell old new k h =
    search (rules, old_or_new, length-append, get_or_append_left, tree_at-old, get_or_push, tree_at-new)

-- a sound table stays sound when a cell is added that is new, ordered and reduced
pub sound_more : {t : Table} {cell : View} → IsSoundTable t → IsCellWithin (length t.cells) cell →
    IsFrom 0 t.propositions (tree_in t.cells cell) → IsReduced (tree_in t.cells cell) →
    ((k : ℕ) → k < length t.cells → cell ≡ get_or t.cells k Nothing → ⊥) → IsSoundTable (more t cell)
unfolding tree_of
sound_more {t} {cell} s w o r new =
    let n = length t.cells in
    let old = t.cells in
    let earlier : (k : ℕ) → k < n → IsCellWithin n (get_or old k Nothing) =
    λ k h. within-weaker n _ (omega arith) (s.earlier k h) in
    let apart : (k : ℕ) → k < n → tree_in old cell ≡ tree_at old k → ⊥ =
    λ k h e. new k h (same_cell t s cell (get_or old k Nothing) w (earlier k h) (e ∙ s.built k h)) in
    record {
      few = s.few;
      built = each_cell (λ k c u. u ≡ tree_in (old ++ cell ∷ []) c) old cell
          (λ k h. s.built k h ∙ sym (tree_in-old old cell _ (earlier k h))) (sym (tree_in-old old cell cell w));
      earlier = each_cell (λ k c u. IsCellWithin k c) old cell s.earlier w;
      ordered = each_cell (λ k c u. IsFrom 0 t.propositions u) old cell s.ordered o;
      reduced = each_cell (λ k c u. IsReduced u) old cell s.reduced r;
      one = λ a b ha hb. each_cell (λ k c u. u ≡ tree_at (old ++ cell ∷ []) b → k ≡ b) old cell (λ k h. each_cell
          (λ j c u. tree_at old k ≡ u → k ≡ j) old cell (λ j g. s.one k j h g) (λ e. absurd (apart k h (sym e))) b hb)
          (each_cell (λ j c u. tree_in old cell ≡ u → n ≡ j) old cell (λ j g e. absurd (apart j g e)) (λ e. refl) b hb)
          a ha;
    }

-- looking up a cell, and adding it if it is new, gives the table u and the index `place` of the cell
pub record Interned (t u : Table) (cell : View) (place : ℕ) : Type 0 where
  pub sound : IsSoundTable u
  pub keeps : Keeps t u
  pub held : IsNode u place
  pub tree : tree_of u place ≡ tree_in t.cells cell

-- if a sound table has all old nodes, and has the cell at an index, then this index is a right result of the look-up
at_place : {t u : Table} {cell : View} (place : ℕ) → IsSoundTable u → Keeps t u →
    tree_in u.cells cell ≡ tree_in t.cells cell → slice_get u.cells place ≡ Some cell → Interned t u cell place
unfolding tree_of
at_place {u} {cell} place s keeps stays e = search (rules, slice_get_within, get_or_from_slice_get)

-- adding a cell does not change the index of any other cell
kept_at : {old new : List View} {cell : View} (place : ℕ) (x : View) → AddsCell old cell new →
    slice_get old place ≡ Some x → slice_get new place ≡ Some x
kept_at {old} {new} {cell} place x adds at =
    let within : place < length old = slice_get_within old place x at in
    elim adds [
      | inl same ↦ rw same at
      | inr more ↦
          let longer : place < length (old ++ cell ∷ []) = omega (arith, within, length-append old (cell ∷ [])) in
          rw more.0 (slice_get-get_or (old ++ cell ∷ []) place x longer
          ∙ ap Some (get_or_append_left old (cell ∷ []) x place within ∙ get_or_from_slice_get old place x x at))
    ]

-- the table that gives the index of the cell for each small leaf stays right when a cell is added
pub leaves_kept : {old new : List View} {cell : View} (places : List ℕ) → AddsCell old cell new →
    ArePlacesOfLeaves old places → ArePlacesOfLeaves new places
leaves_kept places adds are leaf place at less = kept_at place (Leaf leaf) adds (are leaf place at less)

-- this table stays right when a cell is looked up, also where the look-up fails
pub leaves_after : {E : Type 0} {old new : List View} {cell : View} (result : Result ℕ E) (places : List ℕ) →
    PlacesCell old new cell result → ArePlacesOfLeaves old places → ArePlacesOfLeaves new places
leaves_after (Ok place) places h are = leaves_kept places h.adds are
leaves_after (Err e) places h are = rw h.err are

-- the table that gives the index of the cell for each small leaf stays right when it is extended by entries that mean
-- `UNKNOWN`
pub leaves_roomy : (cells : List View) (old new : List ℕ) (n : ℕ) → length new ≡ n →
    ((k d : ℕ) → k < n → k < length old → get_or new k d ≡ get_or old k d) →
    ((k d : ℕ) → length old ≤ k → k < n → get_or new k d ≡ 2 ^ 32 - 1) →
    ArePlacesOfLeaves cells old → ArePlacesOfLeaves cells new
leaves_roomy cells old new n count kept fresh are leaf place at less =
    let within : leaf < n = (let w = slice_get_within new leaf place at in omega (arith, w, count)) in
    let here : get_or new leaf place ≡ place = get_or_from_slice_get new leaf place place at in
    elim (cases_lt leaf (length old)) [
      | inl low ↦ are leaf place (slice_get-get_or old leaf place low
          ∙ ap Some (sym (kept leaf place within low) ∙ here)) less
      | inr high ↦
          let unknown : place ≡ 2 ^ 32 - 1 = sym here ∙ fresh leaf place high within in
          absurd (omega (arith, unknown, less))
    ]

pub interned : {t : Table} {cells : List View} {cell : View} (place : ℕ) → IsSoundTable t →
    IsCellWithin (length t.cells) cell → IsFrom 0 t.propositions (tree_in t.cells cell) →
    IsReduced (tree_in t.cells cell) →
    AddsCell t.cells cell cells → slice_get cells place ≡ Some cell →
    Interned t (record { propositions = t.propositions; cells = cells }) cell place
interned {t} {cells} {cell} place s w o r adds there = elim adds [
  | inl same ↦ rw same (at_place place s (keeps_refl t) refl (rw same at there))
  | inr new ↦
      let apart : (k : ℕ) → k < length t.cells → cell ≡ get_or t.cells k Nothing → ⊥ =
      search (rules, slice_get-get_or) in
      rw new.0 (at_place place (sound_more s w o r apart) (keeps_more t cell) (tree_in-old t.cells cell cell w)
      (rw new.0 at there))
]

pub part_of : {t : Table} {node : ℕ} (cell : View) → IsSoundTable t → IsNode t node →
    get_or t.cells node Nothing ≡ cell → IsPart t node cell
unfolding tree_of
part_of cell h k m = search rules
