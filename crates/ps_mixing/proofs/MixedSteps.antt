-- The edges that a mixed file takes at a letter, and its clashes.
-- - `steps_there`, `steps_back`: at a moved letter, the mixed file takes the edges that the file takes at the letter
-- - `clashes_there`, `clashes_back`: both files have the same clashes
use Rattle.std.specs.Prelude.{◌≡◌, ℕ, ◌^◌, ◌<◌, Bool, true, false, IsTrue, if◌then◌else◌, nat_eq, List, [], ◌∷◌, length}
use Rattle.std.specs.Prelude.{map, Option, None, Some, option_map, slice_get, slice_index_or}
use Rattle.std.proofs.Common.{refl, sym, ap, subst, ◌∙◌}
use Rattle.std.proofs.lemmas.List.FromFn.{length-map-range_with_len}
use Rattle.std.proofs.lemmas.Option.{slice_get-map}
use Rattle.ps_label.specs.Expression.{Expression}
use Rattle.ps_label.specs.Truth.{is_in, label_truth}
use Rattle.ps_hoa.specs.Edges.{Goes, IsEnabled, IsTaken, is_marked, row_among, row_of}
use Rattle.ps_hoa.specs.Files.{GuardData, EdgeData, RowData, FileData, stated, of_state, at_letter}
use Rattle.ps_automaton.specs.Answers.{AreAlike, AreClashing, Clash}
use Rattle.ps_mixing.specs.MixedFiles.{IsMixingOf, mixed_edge, mixed_file, mixed_guard, mixed_names, mixed_row, renamed}
use Rattle.ps_mixing.specs.Mixings.{Mixing, moved}
use Rattle.ps_mixing.proofs.MovedPropositions.MovedLetters.{inverse_is, moved_back, moved_forth, moved_within}
use Rattle.ps_mixing.proofs.MovedPropositions.MovedLetters.{renamed_bit}
use Rattle.ps_mixing.proofs.MovedPropositions.RenamedLabels.{renamed_label}

-- ## Lists

from_option : {X Y : Type 0} (f : X → Y) (o : Option X) (y : Y) → option_map f o ≡ Some y →
    (x : X) × (o ≡ Some x) × (f x ≡ y)
from_option f None y same = absurd (cc same)
from_option f (Some x) y same = (x, refl, cc same)

pub entry_there : {X Y : Type 0} (f : X → Y) (xs : List X) (i : ℕ) (x : X) → slice_get xs i ≡ Some x →
    slice_get (map f xs) i ≡ Some (f x)
entry_there f xs i x at = slice_get-map f xs i ∙ ap (option_map f) at

pub entry_back : {X Y : Type 0} (f : X → Y) (xs : List X) (i : ℕ) (y : Y) → slice_get (map f xs) i ≡ Some y →
    (x : X) × (slice_get xs i ≡ Some x) × (f x ≡ y)
entry_back f xs i y at = from_option f (slice_get xs i) y (sym (slice_get-map f xs i) ∙ at)

pub names_count : (mixing : Mixing) (names : List (List ℕ)) → length (mixed_names mixing names) ≡ length names
names_count mixing names =
    length-map-range_with_len (λ p. slice_index_or names (mixing.from p) []) 0 (length names)

row_mixed : (n : ℕ) (mixing : Mixing) (rows : List RowData) (q : ℕ) →
    row_among (map (mixed_row n mixing) rows) q ≡ option_map (mixed_row n mixing) (row_among rows q)
row_mixed n mixing [] q = refl
row_mixed n mixing (row ∷ rows) q = one (nat_eq q row.state) (row_mixed n mixing rows q)
  where
    one : (b : Bool) →
        row_among (map (mixed_row n mixing) rows) q ≡ option_map (mixed_row n mixing) (row_among rows q) →
        (if b then Some (mixed_row n mixing row) else row_among (map (mixed_row n mixing) rows) q) ≡
        option_map (mixed_row n mixing) (if b then Some row else row_among rows q)
    one true rest = refl
    one false rest = rest

module _ (file : FileData) (mixing : Mixing) (is : IsMixingOf file mixing) where
  abbrev n : ℕ
  n = length file.names

  abbrev mixed : FileData
  mixed = mixed_file mixing file

  -- ## Guards

  module _ (x y : ℕ) (same : y ≡ moved n mixing.from x) where
    label_same : (e : Expression) → label_truth mixed.aliases y (renamed mixing.to e) ≡ label_truth file.aliases x e
    label_same e = renamed_label mixing.to x y (λ p. ap (is_in (mixing.to p)) same ∙ renamed_bit is x p) file.aliases e

    enabled_there : (label : Option Expression) (guard : GuardData) → IsEnabled file.aliases label guard x →
        IsEnabled mixed.aliases (option_map (renamed mixing.to) label) (mixed_guard n mixing guard) y
    enabled_there label (stated e) taken = subst IsTrue (sym (label_same e)) taken
    enabled_there None of_state taken = taken
    enabled_there (Some e) of_state taken = subst IsTrue (sym (label_same e)) taken
    enabled_there label (at_letter k) taken = same ∙ ap (moved n mixing.from) taken

    enabled_back : (label : Option Expression) (guard : GuardData) →
        IsEnabled mixed.aliases (option_map (renamed mixing.to) label) (mixed_guard n mixing guard) y →
        IsEnabled file.aliases label guard x
    enabled_back label (stated e) taken = subst IsTrue (label_same e) taken
    enabled_back None of_state taken = taken
    enabled_back (Some e) of_state taken = subst IsTrue (label_same e) taken
    enabled_back label (at_letter k) taken =
        sym (moved_back is x) ∙ ap (moved n mixing.to) (sym same ∙ taken) ∙ moved_back is k

  -- ## Steps

  row_there : (q : ℕ) (row : RowData) → row_of file q ≡ Some row → row_of mixed q ≡ Some (mixed_row n mixing row)
  row_there q row at = row_mixed n mixing file.rows q ∙ ap (option_map (mixed_row n mixing)) at

  row_back : (q : ℕ) (other : RowData) → row_of mixed q ≡ Some other →
      (row : RowData) × (row_of file q ≡ Some row) × (mixed_row n mixing row ≡ other)
  row_back q other at =
      from_option (mixed_row n mixing) (row_of file q) other (sym (row_mixed n mixing file.rows q) ∙ at)

  letter_there : (x : ℕ) → x < 2 ^ n → moved n mixing.from x < 2 ^ length mixed.names
  letter_there x lt =
      subst (λ (k : ℕ). moved n mixing.from x < 2 ^ k) (sym (names_count mixing file.names)) (moved_within is x lt)

  letter_back : (y : ℕ) → y < 2 ^ length mixed.names → moved n mixing.to y < 2 ^ n
  letter_back y lt = moved_within (inverse_is is) y (subst (λ (k : ℕ). y < 2 ^ k) (names_count mixing file.names) lt)

  pub steps_there : (q x : ℕ) (sets : ℕ → Bool) (next : ℕ) → Goes file q x sets next →
      Goes mixed q (moved n mixing.from x) sets next
  steps_there q x sets next goes = record {
    is_letter = letter_there x goes.is_letter;
    row = mixed_row n mixing goes.row;
    of_state = row_there q goes.row goes.of_state;
    place = goes.place;
    edge = mixed_edge n mixing goes.edge;
    at_place = entry_there (mixed_edge n mixing) goes.row.edges goes.place goes.edge goes.at_place;
    taken = enabled_there x (moved n mixing.from x) refl goes.row.label goes.edge.guard goes.taken;
    marked = goes.marked;
    target = goes.target;
  }

  pub steps_back : (q y : ℕ) (sets : ℕ → Bool) (next : ℕ) → Goes mixed q y sets next →
      Goes file q (moved n mixing.to y) sets next
  steps_back q y sets next goes = with_row (row_back q goes.row goes.of_state)
    where
      edges_in : (row : RowData) → mixed_row n mixing row ≡ goes.row →
          slice_get (mixed_row n mixing row).edges goes.place ≡ Some goes.edge
      edges_in row same = subst (λ (r : RowData). slice_get r.edges goes.place ≡ Some goes.edge) (sym same) goes.at_place

      with_edge : (row : RowData) → row_of file q ≡ Some row → mixed_row n mixing row ≡ goes.row → (edge : EdgeData) →
          slice_get row.edges goes.place ≡ Some edge → mixed_edge n mixing edge ≡ goes.edge →
          Goes file q (moved n mixing.to y) sets next
      with_edge row at same edge at_place edge_same =
          let both : IsTaken mixed (mixed_row n mixing row) (mixed_edge n mixing edge) y =
          subst (λ (r : RowData). IsTaken mixed r (mixed_edge n mixing edge) y) (sym same)
          (subst (λ (e : EdgeData). IsTaken mixed goes.row e y) (sym edge_same) goes.taken) in
          record {
            is_letter = letter_back y goes.is_letter;
            row = row;
            of_state = at;
            place = goes.place;
            edge = edge;
            at_place = at_place;
            taken = enabled_back (moved n mixing.to y) y (sym (moved_forth is y)) row.label edge.guard both;
            marked = λ set. goes.marked set ∙ sym (ap (λ (r : RowData). is_marked r goes.edge set) same) ∙
                sym (ap (λ (e : EdgeData). is_marked (mixed_row n mixing row) e set) edge_same);
            target = ap (λ (e : EdgeData). e.target) edge_same ∙ goes.target;
          }

      with_row : (row : RowData) × (row_of file q ≡ Some row) × (mixed_row n mixing row ≡ goes.row) →
          Goes file q (moved n mixing.to y) sets next
      with_row (row, at, same) =
          let (edge, at_place, edge_same) =
          entry_back (mixed_edge n mixing) row.edges goes.place goes.edge (edges_in row same) in
          with_edge row at same edge at_place edge_same

  -- ## Clashes

  pub clashes_there : (q first second : ℕ) → Clash file q first second → Clash mixed q first second
  clashes_there q first second clash =
      let at : AreClashing file clash.row first second = clash.clashing in
      record {
        row = mixed_row n mixing clash.row;
        of_state = row_there q clash.row clash.of_state;
        clashing = record {
          earlier = at.earlier;
          one = mixed_edge n mixing at.one;
          other = mixed_edge n mixing at.other;
          at_first = entry_there (mixed_edge n mixing) clash.row.edges first at.one at.at_first;
          at_second = entry_there (mixed_edge n mixing) clash.row.edges second at.other at.at_second;
          letter = moved n mixing.from at.letter;
          is_letter = letter_there at.letter at.is_letter;
          one_taken = enabled_there at.letter (moved n mixing.from at.letter) refl clash.row.label at.one.guard
              at.one_taken;
          other_taken = enabled_there at.letter (moved n mixing.from at.letter) refl clash.row.label at.other.guard
              at.other_taken;
          differ = at.differ;
        };
      }

  pub clashes_back : (q first second : ℕ) → Clash mixed q first second → Clash file q first second
  clashes_back q first second clash = with_row (row_back q clash.row clash.of_state)
    where
      with_edges : (row : RowData) → (at : AreClashing mixed (mixed_row n mixing row) first second) →
          (one : EdgeData) × (slice_get row.edges first ≡ Some one) × (mixed_edge n mixing one ≡ at.one) →
          (other : EdgeData) × (slice_get row.edges second ≡ Some other) × (mixed_edge n mixing other ≡ at.other) →
          AreClashing file row first second
      with_edges row at (one, at_first, one_same) (other, at_second, other_same) =
          let back : ℕ = moved n mixing.to at.letter in
          let same : at.letter ≡ moved n mixing.from back = sym (moved_forth is at.letter) in
          record {
            earlier = at.earlier;
            one = one;
            other = other;
            at_first = at_first;
            at_second = at_second;
            letter = back;
            is_letter = letter_back at.letter at.is_letter;
            one_taken = enabled_back back at.letter same row.label one.guard
                (subst (λ (e : EdgeData). IsTaken mixed (mixed_row n mixing row) e at.letter) (sym one_same) at.one_taken);
            other_taken = enabled_back back at.letter same row.label other.guard (subst
                (λ (e : EdgeData). IsTaken mixed (mixed_row n mixing row) e at.letter) (sym other_same) at.other_taken);
            differ = λ alike. at.differ (subst (λ (e : EdgeData). AreAlike (mixed_row n mixing row) e at.other) one_same
                (subst (λ (e : EdgeData). AreAlike (mixed_row n mixing row) (mixed_edge n mixing one) e) other_same
                alike));
          }

      with_row : (row : RowData) × (row_of file q ≡ Some row) × (mixed_row n mixing row ≡ clash.row) →
          Clash file q first second
      with_row (row, at, same) =
          let edges : AreClashing mixed (mixed_row n mixing row) first second =
          subst (λ (r : RowData). AreClashing mixed r first second) (sym same) clash.clashing in
          record {
            row = row;
            of_state = at;
            clashing = with_edges row edges (entry_back (mixed_edge n mixing) row.edges first edges.one edges.at_first)
                (entry_back (mixed_edge n mixing) row.edges second edges.other edges.at_second);
          }
