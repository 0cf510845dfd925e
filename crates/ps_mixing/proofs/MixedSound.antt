-- A mixed file is sound, if no edge of the file is labelled by its place alone.
use Rattle.std.specs.Prelude.{◌≡◌, ℕ, zero, suc, ◌+◌, ◌^◌, ◌<◌, ◌≤◌, ◌||◌, Bool, true, false, if◌then◌else◌}
use Rattle.std.specs.Prelude.{nat_eq, List, [], ◌∷◌, length, map, Option, None, Some, option_map, IfSome}
use Rattle.std.specs.Prelude.{slice_index_or}
use Rattle.std.specs.List.{All, AllByRecursion, fold, range_with_len}
use Rattle.std.specs.Str.{bytes_eq}
use Rattle.std.proofs.Common.{refl, sym, ap, subst, ◌∙◌, inl, inr, arith, get_or}
use Rattle.std.proofs.Math.Nat.{one-le-pow}
use Rattle.std.proofs.Math.Path.{fun_ext}
use Rattle.std.proofs.lemmas.List.{length-map}
use Rattle.std.proofs.lemmas.List.Folds.{fold-map}
use Rattle.std.proofs.lemmas.List.Elements.{All-map}
use Rattle.std.proofs.lemmas.Slice.Eq.{bytes_eq-Decides}
use Rattle.ps_label.specs.Expression.{Expression, IsOver}
use Rattle.ps_hoa.specs.Grammar.Body.{edge_limit, has_row}
use Rattle.ps_hoa.specs.Files.{GuardData, EdgeData, RowData, FileData, stated, of_state, at_letter, is_among}
use Rattle.ps_hoa.specs.Grammar.Header.{alias_limit, has_control, is_empty, is_name_among, proposition_limit}
use Rattle.ps_hoa.specs.Sound.{AreAtLetters, AreDifferent, AreLabelled, AreNames, AreRowsOnce, IsGuard, IsLabelOf}
use Rattle.ps_hoa.specs.Sound.{IsOfState, IsSoundEdge, IsSoundFile, IsSoundRow, IsStated, edges_of}
use Rattle.ps_mixing.specs.MixedFiles.{HasLabels, IsMixingOf, IsWithLabel, mixed_edge, mixed_file}
use Rattle.ps_mixing.specs.MixedFiles.{mixed_guard, mixed_row, renamed}
use Rattle.ps_mixing.specs.Mixings.{Mixing}
use Rattle.ps_mixing.proofs.MixedSteps.{names_count}
use Rattle.ps_mixing.proofs.MovedPropositions.MovedLetters.{inverse_is, to_within}
use Rattle.ps_mixing.proofs.MovedPropositions.MovedLists.{among_moved}
use Rattle.ps_mixing.proofs.Renamings.{aliases_over, over_renamed}
use Rattle.ps_simulate.proofs.NamingLemmas.{names_differ}

-- ## Edges

module _ (n : ℕ) (mixing : Mixing) where
  of_states : (es : List EdgeData) → AllByRecursion IsOfState es → AllByRecursion IsOfState (map (mixed_edge n mixing) es)
  of_states [] all = all
  of_states (e ∷ es) all = (ap (mixed_guard n mixing) all.0, of_states es all.1)

  all_stated : (es : List EdgeData) → AllByRecursion IsStated es → AllByRecursion IsStated (map (mixed_edge n mixing) es)
  all_stated [] all = all
  all_stated (e ∷ es) all = ((renamed mixing.to all.0.0, ap (mixed_guard n mixing) all.0.1), all_stated es all.1)

  none_at_letters : (es : List EdgeData) → All IsWithLabel es → AreAtLetters 0 es → length es ≡ 2 ^ n → ⊥
  none_at_letters [] with_label at count = (let some = one-le-pow n 2 (omega arith) in omega (arith, count, some))
  none_at_letters (e ∷ es) with_label at count = with_label 0 e (omega arith) 0 at.0

  labelled_there : (m : ℕ) (label : Option Expression) (es : List EdgeData) → All IsWithLabel es →
      AreLabelled n label es → AreLabelled m (option_map (renamed mixing.to) label) (map (mixed_edge n mixing) es)
  labelled_there m (Some e) es with_label labelled = of_states es labelled
  labelled_there m None es with_label (inl all) = inl (all_stated es all)
  labelled_there m None es with_label (inr (at, count)) = absurd (none_at_letters es with_label at count)

  has_row_there : (q : ℕ) (rows : List RowData) → has_row q (map (mixed_row n mixing) rows) ≡ has_row q rows
  has_row_there q [] = refl
  has_row_there q (row ∷ rows) =
      ap (λ (b : Bool). if nat_eq q row.state then true else b) (has_row_there q rows)

  rows_once : (rows : List RowData) → AreRowsOnce rows → AreRowsOnce (map (mixed_row n mixing) rows)
  rows_once [] once = once
  rows_once (row ∷ rows) once = (has_row_there row.state rows ∙ once.0, rows_once rows once.1)

  edges_there : (rows : List RowData) → edges_of (map (mixed_row n mixing) rows) ≡ edges_of rows
  edges_there rows = fold-map (λ (k : ℕ) (row : RowData). k + length row.edges) (mixed_row n mixing) 0 rows ∙
      ap (λ (f : ℕ → RowData → ℕ). fold f 0 rows) (fun_ext (λ k. fun_ext (λ row.
      ap (λ (m : ℕ). k + m) (length-map row.edges (mixed_edge n mixing)))))

-- ## Names

bytes_same : (a b : List ℕ) → bytes_eq a b ≡ true → a ≡ b
bytes_same a b same = grind (arith, bytes_eq-Decides)

module _ (mixing : Mixing) (names : List (List ℕ)) (once : (p q : ℕ) → p < length names → q < length names →
    slice_index_or names p [] ≡ slice_index_or names q [] → p ≡ q)
    (good : (p : ℕ) → p < length names →
    (is_empty (slice_index_or names p []) || has_control (slice_index_or names p [])) ≡ false)
    (within : (p : ℕ) → p < length names → mixing.from p < length names)
    (forth : (p : ℕ) → mixing.to (mixing.from p) ≡ p) where
  abbrev name : ℕ → List ℕ
  name p = slice_index_or names (mixing.from p) []

  not_named : (p from count : ℕ) → p < from → from + count ≤ length names →
      is_name_among (name p) (map name (range_with_len from count)) ≡ false
  not_named p from zero less few = refl
  not_named p from (suc count) less few = one (bytes_eq (name p) (name from)) refl
      (not_named p (from + 1) count (omega (arith, less)) (omega (arith, few)))
    where
      one : (b : Bool) → bytes_eq (name p) (name from) ≡ b →
          is_name_among (name p) (map name (range_with_len (from + 1) count)) ≡ false →
          (if b then true else is_name_among (name p) (map name (range_with_len (from + 1) count))) ≡ false
      one true same rest = absurd (differ (bytes_same (name p) (name from) same))
        where
          differ : name p ≡ name from → ⊥
          differ equal =
              let index : mixing.from p ≡ mixing.from from = once (mixing.from p) (mixing.from from)
              (within p (omega (arith, less, few))) (within from (omega (arith, few))) equal in
              let back : p ≡ from = sym (forth p) ∙ ap mixing.to index ∙ forth from in
              omega (arith, back, less)
      one false same rest = rest

  names_from : (from count : ℕ) → from + count ≤ length names → AreNames (map name (range_with_len from count))
  names_from from zero few = tt
  names_from from (suc count) few = (
    good (mixing.from from) (within from (omega (arith, few))),
    not_named from (from + 1) count (omega arith) (omega (arith, few)),
    names_from (from + 1) count (omega (arith, few)),
  )

good_name : (names : List (List ℕ)) → AreNames names → (p : ℕ) → p < length names →
    (is_empty (slice_index_or names p []) || has_control (slice_index_or names p [])) ≡ false
good_name [] are p less = absurd (omega (arith, less))
good_name (name ∷ names) are zero less = are.0
good_name (name ∷ names) are (suc p) less = good_name names are.2 p (omega (arith, less))

module _ (file : FileData) (mixing : Mixing) (is : IsMixingOf file mixing) (sound : IsSoundFile file) where
  abbrev n : ℕ
  n = length file.names

  abbrev mixed : FileData
  mixed = mixed_file mixing file

  count : length mixed.names ≡ n
  count = names_count mixing file.names

  to_below : (p : ℕ) → p < n → mixing.to p < length mixed.names
  to_below p less = (let lt = to_within is p less in omega (arith, lt, count))

  names_there : AreNames mixed.names
  names_there = names_from mixing file.names (names_differ file.names sound.names) (good_name file.names sound.names)
      (λ p less. to_within (inverse_is is) p less) is.forth 0 n (omega arith)

  moved_below : (ps : List ℕ) → All (λ p. p < n) ps → All (λ p. p < length mixed.names) (map mixing.to ps)
  moved_below ps all = All-map (λ p. p < length mixed.names) mixing.to ps (λ k d within. to_below (get_or ps k d)
      (all k d within))

  moved_differ : (ps : List ℕ) → AreDifferent ps → AreDifferent (map mixing.to ps)
  moved_differ [] differ = differ
  moved_differ (p ∷ ps) differ = (
    among_moved is ps (mixing.to p) ∙ ap (λ (q : ℕ). is_among q ps) (is.back p) ∙ differ.0,
    moved_differ ps differ.1,
  )

  aliases_many : length mixed.aliases ≡ length file.aliases
  aliases_many = length-map file.aliases (renamed mixing.to)

  label_there : (e : Expression) → IsLabelOf file e → IsLabelOf mixed (renamed mixing.to e)
  label_there e over = subst (λ (k : ℕ). IsOver k (length mixed.names) (renamed mixing.to e)) (sym aliases_many)
      (over_renamed mixing.to n (length mixed.names) to_below (length file.aliases) e over)

  guard_there : (guard : GuardData) → IsGuard file guard → IsGuard mixed (mixed_guard n mixing guard)
  guard_there (stated e) over = label_there e over
  guard_there of_state over = tt
  guard_there (at_letter k) over = tt

  option_there : (label : Option Expression) → IfSome label (IsLabelOf file) →
      IfSome (option_map (renamed mixing.to) label) (IsLabelOf mixed)
  option_there None over = over
  option_there (Some e) over = label_there e over

  edge_there : (e : EdgeData) → IsSoundEdge file e → IsSoundEdge mixed (mixed_edge n mixing e)
  edge_there e edge = record { guard = guard_there e.guard edge.guard; target = edge.target; marks = edge.marks }

  row_sound : (row : RowData) → All IsWithLabel row.edges → IsSoundRow file row →
      IsSoundRow mixed (mixed_row n mixing row)
  row_sound row with_label sound_row = record {
    state = sound_row.state;
    label = option_there row.label sound_row.label;
    marks = sound_row.marks;
    edges = All-map (IsSoundEdge mixed) (mixed_edge n mixing) row.edges
        (λ k d within. edge_there (get_or row.edges k d) (sound_row.edges k d within));
    labelled = labelled_there n mixing (length mixed.names) row.label row.edges with_label sound_row.labelled;
  }

  pub mixed_is_sound : HasLabels file → IsSoundFile mixed
  mixed_is_sound with_labels = record {
    states = sound.states;
    start = sound.start;
    few_names = subst (λ (k : ℕ). k ≤ proposition_limit) (sym count) sound.few_names;
    names = names_there;
    controllable = record {
      all = moved_below file.controllable sound.controllable.all;
      different = moved_differ file.controllable sound.controllable.different;
    };
    few_aliases = subst (λ (k : ℕ). k ≤ alias_limit) (sym aliases_many) sound.few_aliases;
    aliases = aliases_over mixing.to n (length mixed.names) to_below 0 file.aliases sound.aliases;
    sets = sound.sets;
    condition = sound.condition;
    rows = All-map (IsSoundRow mixed) (mixed_row n mixing) file.rows (λ k d within.
        row_sound (get_or file.rows k d) (with_labels k d within) (sound.rows k d within));
    rows_once = rows_once n mixing file.rows sound.rows_once;
    few_edges = subst (λ (k : ℕ). k ≤ edge_limit) (sym (edges_there n mixing file.rows)) sound.few_edges;
  }
