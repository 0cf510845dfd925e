-- A file with its propositions mixed.
-- - `IsMixingOf file mixing`: the mixing keeps the order of the controllable propositions, and that of the others
-- - `mixed_file mixing file`: the file with its propositions moved: in the list of names, in the list of controllable
--   propositions, in labels and in implicit labels
-- - `HasLabels file`: the file states a label for each edge, or for its state
-- - `moved_word mixing file word`: the word with the file's propositions moved in each letter
use Rattle.std.specs.Prelude.{◌≢◌, ℕ, List, [], length, map, option_map, slice_index_or}
use Rattle.std.specs.List.{All, range_with_len}
use Rattle.ps_label.specs.Expression.{Expression, constant, proposition, alias, not_of, all_of, any_of, Operands, last}
use Rattle.ps_label.specs.Expression.{more}
use Rattle.ps_hoa.specs.Files.{GuardData, EdgeData, RowData, FileData, stated, of_state, at_letter, is_among}
use Rattle.ps_mixing.specs.Mixings.{Mixing, IsMixing, moved}

abbrev pub IsMixingOf : FileData → Mixing → Type 0
IsMixingOf file mixing = IsMixing (length file.names) (λ p. is_among p file.controllable) mixing

abbrev pub moved_word : Mixing → FileData → List ℕ → List ℕ
moved_word mixing file word = map (moved (length file.names) mixing.from) word

-- the expression with each proposition p renamed to (to p)
abbrev mutual
  pub renamed : (ℕ → ℕ) → Expression → Expression
  renamed to (constant b) = constant b
  renamed to (proposition p) = proposition (to p)
  renamed to (alias k) = alias k
  renamed to (not_of e) = not_of (renamed to e)
  renamed to (all_of es) = all_of (all_renamed to es)
  renamed to (any_of es) = any_of (all_renamed to es)

  pub all_renamed : (ℕ → ℕ) → Operands → Operands
  all_renamed to last = last
  all_renamed to (more e es) = more (renamed to e) (all_renamed to es)

abbrev pub mixed_guard : ℕ → Mixing → GuardData → GuardData
mixed_guard n mixing (stated e) = stated (renamed mixing.to e)
mixed_guard n mixing of_state = of_state
mixed_guard n mixing (at_letter k) = at_letter (moved n mixing.from k)

abbrev pub mixed_edge : ℕ → Mixing → EdgeData → EdgeData
mixed_edge n mixing e =
    record { guard = mixed_guard n mixing e.guard; target = e.target; marks = e.marks }

abbrev pub mixed_row : ℕ → Mixing → RowData → RowData
mixed_row n mixing row =
    record {
      state = row.state;
      label = option_map (renamed mixing.to) row.label;
      marks = row.marks;
      edges = map (mixed_edge n mixing) row.edges;
    }

abbrev pub mixed_names : Mixing → List (List ℕ) → List (List ℕ)
mixed_names mixing names = map (λ p. slice_index_or names (mixing.from p) []) (range_with_len 0 (length names))

abbrev pub mixed_file : Mixing → FileData → FileData
mixed_file mixing file =
    record {
      states = file.states;
      start = file.start;
      names = mixed_names mixing file.names;
      controllable = map mixing.to file.controllable;
      aliases = map (renamed mixing.to) file.aliases;
      sets = file.sets;
      condition = file.condition;
      rows = map (mixed_row (length file.names) mixing) file.rows;
    }

-- the edge is not taken at a single letter, which its place in its state's row states
abbrev pub IsWithLabel : EdgeData → Type 0
IsWithLabel e = (k : ℕ) → e.guard ≢ at_letter k

abbrev pub HasLabels : FileData → Type 0
HasLabels file = All (λ row. All IsWithLabel row.edges) file.rows
