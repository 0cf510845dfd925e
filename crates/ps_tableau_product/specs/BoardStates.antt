-- The tableau whose states are some sets of a board, each with its edges. A state's number is the place of its set.
use Rattle.std.specs.Prelude.{◌<◌, ℕ, List, [], length, map, slice_index, slice_index_or}
use Rattle.ps_formula.specs.NormalForms.{normal_formula_at}
use Rattle.ps_tableau.specs.Boards.{AreEdgesOf, covers_of, formulas_in}
use Rattle.ps_tableau.specs.Runs.{Tableau}
use Rattle.ps_tableau.specs.declared.board.Board.{Board}
use Rattle.ps_tableau.specs.declared.edge.Edge.{Edge}

abbrev pub edges_of_state : List (List Edge) → ℕ → List Edge
edges_of_state edges q = slice_index_or edges q []

abbrev pub tableau_of_states : Board → (sets : List ℕ) → (edges : List (List Edge)) → Tableau
tableau_of_states b sets edges = record {
  count = length sets;
  obligations = λ q. formulas_in b (slice_index sets q);
  covers = λ q. covers_of b (edges_of_state edges q);
  untils = map (normal_formula_at b.formulas) b.untils.items;
}

-- the edges of each state; a set that an edge asks for next need not be a state
pub record AreStatesOf (b : Board) (sets : List ℕ) (edges : List (List Edge)) : Type 0 where
  pub exact : (q : ℕ) → q < length sets → AreEdgesOf b (slice_index sets q) (edges_of_state edges q)
