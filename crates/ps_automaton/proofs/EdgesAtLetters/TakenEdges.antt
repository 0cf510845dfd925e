-- Lemmas about the edges of a state that are taken at a letter, and about two edges that clash (`AreClashing`).
-- - `clash_of`: two edges that are taken at the same letter clash if they differ in their targets or acceptance sets
-- - `edge_of`, `goes_of`: if `Goes` holds for a state at a letter, an edge of the state is taken at the letter, and
--   conversely
use Rattle.std.proofs.Common.{arith, ◌≡◌, ◌∙◌, ℕ, ◌^◌, ◌<◌, Bool, length, Some, slice_get, ap}
use Rattle.std.proofs.lemmas.Option.{slice_get_within}
use Rattle.ps_hoa.specs.Files.{EdgeData, RowData, FileData}
use Rattle.ps_hoa.specs.Edges.{row_of, IsTaken, is_marked, Goes}
use Rattle.ps_automaton.specs.Answers.{AreAlike, AreClashing}
use Rattle.ps_automaton.specs.Inner.Drafts.{TakenEdge}

module _ {file : FileData} {row : RowData} where
  pub clash_of : {first second letter : ℕ} {one other : EdgeData} → first < second →
      slice_get row.edges first ≡ Some one → slice_get row.edges second ≡ Some other → letter < 2 ^ length file.names →
      IsTaken file row one letter → IsTaken file row other letter → (AreAlike row one other → ⊥) →
      AreClashing file row first second
  clash_of {letter} {one} {other} earlier at_first at_second small one_taken other_taken differ = grind arith

  module _ {q : ℕ} (of_state : row_of file q ≡ Some row) {letter : ℕ} where
    pub edge_of : {sets : ℕ → Bool} {next : ℕ} → Goes file q letter sets next →
        (e : TakenEdge file row (length row.edges) letter) × ((set : ℕ) → sets set ≡ is_marked row e.edge set) ×
        (e.edge.target ≡ next)
    edge_of g =
        let same : g.row ≡ row = cc in
        let at = rw same at g.at_place in (
          grind (arith, slice_get_within row.edges g.place g.edge at),
          λ set. g.marked set
              ∙ ap (λ r. is_marked r g.edge set) same,
          g.target,
        )

    pub goes_of : {count : ℕ} → letter < 2 ^ length file.names → (e : TakenEdge file row count letter) →
        Goes file q letter (is_marked row e.edge) e.edge.target
    goes_of small e = grind arith
