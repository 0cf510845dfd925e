-- Lemmas about the edges of a state whose row in the file is well formed (`IsSoundRow`): their letters, acceptance sets
-- and targets.
use Rattle.std.proofs.Common.{◌≡◌, ℕ, zero, suc, ◌+◌, ◌^◌, ◌<◌, ◌≤◌, inl, inr, false, List, [], ◌∷◌, length, map}
use Rattle.std.proofs.Common.{get_or, Option, Some, None, refl, sym, ap, ◌∙◌, arith, add-zero}
use Rattle.std.specs.List.{All, slice_get}
use Rattle.std.specs.Int.{bit_at}
use Rattle.std.proofs.lemmas.Bool.{cases_lt}
use Rattle.std.proofs.lemmas.Option.{slice_get-map, slice_get_read, slice_get_within}
use Rattle.std.proofs.lemmas.Nat.Bits.{same_from_bits_below}
use Rattle.ps_label.specs.Expression.{Expression}
use Rattle.ps_hoa.specs.Edges.{is_marked}
use Rattle.ps_hoa.specs.Files.{EdgeData, RowData, FileData, at_letter, is_among}
use Rattle.ps_hoa.specs.Sound.{AreAtLetters, AreBelow, AreLabelled, IsOfState}
use Rattle.ps_hoa.specs.Sound.{IsSoundFile, IsSoundRow, IsStated}
use Rattle.ps_hoa.specs.Views.{edge_data, row_data}
use Rattle.ps_hoa.specs.declared.file.Edge.{Edge}
use Rattle.ps_hoa.proofs.Soundness.SoundLaws.{all_at, all_get, sound_edge}
use Rattle.ps_diagram.specs.Table.{Table}
use Rattle.ps_automaton.specs.Answers.{AreAlike}
use Rattle.ps_automaton.specs.Inner.Drafts.{IsByLetters, IsFit, IsReady, IsReadyTo}
use Rattle.ps_automaton.specs.Inner.Targets.{IsTargetOf}
use Rattle.ps_automaton.specs.declared.guards.Guards.{Guards}
use Rattle.ps_automaton.specs.declared.targets.Target.{Target}

-- ## Guards

pub by_letter : (k : ℕ) (es : List EdgeData) → AreAtLetters k es → (j : ℕ) {e : EdgeData} → slice_get es j ≡ Some e →
    e.guard ≡ at_letter (k + j)
by_letter k [] a j at = cc
by_letter k (d ∷ es) a zero at = cc (a.0, add-zero k)
by_letter k (d ∷ es) a (suc j) at = by_letter (k + 1) es a.1 j at ∙ ap at_letter (omega arith)

labelled_letter : (count : ℕ) (label : Option Expression) (es : List EdgeData) → AreLabelled count label es →
    (j : ℕ) {e : EdgeData} → slice_get es j ≡ Some e → (k : ℕ) → e.guard ≡ at_letter k → k < 2 ^ count
labelled_letter count (Some l) es a j {e} at k is = cc (all_get IsOfState es (all_at IsOfState es a) j e at)
labelled_letter count None es (inl a) j {e} at k is = cc ((all_get IsStated es (all_at IsStated es a) j e at).1)
labelled_letter count None es (inr a) j {e} at k is = grind (arith, by_letter, slice_get_within)

-- if the first edge of a state has an implicit label, the state has one edge for each letter, in the order of the
-- letters
pub by_letters_of : {file : FileData} {row : RowData} → IsSoundRow file row → {e : EdgeData} (k : ℕ) →
    slice_get row.edges 0 ≡ Some e → e.guard ≡ at_letter k → IsByLetters file row
by_letters_of {file} {row} s {e} k at is = by_label row.label s.labelled
  where
    by_label : (label : Option Expression) → AreLabelled (length file.names) label row.edges → IsByLetters file row
    by_label (Some l) a = cc (all_get IsOfState row.edges (all_at IsOfState row.edges a) 0 e at)
    by_label None (inl a) = cc ((all_get IsStated row.edges (all_at IsStated row.edges a) 0 e at).1)
    by_label None (inr a) = a

module _ {file : FileData} (sound : IsSoundFile file) {row : RowData} (row_sound : IsSoundRow file row) where
  pub fits : (j : ℕ) {e : EdgeData} → slice_get row.edges j ≡ Some e → IsFit file e.guard
  fits j {e} at = grind (arith, sound_edge, labelled_letter)

  few_of : {ns : List ℕ} → AreBelow file.sets ns → All (λ set. set < 64) ns
  few_of b k d l = let h = b.all k d l in let s = sound.sets in omega (arith, h, s)

  pub row_marks_few : All (λ set. set < 64) row.marks
  row_marks_few = few_of row_sound.marks

  pub edge_marks_few : (j : ℕ) {e : EdgeData} → slice_get row.edges j ≡ Some e → All (λ set. set < 64) e.marks
  edge_marks_few j {e} at = few_of (sound_edge file row row_sound j e at).marks

  -- ## Targets

  not_among : (set : ℕ) (ns : List ℕ) → All (λ n. n < 64) ns → 64 ≤ set → is_among set ns ≡ false
  not_among set [] few high = refl
  not_among set (n ∷ ns) few high = grind (
    arith,
    few 0 n (omega arith),
    not_among set ns (λ k d l. few (suc k) d (omega arith)) high,
  )

  unmarked : (set j : ℕ) {e : EdgeData} → slice_get row.edges j ≡ Some e → 64 ≤ set → is_marked row e set ≡ false
  unmarked set j {e} at high = grind (arith, not_among, row_marks_few, edge_marks_few)

  pub alike_of_target : (j k : ℕ) {one other : EdgeData} {target : Target} → slice_get row.edges j ≡ Some one →
      slice_get row.edges k ≡ Some other →
      IsTargetOf row one target → IsTargetOf row other target → AreAlike row one other
  alike_of_target j k at_j at_k a b = grind (arith, cases_lt, unmarked)

pub target_of_alike : {row : RowData} {one other : EdgeData} {s t : Target} → IsTargetOf row one s →
    IsTargetOf row other t → AreAlike row one other → s ≡ t
target_of_alike {s} {t} a b alike =
    let state = a.state ∙ alike.0 ∙ sym b.state in
    let bits : (i : ℕ) → i < 64 → bit_at s.sets i ≡ bit_at t.sets i = grind arith in
    grind (arith, same_from_bits_below 64 s.sets t.sets a.few b.few bits)

-- the abstract value of the edge at index k is at index k of the list of abstract values
pub edge_at : (items : List Edge) (k : ℕ) {e : Edge} → k < length items → e ≡ get_or items k e →
    slice_get (map edge_data items) k ≡ Some (edge_data e)
edge_at items k {e} within is = grind (arith, slice_get-map, slice_get_read)

-- if `IsReady` holds for a row, `IsReadyTo`, the precondition for building the diagram of an edge, holds for each edge
-- of the row
pub ready_to : (j : ℕ) {t : Table} {g : Guards} {edge : Edge} → IsReady t g →
    slice_get (row_data g.row.now).edges j ≡ Some (edge_data edge) → IsReadyTo t g edge
ready_to j ready at = record { ready = ready; fit = fits ready.sound ready.row j at }
