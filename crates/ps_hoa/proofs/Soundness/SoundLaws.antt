-- Consequences of the soundness of a file, for the crates that depend on this one.
-- - `label_within`: the labels of the file use only propositions less than 64
-- - `aliases_ordered`: each alias uses only earlier aliases
-- - `sound_row`, `sound_edge`: in a sound file, the row of each state is sound, and so is each edge of a sound row
-- - `row_of_state`: the row of a state is sound, and belongs to that state
use Rattle.std.proofs.Common.{◌≡◌, ℕ, zero, suc, ◌+◌, ◌≤◌, List, [], ◌∷◌, length, Some, sym, subst, arith, inl, inr}
use Rattle.std.specs.List.{All, AllByRecursion, slice_get}
use Rattle.std.proofs.lemmas.Bool.Decides.{eqb_tells}
use Rattle.ps_label.specs.Expression.{Expression, constant, proposition, alias, not_of, all_of, any_of, Operands, last}
use Rattle.ps_label.specs.Expression.{more, IsOver, AreOver, AreOverFrom, AreOrdered}
use Rattle.ps_text.proofs.Combinators.Simple.{none_is_some, same_some}
use Rattle.ps_hoa.specs.Edges.{row_among, row_of}
use Rattle.ps_hoa.specs.Files.{EdgeData, RowData, FileData, stated}
use Rattle.ps_hoa.specs.Sound.{IsSoundEdge, IsSoundRow, IsSoundFile}

mutual
  pub label_within : (names count : ℕ) (e : Expression) → count ≤ 64 → IsOver names count e → IsOver names 64 e
  label_within names count (constant b) l i = tt
  label_within names count (proposition p) l i = omega arith
  label_within names count (alias k) l i = i
  label_within names count (not_of e) l i = label_within names count e l i
  label_within names count (all_of es) l i = labels_within names count es l i
  label_within names count (any_of es) l i = labels_within names count es l i

  labels_within : (names count : ℕ) (es : Operands) → count ≤ 64 → AreOver names count es → AreOver names 64 es
  labels_within names count last l i = tt
  labels_within names count (more e es) l i = (label_within names count e l i.0, labels_within names count es l i.1)

pub aliases_ordered : (k count : ℕ) (es : List Expression) → count ≤ 64 → AreOverFrom k count es → AreOverFrom k 64 es
aliases_ordered k count [] l a = tt
aliases_ordered k count (e ∷ es) l a = (label_within k count e l a.0, aliases_ordered (k + 1) count es l a.1)

pub all_at : {X : Type 0} (P : X → Type 0) (xs : List X) → AllByRecursion P xs → All P xs
all_at P [] a k d l = absurd (omega arith)
all_at P (x ∷ xs) a zero d l = a.0
all_at P (x ∷ xs) a (suc k) d l = all_at P xs a.1 k d (omega arith)

pub all_get : {X : Type 0} (P : X → Type 0) (xs : List X) → All P xs → (k : ℕ) (x : X) → slice_get xs k ≡ Some x → P x
all_get P [] a k x e = absurd (none_is_some x e)
all_get P (y ∷ xs) a zero x e = subst P (same_some y x e) (a 0 y (omega arith))
all_get P (y ∷ xs) a (suc k) x e = all_get P xs (λ n d l. a (suc n) d (omega arith)) k x e

pub sound_edge : (file : FileData) (row : RowData) → IsSoundRow file row → (place : ℕ) (edge : EdgeData) →
    slice_get row.edges place ≡ Some edge → IsSoundEdge file edge
sound_edge file row r j edge e = all_get (IsSoundEdge file) row.edges r.edges j edge e

module _ (file : FileData) (s : IsSoundFile file) where
  pub sound_aliases_ordered : AreOrdered file.aliases
  sound_aliases_ordered = aliases_ordered 0 (length file.names) file.aliases s.few_names s.aliases

  pub sound_row : (k : ℕ) (row : RowData) → slice_get file.rows k ≡ Some row → IsSoundRow file row
  sound_row k row e = all_get (IsSoundRow file) file.rows s.rows k row e

  pub edge_label : (edge : EdgeData) → IsSoundEdge file edge → (e : Expression) → edge.guard ≡ stated e →
      IsOver (length file.aliases) 64 e
  edge_label edge i e g = label_within (length file.aliases) (length file.names) e s.few_names (grind arith)

  pub state_label : (row : RowData) → IsSoundRow file row → (e : Expression) → row.label ≡ Some e →
      IsOver (length file.aliases) 64 e
  state_label row r e l = label_within (length file.aliases) (length file.names) e s.few_names (grind arith)

  among : (rows : List RowData) (q : ℕ) (row : RowData) → All (IsSoundRow file) rows → row_among rows q ≡ Some row →
      IsSoundRow file row × (row.state ≡ q)
  among [] q row a e = absurd (none_is_some row e)
  among (r ∷ rows) q row a e = (elim (eqb_tells q r.state) [
    | inl n ↦ (let same : r ≡ row = same_some r row (rw n.0 at e) in rw (← same) (a 0 r (omega arith), sym n.1))
    | inr n ↦ among rows q row (λ k d l. a (suc k) d (omega arith)) (rw n.0 at e)
  ])

  pub row_of_state : (q : ℕ) (row : RowData) → row_of file q ≡ Some row → IsSoundRow file row × (row.state ≡ q)
  row_of_state q row e = among file.rows q row s.rows e
