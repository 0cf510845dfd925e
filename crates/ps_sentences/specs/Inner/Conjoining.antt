-- Conjunctions of lists in a table that grows.
-- - `IsConjoined nodes lists new known`: a formula of the table `new` is the conjunction of a list of `nodes`
-- - `IsConjoinedFor nodes lists list old new known`: this list, and the table has grown from `old`
use Rattle.std.specs.Prelude.{◌≡◌, ◌<◌, ◌↔◌, ℕ, List, [], length, slice_index_or}
use Rattle.ps_formula.specs.Formulas.{formula_at}
use Rattle.ps_formula.specs.Satisfaction.{Satisfies}
use Rattle.ps_formula.specs.declared.node.Node.{Node}
use Rattle.ps_sentences.specs.Sentences.{AllHold}
use Rattle.ps_sentences.specs.Tables.{IsGrownTable, listed_formulas}
use Rattle.ps_sentences.specs.declared.joining.Conjoined.{Conjoined}

pub record IsConjoined (nodes : List Node) (lists : List (List ℕ)) (new : List Node) (known : Conjoined) : Type 0 where
  pub there : known.conjunction < length new
  pub same : (w : ℕ → ℕ) (i : ℕ) → (Satisfies (formula_at new known.conjunction) w i) ↔
      (AllHold w i (listed_formulas nodes (slice_index_or lists known.list [])))

pub record IsConjoinedFor (nodes : List Node) (lists : List (List ℕ)) (list : ℕ) (old new : List Node)
    (known : Conjoined) : Type 0 where
  pub grows : IsGrownTable old new
  pub list_is : known.list ≡ list
  pub is : IsConjoined nodes lists new known
