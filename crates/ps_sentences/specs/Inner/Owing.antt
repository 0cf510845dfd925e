-- Sentences, some of which are still to be taken apart.
-- - `Owes f p pending`: f is equivalent to the conjunction of the sentences of p and the pending ones
-- - `IsUnparted nodes p`: p has the table `nodes`, one list, without antecedents, and no sentences
-- - `TakesOne p pending q rest`: if f is what p and the pending sentences state, it is what q and the rest state
-- - `AddsList p list formula q added`: q has one more list, of a list of p and the conjuncts of a formula
use Rattle.std.specs.Prelude.{◌≡◌, ◌↔◌, ℕ, ◌++◌, List, [], ◌∷◌, Option, None, Some, map, slice_index_or, length}
use Rattle.std.specs.List.{AllByRecursion}
use Rattle.ps_formula.specs.Formulas.{Formula, formula_at}
use Rattle.ps_formula.specs.declared.node.Node.{Node}
use Rattle.ps_formula.specs.Satisfaction.{IsDecidedWord, Satisfies}
use Rattle.ps_sentences.specs.Inner.Conjuncts.{AreConjunctsOf}
use Rattle.ps_sentences.specs.Partings.{AreSentencesIn, lists_of, sentence_of}
use Rattle.ps_sentences.specs.Sentences.{IsObeyed}
use Rattle.ps_sentences.specs.Tables.{IsGrownTable}
use Rattle.ps_sentences.specs.declared.parting.Parting.{Parting}
use Rattle.ps_sentences.specs.declared.parting.Sentence.{Sentence}

abbrev pub AreObeyed : Parting → (ℕ → ℕ) → ℕ → List Sentence → Type 0
AreObeyed p w i sentences = AllByRecursion (IsObeyed w i) (map (sentence_of p) sentences)

abbrev pub sentence_with : ℕ → ℕ → Sentence
sentence_with list consequent = record { antecedents = list; consequent = consequent }

pub record Owes (f : Formula) (p : Parting) (rest : List Sentence) : Type 0 where
  pub sentences : AreSentencesIn p.table (lists_of p) p.sentences.items
  pub pending : AreSentencesIn p.table (lists_of p) rest
  pub same : (w : ℕ → ℕ) (i : ℕ) → IsDecidedWord w →
      (Satisfies f w i) ↔ (AreObeyed p w i p.sentences.items × AreObeyed p w i rest)

pub record TakesOne (p : Parting) (pending : List Sentence) (q : Parting) (rest : List Sentence) : Type 0 where
  pub grows : IsGrownTable p.table q.table
  pub keeps : (f : Formula) → Owes f p pending → Owes f q rest

pub record IsUnparted (nodes : List Node) (p : Parting) : Type 0 where
  pub table : p.table ≡ nodes
  pub lists : lists_of p ≡ [] ∷ []
  pub none : p.sentences.items ≡ []

pub record IsKept (p q : Parting) : Type 0 where
  pub grows : IsGrownTable p.table q.table
  pub sentences : q.sentences.items ≡ p.sentences.items

pub record IsListed (p : Parting) (list formula : ℕ) (q : Parting) (index : ℕ) : Type 0 where
  pub parts : List ℕ
  pub are : AreConjunctsOf (formula_at p.table formula) p.table q.table parts
  pub is : index ≡ length (lists_of p)
  pub lists : lists_of q ≡ lists_of p ++ (slice_index_or (lists_of p) list [] ++ parts) ∷ []

-- the table grows, and the sentences stay; None tells that no list is added
abbrev pub AddsList : Parting → (list formula : ℕ) → Parting → Option ℕ → Type 0
AddsList p list formula q None = IsKept p q × (lists_of q ≡ lists_of p)
AddsList p list formula q (Some index) = IsKept p q × IsListed p list formula q index
