-- What the sentences of a parting stand for.
-- - `lists_of p`: the lists of indices of antecedents
-- - `sentence_of p s`: the formulas of a sentence
-- - `IsPartingOf nodes root p`: the sentences are those of the formula with this index
use Rattle.std.specs.Prelude.{◌<◌, ℕ, List, [], length, map, slice_index_or}
use Rattle.std.specs.List.{AllByRecursion}
use Rattle.ps_formula.specs.Formulas.{formula_at}
use Rattle.ps_formula.specs.declared.node.Node.{Node}
use Rattle.ps_sentences.specs.Sentences.{AreSentencesOf, SentenceData}
use Rattle.ps_sentences.specs.Tables.{AreIn, IsGrownTable, listed_formulas}
use Rattle.ps_sentences.specs.declared.parting.Parting.{Parting}
use Rattle.ps_sentences.specs.declared.parting.Sentence.{Sentence}

abbrev pub lists_of : Parting → List (List ℕ)
lists_of p = map (λ v. v.items) p.lists.items

abbrev pub sentence_in : List Node → List (List ℕ) → Sentence → SentenceData
sentence_in nodes lists s = record {
  antecedents = listed_formulas nodes (slice_index_or lists s.antecedents []);
  consequent = formula_at nodes s.consequent;
}

abbrev pub sentence_of : Parting → Sentence → SentenceData
sentence_of p s = sentence_in p.table (lists_of p) s

-- the sentence's list is there, and its formulas are in the table
pub record IsSentenceIn (nodes : List Node) (lists : List (List ℕ)) (s : Sentence) : Type 0 where
  pub list : s.antecedents < length lists
  pub antecedents : AreIn nodes (slice_index_or lists s.antecedents [])
  pub consequent : s.consequent < length nodes

abbrev pub IsSentenceOf : Parting → Sentence → Type 0
IsSentenceOf p s = IsSentenceIn p.table (lists_of p) s

abbrev pub AreSentencesIn : List Node → List (List ℕ) → List Sentence → Type 0
AreSentencesIn nodes lists sentences = AllByRecursion (IsSentenceIn nodes lists) sentences

pub record IsPartingOf (nodes : List Node) (root : ℕ) (p : Parting) : Type 0 where
  pub grows : IsGrownTable nodes p.table
  pub sentences : AreSentencesIn p.table (lists_of p) p.sentences.items
  pub same : AreSentencesOf (formula_at nodes root) (map (sentence_of p) p.sentences.items)
